-- What a call of demand 3's list touches: of a sound store any call on one MFN but format, whether it is done or refused (document 01, "A sound
-- store"), and of any two buffers a list of MFNs (request C-13).
use Rattle.std.specs.Prelude.{ℕ, ◌≡◌, List}
use Rattle.store.specs.Store.{Store}
use Rattle.soundness.specs.Touching.{TouchesOnly}
use Rattle.settling.specs.Theorems.{ChangesOnly}
use Rattle.ledger.specs.Call.{Call, format, settle_list}
use Rattle.ledger.specs.StoreRun.{next_s}
use Rattle.ledger.specs.LedgerSteps.{item_mfn, effect_of}
use Rattle.ledger.specs.LedgerOf.{ledger_of, SoundStore}

-- the MFN that a call is about: the one whose item it sets or adds in the ledger
abbrev pub mfn_of : Store → Call → ℕ
mfn_of s c = item_mfn (ledger_of s) (effect_of (ledger_of s) c)

-- THE CLAIM: it touches only that MFN's entry, its record, new bytes at the end and the control integers named
abbrev pub Touches : Type 0
Touches =
    (s : Store) (c : Call) → SoundStore s → (c ≡ format → ⊥) → ((ms : List ℕ) (lent : ℕ) → c ≡ settle_list ms lent → ⊥)
    → TouchesOnly s (next_s s c) (mfn_of s c)

-- and a list of MFNs only their entries and the back pointers of their records
abbrev pub ListTouches : Type 0
ListTouches = (s : Store) (ms : List ℕ) (lent : ℕ) → ChangesOnly s (next_s s (settle_list ms lent)) ms
