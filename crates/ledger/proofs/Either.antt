-- A call that is done leaves the new bytes and the ledger its next state; one that is refused leaves both as they were. So what holds of the two
-- cases holds of the call.
use Rattle.std.specs.Prelude.{Ok}
use mathlib.Core.Path.{◌≡◌, refl}
use mathlib.Core.Logic.{⊎_elim}
use Rattle.store.specs.Answer.{after, Answer}
use Rattle.store.proofs.Gates.{after_done, after_refused, after_cases}
use Rattle.ledger.specs.Ledger.{Ledger}
use Rattle.store.specs.Store.{Store}
use Rattle.ledger.specs.LedgerOf.{ledger_of, SoundStore}

-- what a call leaves, and the ledger after it
pub record Left (s : Store) (L : Ledger) : Type 0 where
  pub ledger : ledger_of s ≡ L
  pub sound : SoundStore s

pub either : (a b : Answer) (s s' : Store) (L' : Ledger) → a ≡ b → SoundStore s → (a ≡ Ok tt → Left s' L') → Left (after a s' s) (after b L' (ledger_of s))
either a b s s' L' same h done =
    ⊎_elim
    (λ d. rw (← same, d.1, after_done a L' (ledger_of s) d.0) (done d.0))
    (λ r. rw (← same, r.1, after_refused a L' (ledger_of s) r.0) (record { ledger = refl; sound = h }))
    (after_cases a s' s)
