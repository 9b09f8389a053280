-- DEMAND 3, as a statement. The store that a list of calls leaves holds what the ledger keeps after the list, and every answer, MFN, field and
-- number on the way is the ledger's. Document 01, "The ledger of demand 3"; proved in proofs/Theorem.
use Rattle.std.specs.Prelude.{ℕ, ◌≡◌, List, length}
use Rattle.files.specs.Control.{next_of, end_of}
use Rattle.store.specs.Store.{Store, store}
use Rattle.ledger.specs.Call.{Call, format}
use Rattle.ledger.specs.Ledger.{Ledger, next_mfn, empty}
use Rattle.ledger.specs.LedgerSteps.{answers_l, after_l}
use Rattle.ledger.specs.StoreRun.{next_s, answers_s, after_s}
use Rattle.ledger.specs.LedgerOf.{ledger_of, SoundStore}

-- a store holds a ledger
pub record Kept (s : Store) (L : Ledger) : Type 0 where
  -- it is sound
  pub sound : SoundStore s
  -- its bytes say all that the ledger keeps
  pub ledger : ledger_of s ≡ L
  -- NXTMFN and the end in the control record are the ledger's
  pub next : next_of s.mst ≡ next_mfn L
  pub end : end_of s.mst ≡ L.end

-- a store and a ledger agree on a list of calls, refused ones included
pub record Agree (s : Store) (L : Ledger) (cs : List Call) : Type 0 where
  -- every answer, every MFN returned, every field shown and every count, in order
  pub answers : answers_s s cs ≡ answers_l L cs
  -- and what is there after the list
  pub kept : Kept (after_s s cs) (after_l L cs)

-- from any sound store, with the ledger that its bytes give
abbrev pub FromSound : Store → List Call → Type 0
FromSound s cs = Agree s (ledger_of s) cs

-- DEMAND 3: from two buffers just formatted, with the empty ledger
abbrev pub Demand3 : List ℕ → List ℕ → List Call → Type 0
Demand3 mst xrf cs = Agree (next_s (store mst xrf) format) (empty (length mst) (length xrf)) cs
