-- What firmware asks before it writes: the next MFN and the end of the store, and the mark of an
-- MFN's record and whether it is deleted. A refused call shows 0 and 0.
use Rattle.std.specs.Prelude.{ℕ, Bool, false, cond, List, [], Result, Ok, Err}
use Rattle.files.specs.Control.{next_of, end_of}
use Rattle.files.specs.declared.control.Control.{Control}
use Rattle.layout.specs.declared.sizes.Mfn.{Mfn}
use Rattle.layout.specs.declared.entry.Mark.{Mark}
use Rattle.layout.specs.declared.entry.Mark.TheVariants.{Settled, Changed, New}
use Rattle.store.specs.Store.{Store}
use Rattle.store.specs.Answer.{Row, lowest, after, Answer}
use Rattle.store.specs.Reading.{place_for}
use Rattle.store.specs.Refusals.{gated, named, fine}
use Rattle.store.specs.declared.answer.Refusal.{Refusal}
use Rattle.asking.specs.declared.state.Standing.{Standing}

-- ---- the next MFN: 1 and 2

abbrev pub next_free_refusals : Store → List Row
next_free_refusals s = gated s []

unfoldable pub next_free_answer : Store → Answer
next_free_answer s = lowest (next_free_refusals s)

-- the answer, the next MFN and the address of the end
pub record NextFree : Type 0 where
  pub answer : Answer
  pub next : Mfn
  pub end : ℕ

-- what a call that came out so tells: 0 and 0, where it is refused
abbrev pub next_told : Result Control Refusal → NextFree
next_told (Ok k) = record { answer = Ok tt; next = k.next; end = k.end }
next_told (Err r) = record { answer = Err r; next = record { 0 = 0 }; end = 0 }

abbrev pub next_shown : Answer → List ℕ → NextFree
next_shown a mst = record { answer = a; next = record { 0 = after a (next_of mst) 0 }; end = after a (end_of mst) 0 }

unfoldable pub next_free_of : Store → NextFree
next_free_of s = next_shown (next_free_answer s) s.mst

-- ---- how a record stands: 1, 2, 4, 6, 7 and, of the record itself, 8

abbrev pub state_refusals : Store → ℕ → List Row
state_refusals s m = gated s (named s m (fine s m) [])

unfoldable pub state_answer : Store → ℕ → Answer
state_answer s m = lowest (state_refusals s m)

-- the answer, the mark of a record and whether it is deleted
pub record RecordState : Type 0 where
  pub answer : Answer
  pub mark : Mark
  pub deleted : Bool

-- what a call that came out so tells: settled and live, where it is refused
abbrev pub state_told : Result Standing Refusal → RecordState
state_told (Ok t) = record { answer = Ok tt; mark = t.mark; deleted = t.deleted }
state_told (Err r) = record { answer = Err r; mark = Settled; deleted = false }

abbrev pub state_shown : Answer → Mark → Bool → RecordState
state_shown a mark deleted = record { answer = a; mark = after a mark Settled; deleted = after a deleted false }

unfoldable pub state_of : Store → ℕ → RecordState
state_of s m = state_shown (state_answer s m) (place_for s m).mark (place_for s m).deleted

-- ---- as numbers

abbrev pub mark_number : Mark → ℕ
mark_number Settled = 0
mark_number Changed = 1
mark_number New = 2

abbrev pub deleted_number : Bool → ℕ
deleted_number deleted = cond deleted 1 0
