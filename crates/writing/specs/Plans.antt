-- Inner: serves the functions of this crate, no part of what is promised. What a call has decided before it writes: the refusal, or what the
-- writing half needs to know.
use Rattle.std.specs.Prelude.{Result, ℕ, ◌+◌, ◌≤◌, ◌≡◌, not, ◌&&◌, List, [], ◌∷◌, eqb, length}
use Rattle.layout.specs.Sizes.{xrf_most, mst_most, record_most, capacity_of}
use Rattle.files.specs.CrossReference.{xrf_block, head_right, slot_free}
use Rattle.files.specs.Control.{next_of, end_of}
use Rattle.drafts.specs.Bytes.{need_for}
use Rattle.store.specs.Store.{Store}
use Rattle.drafts.specs.Draft.{Draft, fields_in}
use Rattle.store.specs.Answer.{refuse, lowest, give, Answer}
use Rattle.store.specs.Gate.{reached_if}
use Rattle.store.specs.declared.answer.Refusal.{Refusal}
use Rattle.store.specs.declared.answer.Refusal.TheVariants.{NoSlot, BadEntry, NoRoom}
use Rattle.store.specs.declared.gate.Reached.{Reached}
use Rattle.writing.specs.Refusals.{exceeds, create_answer, settle_answer, revert_answer}
use Rattle.writing.specs.declared.create.Creating.{Creating}

unfoldable pub settle_plan : Store → ℕ → Result Reached Refusal
settle_plan s m = reached_if (settle_answer s m) s m

unfoldable pub revert_plan : Store → ℕ → Result Reached Refusal
revert_plan s m = reached_if (revert_answer s m) s m

-- 5, 6 and 13 of a create, behind an open gate and with a right draft of a need
unfoldable pub slot_answer : Store → ℕ → Answer
slot_answer s need =
    lowest
    (refuse NoSlot (eqb (next_of s.mst) (capacity_of (length s.xrf) + 1))
    ∷ refuse BadEntry (not (head_right s.xrf (xrf_block (next_of s.mst)) && slot_free s.xrf (next_of s.mst)))
    ∷ refuse NoRoom (exceeds s.mst need)
    ∷ [])

-- what is known there
pub record SlotAsked (mst xrf : List ℕ) (next end need : ℕ) : Type 0 where
  pub next_is : next ≡ next_of mst
  pub low : 1 ≤ next
  pub high : next ≤ capacity_of (length xrf) + 1
  pub blocks : length xrf ≤ xrf_most
  pub end_is : end ≡ end_of mst
  pub end_in : end ≤ mst_most
  pub small : need ≤ record_most

-- NXTMFN, the end and the need of a create whose answer is done
unfoldable pub create_plan : Store → Draft → Result Creating Refusal
create_plan s d = give (create_answer s d) (record { next = record { 0 = next_of s.mst }; end = end_of s.mst; need = need_for (fields_in d) })
