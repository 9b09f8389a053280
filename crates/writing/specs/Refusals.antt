-- The refusals of each call that may write, in the order of their numbers, and each call's answer: the lowest that applies.
-- Document 01, "Answer numbers" and the room rule; request C-17 for RECCNT.
use Rattle.std.specs.Prelude.{ℕ, ◌+◌, Bool, true, not, ◌&&◌, ◌||◌, List, [], ◌∷◌, eqb, ltb, length}
use Rattle.layout.specs.Sizes.{capacity_of}
use Rattle.files.specs.CrossReference.{xrf_block, head_right, slot_free}
use Rattle.files.specs.Control.{next_of, end_of, count_full, count_none}
use Rattle.drafts.specs.Bytes.{need_for}
use Rattle.store.specs.Store.{Store}
use Rattle.drafts.specs.Draft.{Draft, is_right, fields_in}
use Rattle.store.specs.Answer.{Row, refuse, lowest, Answer}
use Rattle.store.specs.Reading.{lengths_permitted, control_fine, place_for, is_settled, is_new, leader_at, current_fields}
use Rattle.store.specs.Refusals.{gated, named, fine, both_fine}
use Rattle.store.specs.declared.answer.Refusal.TheVariants.{BadLength, BadControl, BadDraft, NoSlot, BadEntry, Deleted, NotPending, NeverSettled, NoRoom}
use Rattle.versions.specs.Written.{update_appends}

-- end + MFRL exceeds the MST length
unfoldable pub exceeds : List ℕ → ℕ → Bool
exceeds mst need = ltb (length mst) (end_of mst + need)

-- format gives 0 or 1
abbrev pub format_refusals : Store → List Row
format_refusals s = refuse BadLength (not (lengths_permitted s)) ∷ []

unfoldable pub format_answer : Store → Answer
format_answer s = lowest (format_refusals s)

-- 1 and 2, for a call that RECCNT may bar: 2 is given for that too
abbrev pub gated_unless : Store → Bool → List Row → List Row
gated_unless s barred rest =
    refuse BadLength (not (lengths_permitted s))
    ∷ refuse BadControl (not (control_fine s) || barred)
    ∷ rest

-- create: any at 2,147,483,647 is 2; 5 where NXTMFN is capacity + 1; 6 where the new MFN's block is wrong at its first integer, or its slot is not 0
abbrev pub create_refusals : Store → Draft → List Row
create_refusals s d =
    gated_unless s (count_full s.mst)
    (refuse BadDraft (not (is_right d))
    ∷ refuse NoSlot (eqb (next_of s.mst) (capacity_of (length s.xrf) + 1))
    ∷ refuse BadEntry (not (head_right s.xrf (xrf_block (next_of s.mst)) && slot_free s.xrf (next_of s.mst)))
    ∷ refuse NoRoom (exceeds s.mst (need_for (fields_in d)))
    ∷ [])

unfoldable pub create_answer : Store → Draft → Answer
create_answer s d = lowest (create_refusals s d)

abbrev pub update_refusals : Store → ℕ → Draft → List Row
update_refusals s m d =
    gated s
    (refuse BadDraft (not (is_right d))
    ∷ named s m (fine s m)
    (refuse Deleted (place_for s m).deleted
    ∷ refuse NoRoom
    (update_appends (place_for s m) (leader_at s.mst (place_for s m)) (need_for (fields_in d))
    && exceeds s.mst (need_for (fields_in d)))
    ∷ []))

unfoldable pub update_answer : Store → ℕ → Draft → Answer
update_answer s m d = lowest (update_refusals s m d)

-- none of a list of refusals applies
abbrev pub none_of : List Row → Bool
none_of [] = true
none_of (r ∷ rs) = not r.applies && none_of rs

-- 4 to 9 of a delete
abbrev pub delete_named : Store → ℕ → List Row → List Row
delete_named s m rest = named s m (fine s m) (refuse Deleted (place_for s m).deleted ∷ rest)

-- a delete at 0 or below to which none of 4 to 9 applies is 2; it writes at the end where the record is settled
abbrev pub delete_refusals : Store → ℕ → List Row
delete_refusals s m =
    gated_unless s (count_none s.mst && none_of (delete_named s m []))
    (delete_named s m
    (refuse NoRoom
    (is_settled (place_for s m).mark && exceeds s.mst (need_for (current_fields s.mst (place_for s m))))
    ∷ []))

unfoldable pub delete_answer : Store → ℕ → Answer
delete_answer s m = lowest (delete_refusals s m)

abbrev pub settle_refusals : Store → ℕ → List Row
settle_refusals s m = gated s (named s m (fine s m) (refuse NotPending (is_settled (place_for s m).mark) ∷ []))

unfoldable pub settle_answer : Store → ℕ → Answer
settle_answer s m = lowest (settle_refusals s m)

-- any revert at 2,147,483,647 is 2
abbrev pub revert_refusals : Store → ℕ → List Row
revert_refusals s m =
    gated_unless s (count_full s.mst)
    (named s m (both_fine s m)
    (refuse NotPending (is_settled (place_for s m).mark)
    ∷ refuse NeverSettled (is_new (place_for s m).mark)
    ∷ []))

unfoldable pub revert_answer : Store → ℕ → Answer
revert_answer s m = lowest (revert_refusals s m)
