-- The two views: the refusals of each in the order of their numbers, and where in the MST the field
-- lies; nowhere, and empty, where the view is refused. Document 01, "What is built", "Records" and
-- "Answer numbers"; request C-15.
use Rattle.std.specs.Prelude.{ℕ, ◌+◌, ◌&&◌, cond, List, [], ◌∷◌, eqb, Result, Ok, Err}
use Rattle.word.specs.Overwrite.{part}
use Rattle.layout.specs.Entry.{place_address}
use Rattle.layout.specs.declared.entry.Place.{Place}
use Rattle.record.specs.Fields.{Field, fields_of, occurrences_of, is_missing, is_fewer, find_of}
use Rattle.record.specs.declared.fields.Span.{Span}
use Rattle.record.specs.declared.fields.NotFound.{NotFound}
use Rattle.store.specs.Store.{Store}
use Rattle.store.specs.Answer.{number_of, Row, refuse, lowest, after, Answer}
use Rattle.store.specs.Reading.{place_for, is_settled, is_changed, is_new, record_at, leader_at, back_address, shown_settled}
use Rattle.store.specs.Refusals.{gated, named, fine, both_fine}
use Rattle.store.specs.declared.answer.Refusal.{Refusal}
use Rattle.store.specs.declared.answer.Refusal.TheVariants.{BadLength, BadControl, BadDraft, NoMfn, NoSlot, BadEntry, Gone, BadRecord, Deleted, NotPending, NeverSettled, NoField, NoRoom, NotSound, FewerFields, NoRoomInList}

-- ---- refusals

-- 1, 2, 4, 6, 7, 8 and 9, for calls that show the current version
abbrev pub on_current : Store → ℕ → List Row → List Row
on_current s m rest = gated s (named s m (fine s m) (refuse Deleted (place_for s m).deleted ∷ rest))

-- the same and 11, for calls that show the settled version: 9 if deleted and settled
abbrev pub on_settled : Store → ℕ → List Row → List Row
on_settled s m rest =
    gated s
    (named s m (both_fine s m)
    (refuse Deleted ((place_for s m).deleted && is_settled (place_for s m).mark)
    ∷ refuse NeverSettled (is_new (place_for s m).mark)
    ∷ rest))

-- 12 if occurrence 0 is asked or the tag does not occur, and 15 if it occurs fewer times than
-- asked, among the fields of the version
abbrev pub among_fields : List Field → ℕ → ℕ → List Row
among_fields fs tag occ = refuse NoField (is_missing fs tag occ) ∷ refuse (FewerFields (occurrences_of fs tag)) (is_fewer fs tag occ) ∷ []

-- the current view
abbrev pub view_refusals : Store → ℕ → ℕ → ℕ → List Row
view_refusals s m tag occ = on_current s m (among_fields (fields_of (record_at s.mst (place_for s m))) tag occ)

unfoldable pub view_answer : Store → ℕ → ℕ → ℕ → Answer
view_answer s m tag occ = lowest (view_refusals s m tag occ)

-- the settled view
abbrev pub settled_view_refusals : Store → ℕ → ℕ → ℕ → List Row
settled_view_refusals s m tag occ = on_settled s m (among_fields (fields_of (shown_settled s.mst (place_for s m))) tag occ)

unfoldable pub settled_view_answer : Store → ℕ → ℕ → ℕ → Answer
settled_view_answer s m tag occ = lowest (settled_view_refusals s m tag occ)

-- ---- what is shown

-- the answer of a view, where in the MST the field lies, and with answer 15 how often the tag
-- occurs
pub record Shown : Type 0 where
  pub answer : Answer
  pub start : ℕ
  pub len : ℕ
  pub occurrences : ℕ

-- the number that a refusal tells: how often the tag occurs, where that is fewer times than asked
abbrev pub occurrences_told : Refusal → ℕ
occurrences_told BadLength = 0
occurrences_told BadControl = 0
occurrences_told BadDraft = 0
occurrences_told NoMfn = 0
occurrences_told NoSlot = 0
occurrences_told BadEntry = 0
occurrences_told Gone = 0
occurrences_told BadRecord = 0
occurrences_told Deleted = 0
occurrences_told NotPending = 0
occurrences_told NeverSettled = 0
occurrences_told NoField = 0
occurrences_told NoRoom = 0
occurrences_told NotSound = 0
occurrences_told (FewerFields occurrences) = occurrences
occurrences_told NoRoomInList = 0

-- what a view that came out so shows: nowhere and empty, where it is refused
abbrev pub shown : Result Span Refusal → Shown
shown (Ok s) = record { answer = Ok tt; start = s.start; len = s.len; occurrences = 0 }
shown (Err r) = record { answer = Err r; start = 0; len = 0; occurrences = occurrences_told r }

abbrev pub found_start : Result Span NotFound → ℕ
found_start (Ok s) = s.start
found_start (Err n) = 0

abbrev pub found_length : Result Span NotFound → ℕ
found_length (Ok s) = s.len
found_length (Err n) = 0

-- the number of occurrences comes with 15, and 0 with every other answer
unfoldable pub occurrences_with : Answer → ℕ → ℕ
occurrences_with a n = cond (eqb (number_of a) 15) n 0

-- the field of a tag and an occurrence in a record at an address
unfoldable pub shown_at : Answer → ℕ → List ℕ → ℕ → ℕ → Shown
shown_at a at rec tag occ =
    record {
      answer = a;
      start = after a (at + found_start (find_of rec tag occ)) 0;
      len = after a (found_length (find_of rec tag occ)) 0;
      occurrences = occurrences_with a (occurrences_of (fields_of rec) tag);
    }

unfoldable pub view_of : Store → ℕ → ℕ → ℕ → Shown
view_of s m tag occ = shown_at (view_answer s m tag occ) (place_address (place_for s m)) (record_at s.mst (place_for s m)) tag occ

-- where the record of the settled view begins
abbrev pub settled_address : List ℕ → Place → ℕ
settled_address mst p = cond (is_changed p.mark) (back_address (leader_at mst p)) (place_address p)

unfoldable pub settled_view_of : Store → ℕ → ℕ → ℕ → Shown
settled_view_of s m tag occ =
    shown_at (settled_view_answer s m tag occ) (settled_address s.mst (place_for s m)) (shown_settled s.mst (place_for s m)) tag occ

-- the bytes that a view shows
abbrev pub shown_bytes : List ℕ → Shown → List ℕ
shown_bytes mst r = part mst r.start r.len
