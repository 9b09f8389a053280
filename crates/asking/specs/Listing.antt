-- All fields of a record in one call: the refusals in the order of their numbers, how many fields
-- there are, and what the three lent lists have afterwards: in front the tags, the starts in the
-- MST and the lengths of all fields, in directory order, behind them what was there. A refused call
-- counts 0 and leaves the lists as they are.
use Rattle.std.specs.Prelude.{ℕ, Bool, not, ◌&&◌, List, [], ◌∷◌, leb, ◌≡◌, length, take, drop, Result, Ok, Err}
use Rattle.word.specs.Overwrite.{overwrite, part}
use Rattle.layout.specs.Entry.{place_address}
use Rattle.layout.specs.Leader.{leader_of}
use Rattle.record.specs.Fields.{Field}
use Rattle.walking.specs.Walker.{tags_of, starts_of, lengths_of}
use Rattle.store.specs.Store.{Store}
use Rattle.store.specs.Answer.{Row, refuse, lowest, after, Answer}
use Rattle.store.specs.Reading.{place_for, record_at, shown_settled}
use Rattle.store.specs.declared.answer.Refusal.{Refusal}
use Rattle.store.specs.declared.answer.Refusal.TheVariants.{NoRoomInList}
use Rattle.views.specs.Views.{on_current, on_settled, settled_address}

-- the three lists that are lent
pub record Lists : Type 0 where
  pub tags : List ℕ
  pub starts : List ℕ
  pub lens : List ℕ

abbrev pub lists : List ℕ → List ℕ → List ℕ → Lists
lists tags starts lens = record { tags = tags; starts = starts; lens = lens }

-- the answer, and how many fields the lists have in front
pub record Listed : Type 0 where
  pub answer : Answer
  pub count : ℕ

-- what a call that came out so lists: nothing, where it is refused
abbrev pub listed : Result ℕ Refusal → Listed
listed (Ok n) = record { answer = Ok tt; count = n }
listed (Err r) = record { answer = Err r; count = 0 }

-- three numbers are at least n
unfoldable pub all_at_least : ℕ → ℕ → ℕ → ℕ → Bool
all_at_least n tags starts lens = leb n tags && (leb n starts && leb n lens)

-- 17 where a list is shorter than the number of the record's fields
abbrev pub short_for : List ℕ → Lists → Bool
short_for rec l = not (all_at_least (leader_of rec).nvf (length l.tags) (length l.starts) (length l.lens))

-- ---- refusals, of the current version and of the settled one

abbrev pub all_fields_refusals : Store → ℕ → Lists → List Row
all_fields_refusals s m l = on_current s m (refuse NoRoomInList (short_for (record_at s.mst (place_for s m)) l) ∷ [])

unfoldable pub all_fields_answer : Store → ℕ → Lists → Answer
all_fields_answer s m l = lowest (all_fields_refusals s m l)

abbrev pub settled_all_fields_refusals : Store → ℕ → Lists → List Row
settled_all_fields_refusals s m l = on_settled s m (refuse NoRoomInList (short_for (shown_settled s.mst (place_for s m)) l) ∷ [])

unfoldable pub settled_all_fields_answer : Store → ℕ → Lists → Answer
settled_all_fields_answer s m l = lowest (settled_all_fields_refusals s m l)

-- ---- what is listed

-- the fields of a record at an address, over the fronts of the lists
abbrev pub listed_over : ℕ → List ℕ → Lists → Lists
listed_over at rec l =
    lists (overwrite l.tags 0 (tags_of rec)) (overwrite l.starts 0 (starts_of at rec)) (overwrite l.lens 0 (lengths_of rec))

abbrev pub counted : Answer → List ℕ → Listed
counted a rec = record { answer = a; count = after a (leader_of rec).nvf 0 }

abbrev pub leaves : Answer → ℕ → List ℕ → Lists → Lists
leaves a at rec l = after a (listed_over at rec l) l

unfoldable pub all_fields_of : Store → ℕ → Lists → Listed
all_fields_of s m l = counted (all_fields_answer s m l) (record_at s.mst (place_for s m))

unfoldable pub all_fields_leaves : Store → ℕ → Lists → Lists
all_fields_leaves s m l = leaves (all_fields_answer s m l) (place_address (place_for s m)) (record_at s.mst (place_for s m)) l

unfoldable pub settled_all_fields_of : Store → ℕ → Lists → Listed
settled_all_fields_of s m l = counted (settled_all_fields_answer s m l) (shown_settled s.mst (place_for s m))

unfoldable pub settled_all_fields_leaves : Store → ℕ → Lists → Lists
settled_all_fields_leaves s m l =
    leaves (settled_all_fields_answer s m l) (settled_address s.mst (place_for s m)) (shown_settled s.mst (place_for s m)) l

-- ---- what a call that is done has handed out

-- the fields that three lists name, each by its tag and by the bytes from its start in the MST on
unfoldable pub fields_named : List ℕ → List ℕ → List ℕ → List ℕ → List Field
fields_named mst [] starts lens = []
fields_named mst (tag ∷ tags) [] lens = []
fields_named mst (tag ∷ tags) (start ∷ starts) [] = []
fields_named mst (tag ∷ tags) (start ∷ starts) (len ∷ lens) = record { tag = tag; bytes = part mst start len } ∷ fields_named mst tags starts lens

-- n is the number of the fields, the first n elements of the lists name exactly them, and behind
-- those the lists are what they were
pub record NamesAll (mst : List ℕ) (fields : List Field) (n : ℕ) (old new : Lists) : Type 0 where
  pub count : n ≡ length fields
  pub names : fields_named mst (take n new.tags) (take n new.starts) (take n new.lens) ≡ fields
  pub tags_kept : drop n new.tags ≡ drop n old.tags
  pub starts_kept : drop n new.starts ≡ drop n old.starts
  pub lens_kept : drop n new.lens ≡ drop n old.lens
