-- A store read by a rule: what the pages of `store`, `views`, `asking` and `soundness` say of one, over the number that NXTMFP counts the end's
-- offset from. With 1 it shows what theirs show, has their steps and is as sound, as Theorems states; with 0 it says what a card of the old rule
-- holds.
use Rattle.std.specs.Prelude.{ℕ, zero, suc, ◌+◌, ◌-◌, Bool, true, false, not, ◌&&◌, cond, List, [], ◌∷◌, eqb, leb, length}
use Rattle.word.specs.Overwrite.{part}
use Rattle.layout.specs.Sizes.{capacity_of, end_moved, record_length}
use Rattle.layout.specs.Entry.{placed, place_address, is_settled, is_changed, is_new}
use Rattle.layout.specs.Leader.{leader_of}
use Rattle.layout.specs.declared.entry.Mark.TheVariants.{Settled}
use Rattle.layout.specs.declared.entry.Place.{Place}
use Rattle.layout.specs.declared.entry.Entry.{Entry}
use Rattle.layout.specs.declared.entry.Entry.TheVariants.{Gone, Malformed, At}
use Rattle.layout.specs.declared.leader.Leader.{Leader}
use Rattle.files.specs.Control.{next_of, end_from, control_right_from, count_is}
use Rattle.files.specs.CrossReference.{entry_at}
use Rattle.record.specs.Record.{well_formed, back_address}
use Rattle.record.specs.Fields.{fields_of}
use Rattle.store.specs.Store.{Store}
use Rattle.store.specs.Answer.{Row, refuse, lowest, Answer}
use Rattle.store.specs.Reading.{lengths_permitted, mfn_in_range, place_in, is_malformed, is_gone}
use Rattle.store.specs.declared.answer.Refusal.TheVariants.{BadLength, BadControl, NoMfn, BadEntry, Gone as GoneAnswer, BadRecord, Deleted, NeverSettled, NoField, NoRoomInList}
use Rattle.walking.specs.Walker.{at_end}
use Rattle.views.specs.Views.{Shown, among_fields, shown_at}
use Rattle.views.specs.Fields.{ShownField, handed_out}
use Rattle.asking.specs.State.{RecordState, state_shown}
use Rattle.asking.specs.Listing.{Lists, Listed, short_for, counted, leaves}
use Rattle.soundness.specs.Sound.{bit, sum_to, is_live, all_to, elem, implies, heads_right, rest_free}

-- ---- entries and records

-- the kind of entry that MFN m has, and the place of one that has one
abbrev pub entry_by : ℕ → Store → ℕ → Entry
entry_by from s m = entry_at s.xrf (end_from from s.mst) m

abbrev pub place_by : ℕ → Store → ℕ → Place
place_by from s m = place_in (entry_by from s m)

-- a record is read as the part of the MST from its first byte, up to the end
abbrev pub record_by : ℕ → List ℕ → ℕ → List ℕ
record_by from mst at = part mst at (end_from from mst - at)

-- the leader of the record at a place, and the address of its back place
abbrev pub leader_by : ℕ → List ℕ → Place → Leader
leader_by from mst p = leader_of (record_by from mst (place_address p))

abbrev pub back_by : ℕ → List ℕ → Place → ℕ
back_by from mst p = back_address (leader_by from mst p)

-- the record at an entry's place is well formed for MFN m
unfoldable pub fine_by : ℕ → List ℕ → ℕ → Place → Bool
fine_by from mst m p = well_formed (record_by from mst (place_address p)) (end_from from mst) m p

-- the settled version is well formed for m, STATUS 0, back pointer 0/0
unfoldable pub settled_fine_by : ℕ → List ℕ → ℕ → Place → Bool
settled_fine_by from mst m p =
    well_formed (record_by from mst (back_by from mst p)) (end_from from mst) m
    (placed (leader_by from mst p).mfbwb.0 (leader_by from mst p).mfbwp false Settled)

-- both, where a changed record's settled version is asked
abbrev pub both_fine_by : ℕ → List ℕ → ℕ → Place → Bool
both_fine_by from mst m p = fine_by from mst m p && cond (is_changed p.mark) (settled_fine_by from mst m p) true

-- ---- the calls that show something

-- 1, 2, 4, 6, 7 and 8
abbrev pub named_by : ℕ → Store → ℕ → Bool → List Row → List Row
named_by from s m ok rest =
    refuse BadLength (not (lengths_permitted s))
    ∷ refuse BadControl (not (control_right_from from s.mst (capacity_of (length s.xrf))))
    ∷ refuse NoMfn (not (mfn_in_range s.mst m))
    ∷ refuse BadEntry (is_malformed (entry_by from s m))
    ∷ refuse GoneAnswer (is_gone (entry_by from s m))
    ∷ refuse BadRecord (not ok)
    ∷ rest

-- how a record stands
unfoldable pub state_by : ℕ → Store → ℕ → RecordState
state_by from s m =
    state_shown (lowest (named_by from s m (fine_by from s.mst m (place_by from s m)) [])) (place_by from s m).mark (place_by from s m).deleted

-- a call that shows the current version: 9 and the rows that it asks of the record, and what it shows of the record at its address
abbrev pub on_current_by : {A : Type 0} → ℕ → Store → ℕ → (List ℕ → List Row) → (Answer → ℕ → List ℕ → A) → A
on_current_by from s m rows show =
    show
    (lowest
    (named_by from s m (fine_by from s.mst m (place_by from s m))
    (refuse Deleted (place_by from s m).deleted ∷ rows (record_by from s.mst (place_address (place_by from s m))))))
    (place_address (place_by from s m))
    (record_by from s.mst (place_address (place_by from s m)))

-- the record of the settled view, and where it begins: the settled version under changed, else the current one
abbrev pub settled_record_by : ℕ → List ℕ → Place → List ℕ
settled_record_by from mst p = cond (is_changed p.mark) (record_by from mst (back_by from mst p)) (record_by from mst (place_address p))

abbrev pub settled_address_by : ℕ → List ℕ → Place → ℕ
settled_address_by from mst p = cond (is_changed p.mark) (back_by from mst p) (place_address p)

-- a call that shows the settled version: 9, 11 and its rows, and what it shows
abbrev pub on_settled_by : {A : Type 0} → ℕ → Store → ℕ → (List ℕ → List Row) → (Answer → ℕ → List ℕ → A) → A
on_settled_by from s m rows show =
    show
    (lowest
    (named_by from s m (both_fine_by from s.mst m (place_by from s m))
    (refuse Deleted ((place_by from s m).deleted && is_settled (place_by from s m).mark)
    ∷ refuse NeverSettled (is_new (place_by from s m).mark)
    ∷ rows (settled_record_by from s.mst (place_by from s m)))))
    (settled_address_by from s.mst (place_by from s m))
    (settled_record_by from s.mst (place_by from s m))

-- a field by its tag and occurrence: 12 and 15, and where it lies
abbrev pub found_rows : ℕ → ℕ → List ℕ → List Row
found_rows tag occ rec = among_fields (fields_of rec) tag occ

abbrev pub found_shown : ℕ → ℕ → Answer → ℕ → List ℕ → Shown
found_shown tag occ a at rec = shown_at a at rec tag occ

unfoldable pub view_by : ℕ → Store → ℕ → ℕ → ℕ → Shown
view_by from s m tag occ = on_current_by from s m (found_rows tag occ) (found_shown tag occ)

unfoldable pub settled_view_by : ℕ → Store → ℕ → ℕ → ℕ → Shown
settled_view_by from s m tag occ = on_settled_by from s m (found_rows tag occ) (found_shown tag occ)

-- a field by its index: 12, its tag, and where it lies
abbrev pub index_rows : ℕ → List ℕ → List Row
index_rows i rec = refuse NoField (at_end rec i) ∷ []

abbrev pub index_shown : ℕ → Answer → ℕ → List ℕ → ShownField
index_shown i a at rec = handed_out a at rec i

unfoldable pub field_by : ℕ → Store → ℕ → ℕ → ShownField
field_by from s m i = on_current_by from s m (index_rows i) (index_shown i)

unfoldable pub settled_field_by : ℕ → Store → ℕ → ℕ → ShownField
settled_field_by from s m i = on_settled_by from s m (index_rows i) (index_shown i)

-- all fields: 17, how many there are, and what the lent lists have afterwards
pub record AllFields : Type 0 where
  pub told : Listed
  pub left : Lists

abbrev pub list_rows : Lists → List ℕ → List Row
list_rows l rec = refuse NoRoomInList (short_for rec l) ∷ []

abbrev pub list_shown : Lists → Answer → ℕ → List ℕ → AllFields
list_shown l a at rec = record { told = counted a rec; left = leaves a at rec l }

unfoldable pub all_fields_by : ℕ → Store → ℕ → Lists → AllFields
all_fields_by from s m l = on_current_by from s m (list_rows l) (list_shown l)

unfoldable pub settled_all_fields_by : ℕ → Store → ℕ → Lists → AllFields
settled_all_fields_by from s m l = on_settled_by from s m (list_rows l) (list_shown l)

-- ---- a sound store

-- MFRL at a step
abbrev pub mfrl_by : ℕ → List ℕ → ℕ → ℕ
mfrl_by from mst at = (leader_of (record_by from mst at)).mfrl

-- the next step: by MFRL, and over offsets 500 to 510; past the end where MFRL is not right
unfoldable pub next_step_by : ℕ → List ℕ → ℕ → ℕ
next_step_by from mst at =
    cond (record_length (mfrl_by from mst at) && leb (at + mfrl_by from mst at) (end_from from mst)) (end_moved (at + mfrl_by from mst at)) (end_from from mst + 1)

-- the steps from an address on, at most n, and whether one arrives exactly at the end
unfoldable pub steps_in_by : ℕ → ℕ → List ℕ → ℕ → List ℕ
steps_in_by from zero mst at = []
steps_in_by from (suc n) mst at = cond (leb (at + 18) (end_from from mst)) (at ∷ steps_in_by from n mst (next_step_by from mst at)) []

unfoldable pub arrives_in_by : ℕ → ℕ → List ℕ → ℕ → Bool
arrives_in_by from zero mst at = eqb at (end_from from mst)
arrives_in_by from (suc n) mst at = cond (leb (at + 18) (end_from from mst)) (arrives_in_by from n mst (next_step_by from mst at)) (eqb at (end_from from mst))

-- from address 64
unfoldable pub steps_by : ℕ → List ℕ → List ℕ
steps_by from mst = steps_in_by from (end_from from mst - 64) mst 64

unfoldable pub arrives_by : ℕ → List ℕ → Bool
arrives_by from mst = arrives_in_by from (end_from from mst - 64) mst 64

-- an entry is -2048, or names one of the steps with a well-formed record, and its back place, if changed, one with a well-formed settled version
unfoldable pub entry_sound_by : ℕ → List ℕ → List ℕ → ℕ → Entry → Bool
entry_sound_by from mst l m Gone = true
entry_sound_by from mst l m Malformed = false
entry_sound_by from mst l m (At p) =
    fine_by from mst m p
    && elem (place_address p) l
    && implies (is_changed p.mark) (settled_fine_by from mst m p && elem (back_by from mst p) l)

-- how many entries are neither deleted nor gone
unfoldable pub live_count_by : ℕ → Store → ℕ
live_count_by from s = sum_to (next_of s.mst - 1) (λ m. bit (is_live (entry_by from s m)))

-- A SOUND STORE, by the rule: the part apart from RECCNT, which older cards do not keep (request C-17)
unfoldable pub body_apart_by : ℕ → Store → Bool
body_apart_by from s =
    heads_right s.xrf
    && rest_free s.xrf (next_of s.mst)
    && arrives_by from s.mst
    && all_to (next_of s.mst - 1) (λ m. entry_sound_by from s.mst (steps_by from s.mst) m (entry_by from s m))

unfoldable pub apart_by : ℕ → Store → Bool
apart_by from s = lengths_permitted s && control_right_from from s.mst (capacity_of (length s.xrf)) && body_apart_by from s

-- and with it
unfoldable pub body_sound_by : ℕ → Store → Bool
body_sound_by from s = body_apart_by from s && count_is s.mst (live_count_by from s)

unfoldable pub sound_by : ℕ → Store → Bool
sound_by from s = lengths_permitted s && control_right_from from s.mst (capacity_of (length s.xrf)) && body_sound_by from s
