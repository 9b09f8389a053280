-- What is read of a store, in the order of the answer numbers: lengths, control record, MFN, entry, record, settled version.
-- Document 01, "Cross-reference entries", "Records" and "Answer numbers".
use Rattle.std.specs.Prelude.{ℕ, ◌-◌, Bool, true, false, ◌&&◌, cond, List, leb, ltb, length}
use Rattle.word.specs.Overwrite.{part}
use Rattle.layout.specs.Sizes.{mst_permitted, xrf_permitted, capacity_of}
use Rattle.layout.specs.Entry.{placed, place_address}
use Rattle.files.specs.CrossReference.{entry_at}
use Rattle.files.specs.Control.{next_of, end_of, control_right}
use Rattle.layout.specs.Leader.{leader_of}
use Rattle.layout.specs.declared.entry.Mark.TheVariants.{Settled}
use Rattle.layout.specs.declared.entry.Place.{Place}
use Rattle.layout.specs.declared.entry.Entry.{Entry}
use Rattle.layout.specs.declared.entry.Entry.TheVariants.{Gone, Malformed, At}
use Rattle.layout.specs.declared.leader.Leader.{Leader}
use Rattle.record.specs.Fields.{Field, fields_of}
use Rattle.record.specs.Record.{well_formed}
pub use Rattle.layout.specs.Entry.{is_settled, is_changed, is_new}
pub use Rattle.record.specs.Record.{back_address}
unfoldable pub use Rattle.record.specs.Record.{back_fine}
use Rattle.store.specs.Store.{Store}

-- both buffer lengths are permitted
unfoldable pub lengths_permitted : Store → Bool
lengths_permitted s = mst_permitted (length s.mst) && xrf_permitted (length s.xrf)

-- the control record is right for the capacity of the XRF
abbrev pub control_fine : Store → Bool
control_fine s = control_right s.mst (capacity_of (length s.xrf))

-- MFN m is at least 1 and below NXTMFN
unfoldable pub mfn_in_range : List ℕ → ℕ → Bool
mfn_in_range mst m = leb 1 m && ltb m (next_of mst)

-- the kind of entry that MFN m has
abbrev pub entry_for : Store → ℕ → Entry
entry_for s m = entry_at s.xrf (end_of s.mst) m

-- the place of an entry that has one
abbrev pub place_in : Entry → Place
place_in Gone = placed 0 0 false Settled
place_in Malformed = placed 0 0 false Settled
place_in (At p) = p

abbrev pub place_for : Store → ℕ → Place
place_for s m = place_in (entry_for s m)

abbrev pub is_malformed : Entry → Bool
is_malformed Gone = false
is_malformed Malformed = true
is_malformed (At p) = false

abbrev pub is_gone : Entry → Bool
is_gone Gone = true
is_gone Malformed = false
is_gone (At p) = false

-- a record is read as the part of the MST from its first byte, up to the end
abbrev pub record_from : List ℕ → ℕ → List ℕ
record_from mst at = part mst at (end_of mst - at)

-- the record at a place, and its leader
abbrev pub record_at : List ℕ → Place → List ℕ
record_at mst p = record_from mst (place_address p)

abbrev pub leader_at : List ℕ → Place → Leader
leader_at mst p = leader_of (record_at mst p)

-- the record at an entry's place is well formed for MFN m
unfoldable pub record_fine : List ℕ → ℕ → Place → Bool
record_fine mst m p = well_formed (record_at mst p) (end_of mst) m p

-- the settled version of a changed record: the record at its back place
abbrev pub settled_record : List ℕ → Place → List ℕ
settled_record mst p = record_from mst (back_address (leader_at mst p))

-- the settled version is well formed for m, STATUS 0, back pointer 0/0
unfoldable pub settled_fine : List ℕ → ℕ → Place → Bool
settled_fine mst m p = well_formed (settled_record mst p) (end_of mst) m (placed (leader_at mst p).mfbwb.0 (leader_at mst p).mfbwp false Settled)

-- a changed record's settled version is; of the other marks nothing is asked
unfoldable pub version_fine : List ℕ → ℕ → Place → Bool
version_fine mst m p = cond (is_changed p.mark) (settled_fine mst m p) true

-- the record that the settled view reads: the settled version under changed, else the current one
abbrev pub shown_settled : List ℕ → Place → List ℕ
shown_settled mst p = cond (is_changed p.mark) (settled_record mst p) (record_at mst p)

-- the fields of the current version
abbrev pub current_fields : List ℕ → Place → List Field
current_fields mst p = fields_of (record_at mst p)
