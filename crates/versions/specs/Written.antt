-- What is written where a call is done. Document 01, "What the calls do"; request C-17 for RECCNT.
use Rattle.std.specs.Prelude.{ℕ, ◌+◌, Bool, true, false, cond, ◌||◌, List, length, replicate, ltb}
use Rattle.word.specs.Overwrite.{overwrite}
use Rattle.layout.specs.Sizes.{block_at, offset_at, end_moved}
use Rattle.layout.specs.Entry.{placed, place_address}
use Rattle.files.specs.CrossReference.{with_entry}
use Rattle.files.specs.Control.{next_of, end_of, with_next, with_end, counted_more, counted_less}
use Rattle.layout.specs.declared.entry.Mark.{Mark}
use Rattle.layout.specs.declared.entry.Mark.TheVariants.{Settled, Changed, New}
use Rattle.layout.specs.declared.entry.Place.{Place}
use Rattle.layout.specs.declared.leader.Leader.{Leader}
use Rattle.record.specs.Fields.{Field}
use Rattle.drafts.specs.Bytes.{need_for, record_bytes, leader_for}
use Rattle.store.specs.Reading.{is_settled, leader_at}

-- ---- a record

-- a record of the fields in the part of the MST that starts at an address
abbrev pub with_record : List ℕ → ℕ → Leader → List Field → List ℕ
with_record mst at l fs = overwrite mst at (record_bytes l fs)

-- a record at the end, which moves by MFRL
unfoldable pub appended : List ℕ → Leader → List Field → List ℕ
appended mst l fs = with_end (with_record mst (end_of mst) l fs) (end_moved (end_of mst + l.mfrl))

-- the place at the end
abbrev pub place_at_end : List ℕ → Bool → Mark → Place
place_at_end mst deleted mark = placed (block_at (end_of mst)) (offset_at (end_of mst)) deleted mark

-- ---- create: at the end, MFRL = need, back pointer 0/0, STATUS 0, mark new; NXTMFN + 1,
-- RECCNT + 1; returns the MFN, 0 where it is refused

unfoldable pub created_mst : List ℕ → List Field → List ℕ
created_mst mst fs =
    counted_more (with_next (appended mst (leader_for (next_of mst) (need_for fs) 0 0 false (length fs)) fs) (next_of mst + 1))

unfoldable pub created_xrf : List ℕ → List ℕ → List ℕ
created_xrf mst xrf = with_entry xrf (next_of mst) (place_at_end mst false New)

-- ---- update. Settled: at the end, MFRL = need, back pointer to the old version, mark changed.
-- Pending: in place if need is at most the old MFRL, and then MFRL stays and bytes after the data
-- are zero; else at the end with MFRL = need. Mark and back pointer are kept

-- the back pointer of a new version: to the old version if that is settled, else the old version's
-- own
abbrev pub new_back_block : Place → Leader → ℕ
new_back_block p l = cond (is_settled p.mark) p.block.0 l.mfbwb.0

abbrev pub new_back_offset : Place → Leader → ℕ
new_back_offset p l = cond (is_settled p.mark) p.offset l.mfbwp

-- the mark after a change: changed where it was settled, else kept
abbrev pub pending_mark : Mark → Mark
pending_mark Settled = Changed
pending_mark Changed = Changed
pending_mark New = New

-- the leader of a new version of the record at a place with a leader
unfoldable pub version_leader : ℕ → Place → Leader → ℕ → Bool → ℕ → Leader
version_leader m p l mfrl deleted n = leader_for m mfrl (new_back_block p l) (new_back_offset p l) deleted n

-- the new version at the end, and in place
unfoldable pub version_appended : List ℕ → ℕ → Place → Leader → Bool → List Field → List ℕ
version_appended mst m p l deleted fs = appended mst (version_leader m p l (need_for fs) deleted (length fs)) fs

unfoldable pub version_in_place : List ℕ → ℕ → Place → Leader → Bool → List Field → List ℕ
version_in_place mst m p l deleted fs = with_record mst (place_address p) (version_leader m p l l.mfrl deleted (length fs)) fs

-- an update writes at the end unless the record is pending and its MFRL is enough
unfoldable pub update_appends : Place → Leader → ℕ → Bool
update_appends p l need = is_settled p.mark || ltb l.mfrl need

unfoldable pub updated_mst : List ℕ → ℕ → Place → List Field → List ℕ
updated_mst mst m p fs =
    cond (update_appends p (leader_at mst p) (need_for fs))
    (version_appended mst m p (leader_at mst p) false fs)
    (version_in_place mst m p (leader_at mst p) false fs)

unfoldable pub updated_xrf : List ℕ → List ℕ → ℕ → Place → List Field → List ℕ
updated_xrf mst xrf m p fs =
    cond (update_appends p (leader_at mst p) (need_for fs)) (with_entry xrf m (place_at_end mst false (pending_mark p.mark))) xrf

-- ---- delete: an update with the same fields, STATUS 1, block negated. A settled record is copied
-- to the end with MFRL = need; a pending one stays in place, its MFRL kept and bytes after the data
-- zero. RECCNT - 1

unfoldable pub deleted_mst : List ℕ → ℕ → Place → List Field → List ℕ
deleted_mst mst m p fs =
    counted_less
    (cond (is_settled p.mark)
    (version_appended mst m p (leader_at mst p) true fs)
    (version_in_place mst m p (leader_at mst p) true fs))

unfoldable pub deleted_xrf : List ℕ → List ℕ → ℕ → Place → List ℕ
deleted_xrf mst xrf m p =
    with_entry xrf m (cond (is_settled p.mark) (place_at_end mst true Changed) (placed p.block.0 p.offset true p.mark))

-- ---- settle: mark removed, back pointer 0/0. A deletion stays one

unfoldable pub settled_mst : List ℕ → Place → List ℕ
settled_mst mst p = overwrite mst (place_address p + 6) (replicate 6 0)

unfoldable pub settled_xrf : List ℕ → ℕ → Place → List ℕ
settled_xrf xrf m p = with_entry xrf m (placed p.block.0 p.offset p.deleted Settled)

-- ---- revert: the entry becomes the back place, positive, no mark. RECCNT + 1 where it brings a
-- deleted record back; no other MST byte changes

unfoldable pub reverted_mst : List ℕ → Place → List ℕ
reverted_mst mst p = cond p.deleted (counted_more mst) mst

unfoldable pub reverted_xrf : List ℕ → List ℕ → ℕ → Place → List ℕ
reverted_xrf mst xrf m p = with_entry xrf m (placed (leader_at mst p).mfbwb.0 (leader_at mst p).mfbwp false Settled)
