-- Inner: serves the functions below `run`, no part of what is promised. Where a run stands in its list and in its two rooms, and that what is
-- there lies within them.
use Rattle.std.specs.Prelude.{ℕ, ◌+◌, ◌*◌, ◌-◌, ◌≤◌, List, length}
use Rattle.script.specs.Ops.{call_size, counts, no_draft}
use Rattle.script.specs.Report.{outcome_size}
use Rattle.script.specs.declared.calls.Counts.{Counts}
use Rattle.script.specs.declared.cursor.Cursor.{Cursor}

-- how much of the MFNs and of the drafts is left
abbrev pub left_at : Counts → Cursor → Counts
left_at all at = counts (all.mfns - at.used.mfns) (all.tags - at.used.tags) (all.lens - at.used.lens) (all.bytes - at.used.bytes)

-- no more is used than there is
pub record UsedWithin (at : Cursor) (all : Counts) : Type 0 where
  pub mfns_used : at.used.mfns ≤ all.mfns
  pub tags_used : at.used.tags ≤ all.tags
  pub lens_used : at.used.lens ≤ all.lens
  pub bytes_used : at.used.bytes ≤ all.bytes

-- the cursor after a call with MFNs or a draft that is reported by so many numbers and bytes
abbrev pub moved : Cursor → Counts → ℕ → ℕ → Cursor
moved at n size len =
    record {
      calls = at.calls + 1;
      used = counts (at.used.mfns + n.mfns) (at.used.tags + n.tags) (at.used.lens + n.lens) (at.used.bytes + n.bytes);
      numbers = at.numbers + size;
      shown = at.shown + len;
    }

-- it has no number that is too high for 64 bits
pub record Movable (at : Cursor) (n : Counts) (size len : ℕ) : Type 0 where
  pub calls_fit : at.calls + 1 ≤ 18446744073709551615
  pub mfns_fit : at.used.mfns + n.mfns ≤ 18446744073709551615
  pub tags_fit : at.used.tags + n.tags ≤ 18446744073709551615
  pub lens_fit : at.used.lens + n.lens ≤ 18446744073709551615
  pub bytes_fit : at.used.bytes + n.bytes ≤ 18446744073709551615
  pub numbers_fit : at.numbers + size ≤ 18446744073709551615
  pub shown_fit : at.shown + len ≤ 18446744073709551615

-- a draft at a cursor lies within the lists of drafts
pub record DraftWithin (tags lens bytes : List ℕ) (at : Cursor) (n : Counts) : Type 0 where
  pub tags_in : at.used.tags + n.tags ≤ length tags
  pub lens_in : at.used.lens + n.lens ≤ length lens
  pub bytes_in : at.used.bytes + n.bytes ≤ length bytes

-- the calls reported have so many numbers each, and these lie within their room
pub record NumbersWithin (answers : List ℕ) (at : Cursor) : Type 0 where
  pub calls_within : outcome_size * at.calls ≤ at.numbers
  pub numbers_in : at.numbers ≤ length answers

-- and their bytes within theirs
pub record RoomWithin (answers shown : List ℕ) (at : Cursor) : Type 0 where
  pub reported : NumbersWithin answers at
  pub shown_in : at.shown ≤ length shown

-- all of that, at a cursor
pub record Within (ops mfns tags lens bytes answers shown : List ℕ) (at : Cursor) : Type 0 where
  pub ops_in : call_size * at.calls ≤ length ops
  pub mfns_in : at.used.mfns ≤ length mfns
  pub drafts_in : DraftWithin tags lens bytes at no_draft
  pub room_in : RoomWithin answers shown at
