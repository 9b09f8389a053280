-- Inner: serves the functions of this crate, no part of what is promised. What the writing half of
-- a call is told by its plan, as numbers and names: each record is what one `requires` asks.
use Rattle.std.specs.Prelude.{ℕ, ◌+◌, ◌%◌, ◌≤◌, ◌≡◌, true, List, length}
use Rattle.layout.specs.Sizes.{mst_most, fields_most, record_most, mst_blocks, capacity_of}
use Rattle.files.specs.Control.{end_of}
use Rattle.layout.specs.Entry.{place_address}
use Rattle.layout.specs.declared.entry.Place.{Place}
use Rattle.layout.specs.declared.leader.Leader.{Leader}
use Rattle.drafts.specs.Draft.{need_of, draft_right}
use Rattle.record.specs.Record.{record_right}
use Rattle.store.specs.Reading.{record_at, leader_at}

-- MFN m has a slot in the XRF
pub record HasSlot (xrf : List ℕ) (m : ℕ) : Type 0 where
  pub low : 1 ≤ m
  pub high : m ≤ capacity_of (length xrf)

-- a record of a size has room at the end
pub record AtEnd (mst : List ℕ) (end size : ℕ) : Type 0 where
  pub end_is : end ≡ end_of mst
  pub low : 64 ≤ end
  pub offset : end % 512 ≤ 498
  pub some : 18 ≤ size
  pub room : end + size ≤ length mst
  pub blocks : length mst ≤ mst_most

-- a draft is right
pub record DraftFits (tags lens bytes : List ℕ) : Type 0 where
  pub right : draft_right tags lens bytes ≡ true
  pub few : length tags ≤ fields_most
  pub small : length bytes ≤ record_most
  pub low : 18 ≤ need_of (length tags) (length bytes)
  pub high : need_of (length tags) (length bytes) ≤ record_most

-- the record at a place, before the end, has a leader and is right
pub record RecordRead (mst : List ℕ) (end : ℕ) (p : Place) (l : Leader) : Type 0 where
  pub end_is : end ≡ end_of mst
  pub end_low : 64 ≤ end
  pub end_in : end ≤ length mst
  pub block : 1 ≤ p.block.0
  pub block_fits : p.block.0 ≤ mst_blocks
  pub offset : p.offset ≤ 498
  pub place_inside : place_address p + 18 ≤ end
  pub leader_is : l ≡ leader_at mst p
  pub right : record_right (record_at mst p) l.mfn.0 p.deleted ≡ true
  pub record_in : place_address p + l.mfrl ≤ end
  pub short : l.mfrl ≤ record_most
  pub few : l.nvf ≤ fields_most
