-- What a call may touch. Document 01, "A sound store": an accepted call, other than format, touches only this MFN's entry, its record, new bytes
-- at the end and the control integers named above.
use Rattle.std.specs.Prelude.{Ok}
use Rattle.std.specs.Prelude.{ℕ, ◌≤◌, ◌<◌, ◌≡◌, true, false, length, get_or}
use Rattle.layout.specs.Entry.{place_address}
use Rattle.files.specs.CrossReference.{slot_at}
use Rattle.files.specs.Control.{next_of, end_of}
use Rattle.files.specs.NamedBytes.{Within, NoByte, CountByte, ControlByte, BackByte}
use Rattle.layout.specs.declared.entry.Place.{Place}
use Rattle.layout.specs.declared.entry.Entry.TheVariants.{At}
use Rattle.store.specs.Store.{Store}
use Rattle.drafts.specs.Draft.{Draft}
use Rattle.store.specs.Reading.{entry_for, place_for, leader_at}
use Rattle.writing.specs.Refusals.{create_answer, update_answer, delete_answer, settle_answer, revert_answer}
use Rattle.writing.specs.Calls.{create_leaves, update_leaves, delete_leaves, settle_leaves, revert_leaves}

-- a store becomes another: the buffers are as long, and every byte is what it was but for those of the MST that `May` names and MFN m's entry
pub record Changes (s s' : Store) (m : ℕ) (May : ℕ → Type 0) : Type 0 where
  pub mst_length : length s'.mst ≡ length s.mst
  pub xrf_length : length s'.xrf ≡ length s.xrf
  pub mst_kept : (i : ℕ) → (May i → ⊥) → get_or s'.mst i 0 ≡ get_or s.mst i 0
  pub xrf_kept : (i : ℕ) → (Within (slot_at m) 4 i → ⊥) → get_or s'.xrf i 0 ≡ get_or s.xrf i 0

-- the bytes of the MST that a call on MFN m may change
pub data MayChange (s s' : Store) (m i : ℕ) : Type 0 where
  -- the control integers NXTMFN, the end and RECCNT
  control_integer : ControlByte i → MayChange s s' m i
  -- MFN m's record: MFRL bytes from its place on
  own_record : (p : Place) → entry_for s m ≡ At p → Within (place_address p) (leader_at s.mst p).mfrl i → MayChange s s' m i
  -- new bytes at the end
  new_byte : end_of s.mst ≤ i → i < end_of s'.mst → MayChange s s' m i

-- IT TOUCHES ONLY these
abbrev pub TouchesOnly : Store → Store → ℕ → Type 0
TouchesOnly s s' m = Changes s s' m (MayChange s s' m)

-- THE CLAIM: every call but format that is done. A settle changes no byte of the MST but its record's back pointer, a revert
-- none but RECCNT where it brings a deleted record back (request C-17), else none
pub record CallsTouchOnly (s : Store) : Type 0 where
  pub create : (d : Draft) → create_answer s d ≡ Ok tt → TouchesOnly s (create_leaves s d) (next_of s.mst)
  pub update : (m : ℕ) (d : Draft) → update_answer s m d ≡ Ok tt → TouchesOnly s (update_leaves s m d) m
  pub delete : (m : ℕ) → delete_answer s m ≡ Ok tt → TouchesOnly s (delete_leaves s m) m
  pub settle : (m : ℕ) → settle_answer s m ≡ Ok tt → TouchesOnly s (settle_leaves s m) m
  pub revert : (m : ℕ) → revert_answer s m ≡ Ok tt → TouchesOnly s (revert_leaves s m) m
  pub settle_pointer : (m : ℕ) → settle_answer s m ≡ Ok tt → Changes s (settle_leaves s m) m (BackByte (place_address (place_for s m)))
  pub revert_deleted : (m : ℕ) → revert_answer s m ≡ Ok tt → (place_for s m).deleted ≡ true → Changes s (revert_leaves s m) m CountByte
  pub revert_nothing : (m : ℕ) → revert_answer s m ≡ Ok tt → (place_for s m).deleted ≡ false → Changes s (revert_leaves s m) m NoByte
