-- A well-formed record. Document 01, "Records". A record is read from its first byte up to the store's end.
use Rattle.std.specs.Prelude.{ℕ, ◌+◌, ◌*◌, ◌-◌, ◌≡◌, Bool, true, not, ◌&&◌, cond, List, eqb, leb, length}
use Rattle.layout.specs.Sizes.{address_of, record_length}
use Rattle.layout.specs.Entry.{well_placed, place_address, is_changed}
use Rattle.layout.specs.Leader.{leader_of}
use Rattle.layout.specs.declared.entry.Mark.{Mark}
use Rattle.layout.specs.declared.entry.Mark.TheVariants.{Settled, Changed, New}
use Rattle.layout.specs.declared.entry.Place.{Place}
use Rattle.layout.specs.declared.leader.Leader.{Leader}
use Rattle.record.specs.Directory.{isis, directory_right, first_broken}
use Rattle.record.specs.declared.test.Broken.{Broken}
use Rattle.record.specs.declared.test.Broken.TheVariants.{Leader as BadLeader, Entry as BadEntry}

-- the MFN field is m; MFRL is in range and the record stops at or before the end, `left` bytes on
unfoldable pub extent_right : ℕ → ℕ → Leader → Bool
extent_right m left l = eqb l.mfn.0 m && record_length l.mfrl && leb l.mfrl left

-- BASE = 18 + 6 × NVF, at most MFRL
unfoldable pub base_right : Leader → Bool
base_right l = eqb l.base (18 + 6 * l.nvf) && leb l.base l.mfrl

-- tags in range; the first POS is 0, each next POS is the one before plus its LEN; the lengths sum to at most MFRL - BASE
abbrev pub fields_right : List ℕ → Leader → Bool
fields_right rec l = directory_right rec (l.mfrl - l.base) l.nvf 0 0

-- the number of the first entry for which one of these is not so, counted from 1; 0 where there is none
abbrev pub fields_broken : List ℕ → Leader → ℕ
fields_broken rec l = first_broken isis rec (l.mfrl - l.base) l.nvf 0 0

-- STATUS is 1 exactly if the entry is deleted, otherwise 0
abbrev pub status_for : Bool → ℕ
status_for deleted = cond deleted 1 0

unfoldable pub status_right : Bool → Leader → Bool
status_right deleted l = eqb l.status (status_for deleted)

-- MFBWB and MFBWP are both 0
unfoldable pub no_back : Leader → Bool
no_back l = eqb l.mfbwb.0 0 && eqb l.mfbwp 0

-- they are both 0, except under the changed mark, where they give a well-formed place
unfoldable pub back_right : ℕ → Mark → Leader → Bool
back_right end Settled l = no_back l
back_right end Changed l = well_placed end l.mfbwb.0 l.mfbwp
back_right end New l = no_back l

-- the address of the back place
abbrev pub back_address : Leader → ℕ
back_address l = address_of l.mfbwb.0 l.mfbwp

-- other than the record's own
unfoldable pub back_fine : ℕ → Place → Leader → Bool
back_fine end p l = back_right end p.mark l && not (is_changed p.mark && eqb (back_address l) (place_address p))

-- a record is well formed for MFN m at the place p of an entry, with the end known: the five sentences of document 01, each a line. The tags'
-- range, which document 01 has beside BASE, is asked with the rest of an entry
unfoldable pub well_formed : List ℕ → ℕ → ℕ → Place → Bool
well_formed rec end m p =
    extent_right m (length rec) (leader_of rec)
    && base_right (leader_of rec)
    && fields_right rec (leader_of rec)
    && status_right p.deleted (leader_of rec)
    && back_fine end p (leader_of rec)

-- ---- the record test: what is asked of a record alone, without its mark and the addresses. Request C-16

-- the leader passes: the sentences on it but for the back pointer, which needs the mark and the addresses
unfoldable pub leader_right : ℕ → Bool → ℕ → Leader → Bool
leader_right m deleted left l = extent_right m left l && base_right l && status_right deleted l

-- the record passes: all sentences but for the back pointer, the leader first
unfoldable pub record_right : List ℕ → ℕ → Bool → Bool
record_right rec m deleted = leader_right m deleted (length rec) (leader_of rec) && fields_right rec (leader_of rec)

-- the number of the first entry that breaks a rule, counted from 1; 0 if the record passes or its leader already fails
unfoldable pub broken_entry : List ℕ → ℕ → Bool → ℕ
broken_entry rec m deleted = cond (leader_right m deleted (length rec) (leader_of rec)) (fields_broken rec (leader_of rec)) 0

-- the number that is told of what is broken: 0 is the leader, and n entry n
abbrev pub number_told : Broken → ℕ
number_told BadLeader = 0
number_told (BadEntry n) = n

-- ---- Inner: serves functions and proofs, no part of what is promised

-- a record whose fields can be read: the first three sentences hold, whatever its MFN, its STATUS and its back pointer
pub record Readable (rec : List ℕ) : Type 0 where
  pub extent : extent_right (leader_of rec).mfn.0 (length rec) (leader_of rec) ≡ true
  pub base : base_right (leader_of rec) ≡ true
  pub fields : fields_right rec (leader_of rec) ≡ true
