-- The fields that a right directory names. Each law goes entry by entry: the bytes of a field are as long as its LEN, the data of the
-- fields is one part of the record, from BASE on, and the directory of the fields is the record's own.
use Prim.Native.Nat.{ℕ, zero, suc, ◌+◌, ◌-◌, ◌≤◌}
use native.Mathlib.Nat.{add-zero, zero-add, add_assoc}
use native.Mathlib.Omega.{arith}
use mathlib.Core.Path.{◌≡◌, refl, sym, ap, ◌∙◌}
use mathlib.Core.Bool.{true}
use mathlib.Core.List.{List, ◌++◌}
use lib.ListN.{length, length-append}
use Rattle.word.specs.Overwrite.{part}
use Rattle.word.proofs.Overwrite.{part_length, part_add}
use Rattle.layout.specs.Leader.{leader_of}
use Rattle.record.specs.Directory.{pos_at, len_at, directory_right}
use Rattle.record.specs.Fields.{field_at, fields_from, fields_of, data_of}
use Rattle.record.specs.Record.{Readable}
use Rattle.record.proofs.Facts.{entry_facts, readable_facts}

-- ---- lengths

pub fields_length : (rec : List ℕ) (base k i : ℕ) → length (fields_from rec base k i) ≡ k
unfolding fields_from
fields_length rec base zero i = refl
fields_length rec base (suc k) i = ap suc (fields_length rec base k (i + 1))

pub fields_count : (rec : List ℕ) → length (fields_of rec) ≡ (leader_of rec).nvf
unfolding fields_of
fields_count rec = fields_length rec (leader_of rec).base (leader_of rec).nvf 0

-- no fields, no data
pub data_none : (rec : List ℕ) (base i : ℕ) → length (data_of (fields_from rec base 0 i)) ≡ 0
unfolding fields_from data_of
data_none rec base i = refl

-- ---- the data of the fields, in a record that holds `room` bytes behind `base`

module _ (rec : List ℕ) (base room : ℕ) (within : base + room ≤ length rec) where
  pub field_length : (i : ℕ) → pos_at rec i + len_at rec i ≤ room → length (part rec (base + pos_at rec i) (len_at rec i)) ≡ len_at rec i
  field_length i h = part_length rec (base + pos_at rec i) (len_at rec i) (omega arith)

  -- the first field, where the entries from i on are right
  pub first_length : (k i pos : ℕ) → directory_right rec room (suc k) i pos ≡ true → length (field_at rec base i).bytes ≡ len_at rec i
  first_length k i pos d = let f = entry_facts rec room k i pos d in field_length i (omega arith)

  data_size : (k i pos : ℕ) → directory_right rec room (suc k) i pos ≡ true
      → length (data_of (fields_from rec base (suc k) i)) ≡ len_at rec i + length (data_of (fields_from rec base k (i + 1)))
  unfolding fields_from data_of
  data_size k i pos d =
      rw (length-append (field_at rec base i).bytes (data_of (fields_from rec base k (i + 1))), first_length k i pos d)

  pub data_in : (k i pos : ℕ) → directory_right rec room k i pos ≡ true → pos ≤ room → pos + length (data_of (fields_from rec base k i)) ≤ room
  unfolding fields_from data_of
  data_in zero i pos d h = omega arith
  data_in (suc k) i pos d h =
      let f = entry_facts rec room k i pos d in
      omega (arith, data_size k i pos d, data_in k (i + 1) (pos + len_at rec i) f.rest f.len)

  -- it ends where the last field ends
  pub data_last : (k i pos : ℕ) → directory_right rec room (suc k) i pos ≡ true
      → pos + length (data_of (fields_from rec base (suc k) i)) ≡ pos_at rec (i + k) + len_at rec (i + k)
  data_last zero i pos d =
      let f = entry_facts rec room zero i pos d in
      rw (add-zero i) (omega (arith, data_size zero i pos d, data_none rec base (i + 1)))
  data_last (suc k) i pos d =
      let f = entry_facts rec room (suc k) i pos d in
      let e : i + suc k ≡ i + 1 + k = omega arith in
      rw e (omega (arith, data_size (suc k) i pos d, data_last k (i + 1) (pos + len_at rec i) f.rest))

  -- it is one part of the record
  pub data_is : (k i pos : ℕ) → directory_right rec room k i pos ≡ true
      → data_of (fields_from rec base k i) ≡ part rec (base + pos) (length (data_of (fields_from rec base k i)))
  unfolding fields_from data_of
  data_is zero i pos d = refl
  data_is (suc k) i pos d =
      let f = entry_facts rec room k i pos d in
      let n : ℕ = len_at rec i in
      let rest : List ℕ = data_of (fields_from rec base k (i + 1)) in
      ap (λ (p : ℕ). part rec (base + p) n ++ rest) f.pos_is
      ∙ ap (λ (x : List ℕ). part rec (base + pos) n ++ x)
      (data_is k (i + 1) (pos + n) f.rest ∙ ap (λ (a : ℕ). part rec a (length rest)) (sym (add_assoc base pos n)))
      ∙ sym (part_add rec (base + pos) n (length rest))
      ∙ ap (part rec (base + pos)) (sym (data_size k i pos d))

-- ---- a record that can be read

module _ (rec : List ℕ) (r : Readable rec) where
  pub directory_room : (leader_of rec).base + ((leader_of rec).mfrl - (leader_of rec).base) ≤ length rec
  directory_room = omega (arith, (readable_facts r).base_in, (readable_facts r).record_in)

  -- the data lies behind BASE, and ends within MFRL
  pub data_within : (leader_of rec).base + length (data_of (fields_of rec)) ≤ (leader_of rec).mfrl
  unfolding fields_of
  data_within =
      omega (
        arith,
        (readable_facts r).base_in,
        data_in rec (leader_of rec).base ((leader_of rec).mfrl - (leader_of rec).base) directory_room (leader_of rec).nvf 0 0 (readable_facts r).directory (omega arith),
      )

  pub data_part : data_of (fields_of rec) ≡ part rec (leader_of rec).base (length (data_of (fields_of rec)))
  unfolding fields_of
  data_part =
      data_is rec (leader_of rec).base ((leader_of rec).mfrl - (leader_of rec).base) directory_room (leader_of rec).nvf 0 0 (readable_facts r).directory
      ∙ ap (λ (a : ℕ). part rec a (length (data_of (fields_of rec)))) (add-zero (leader_of rec).base)

  -- how long the data is: by the last entry
  pub data_empty : (leader_of rec).nvf ≡ 0 → length (data_of (fields_of rec)) ≡ 0
  unfolding fields_of
  data_empty e = rw e (data_none rec (leader_of rec).base 0)

  pub data_end : (k : ℕ) → (leader_of rec).nvf ≡ suc k → length (data_of (fields_of rec)) ≡ pos_at rec k + len_at rec k
  unfolding fields_of
  data_end k e =
      let d = rw e at (readable_facts r).directory in
      rw e (simp zero-add at (data_last rec (leader_of rec).base ((leader_of rec).mfrl - (leader_of rec).base) directory_room k 0 0 d))
