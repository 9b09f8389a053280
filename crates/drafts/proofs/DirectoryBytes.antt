-- The directory and the data of a record's fields are the bytes that stand in it.
use Prim.Native.Nat.{ℕ, zero, suc, ◌+◌, ◌*◌, ◌-◌, ◌≤◌}
use native.Mathlib.Omega.{arith}
use mathlib.Core.Path.{◌≡◌, refl, sym, ap, ◌∙◌}
use mathlib.Core.Bool.{true}
use mathlib.Core.List.{List, [], ◌∷◌, ◌++◌}
use lib.ListN.{length}
use Rattle.word.specs.Integer.{le}
use Rattle.word.specs.Overwrite.{part}
use Rattle.word.proofs.Overwrite.{part_add}
use Rattle.word.proofs.Integers.{Bytes, u16_back}
use Rattle.layout.specs.Leader.{leader_of}
use Rattle.record.specs.Directory.{tag_at, pos_at, len_at, directory_right}
use Rattle.record.specs.Fields.{Field, fields_from, fields_of, data_of}
use Rattle.drafts.specs.Bytes.{entry_bytes, directory_bytes, used_by}
use Rattle.record.specs.Record.{Readable}
use Rattle.record.proofs.Facts.{entry_facts, readable_facts}
use Rattle.record.proofs.FieldData.{fields_count, first_length, directory_room, data_part}

pub directory_length : (pos : ℕ) (fs : List Field) → length (directory_bytes pos fs) ≡ 6 * length fs
unfolding directory_bytes
directory_length pos [] = refl
directory_length pos (f ∷ fs) = let e = directory_length (pos + length f.bytes) fs in omega arith

-- the bytes of an entry are those that stand there
pub entry_is : (rec : List ℕ) → Bytes rec → (i : ℕ) → 24 + 6 * i ≤ length rec
    → entry_bytes (tag_at rec i) (pos_at rec i) (len_at rec i) ≡ part rec (18 + 6 * i) 6
entry_is rec small i h =
    let at : ℕ = 18 + 6 * i in
    let p : 20 + 6 * i ≡ at + 2 = omega arith in
    let q : 22 + 6 * i ≡ at + 4 = omega arith in
    let tag : le 2 (tag_at rec i) ≡ part rec at 2 = u16_back rec at small (omega arith) in
    let pos : le 2 (pos_at rec i) ≡ part rec (at + 2) 2 = u16_back rec (20 + 6 * i) small (omega arith) ∙ ap (λ (a : ℕ). part rec a 2) p in
    let len : le 2 (len_at rec i) ≡ part rec (at + 4) 2 = u16_back rec (22 + 6 * i) small (omega arith) ∙ ap (λ (a : ℕ). part rec a 2) q in
    ap (λ (x : List ℕ). x ++ le 2 (pos_at rec i) ++ le 2 (len_at rec i)) tag
    ∙ ap (λ (x : List ℕ). part rec at 2 ++ x ++ le 2 (len_at rec i)) pos
    ∙ ap (λ (x : List ℕ). part rec at 2 ++ part rec (at + 2) 2 ++ x) len
    ∙ ap (λ (x : List ℕ). x ++ part rec (at + 4) 2) (sym (part_add rec at 2 2))
    ∙ sym (part_add rec at 4 2)

-- the directory of the fields is the record's own, in a record that holds `room` bytes behind `base`
module _ (rec : List ℕ) (base room : ℕ) (within : base + room ≤ length rec) (small : Bytes rec) where
  pub directory_is : (k i pos : ℕ) → directory_right rec room k i pos ≡ true → 18 + 6 * (i + k) ≤ length rec
      → directory_bytes pos (fields_from rec base k i) ≡ part rec (18 + 6 * i) (6 * k)
  unfolding fields_from directory_bytes
  directory_is zero i pos d h = refl
  directory_is (suc k) i pos d h =
      let f = entry_facts rec room k i pos d in
      let n : ℕ = len_at rec i in
      let rest : List ℕ = directory_bytes (pos + n) (fields_from rec base k (i + 1)) in
      let next : 18 + 6 * (i + 1) ≡ 18 + 6 * i + 6 = omega arith in
      let all : 6 + 6 * k ≡ 6 * suc k = omega arith in
      ap (λ (m : ℕ). entry_bytes (tag_at rec i) pos m ++ directory_bytes (pos + m) (fields_from rec base k (i + 1))) (first_length rec base room within k i pos d)
      ∙ ap (λ (p : ℕ). entry_bytes (tag_at rec i) p n ++ rest) (sym f.pos_is)
      ∙ ap (λ (x : List ℕ). x ++ rest) (entry_is rec small i (omega arith))
      ∙ ap (λ (x : List ℕ). part rec (18 + 6 * i) 6 ++ x)
      (directory_is k (i + 1) (pos + n) f.rest (omega arith) ∙ ap (λ (a : ℕ). part rec a (6 * k)) next)
      ∙ sym (part_add rec (18 + 6 * i) 6 (6 * k))
      ∙ ap (part rec (18 + 6 * i)) all

-- ---- a record that can be read

module _ (rec : List ℕ) (r : Readable rec) where
  pub used_is : used_by (fields_of rec) ≡ (leader_of rec).base + length (data_of (fields_of rec))
  used_is = omega (arith, (readable_facts r).base_is, fields_count rec)

  pub directory_part : Bytes rec → directory_bytes 0 (fields_of rec) ≡ part rec 18 (6 * (leader_of rec).nvf)
  unfolding fields_of
  directory_part small =
      directory_is rec (leader_of rec).base ((leader_of rec).mfrl - (leader_of rec).base) (directory_room rec r) small (leader_of rec).nvf 0 0 (readable_facts r).directory
      (omega (arith, (readable_facts r).base_is, (readable_facts r).base_in, (readable_facts r).record_in))

  -- directory and data together are what stands behind the leader
  pub body_part : Bytes rec → directory_bytes 0 (fields_of rec) ++ data_of (fields_of rec) ≡ part rec 18 (used_by (fields_of rec) - 18)
  body_part small =
      let n : ℕ = length (data_of (fields_of rec)) in
      let e : 6 * (leader_of rec).nvf + n ≡ used_by (fields_of rec) - 18 = omega (arith, fields_count rec) in
      ap (λ (x : List ℕ). x ++ data_of (fields_of rec)) (directory_part small)
      ∙ ap (λ (x : List ℕ). part rec 18 (6 * (leader_of rec).nvf) ++ x) (data_part rec r ∙ ap (λ (a : ℕ). part rec a n) (readable_facts r).base_is)
      ∙ sym (part_add rec 18 (6 * (leader_of rec).nvf) n)
      ∙ ap (part rec 18) e
