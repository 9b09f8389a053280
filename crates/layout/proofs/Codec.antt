-- The entry's codec. An entry is block × 2048 + low part, and both parts are unique where the low part is below 2048, so that encode
-- undoes decode on every 32 bits that name a place, and decode undoes encode on every well-formed place. The cases are those of ℤ, a live
-- entry pos (b * 2048 + low) and a deleted one negsuc (b * 2048 - low - 1); omega does the arithmetic below.
use mathlib.Core.Path.{◌≡◌, refl, sym, ap, ◌∙◌}
use mathlib.Core.Bool.{Bool, true, false, cond}
use Prim.Native.Nat.{ℕ, zero, suc, ◌+◌, ◌-◌, ◌*◌, ◌/◌, ◌%◌, ◌<◌, ◌≤◌}
use native.Mathlib.Omega.{arith}
use lib.Dec.{eqb}
use lib.IntN.{ℤ, pos, negsuc, neg_ℤ, nat_abs, ◌+ℤ◌, ◌-ℤ◌, ◌*ℤ◌}
use mir.Syntax.{w32}
use mir.Val.{Fits, SFits, to_z, of_z}
use Rattle.std.proofs.lemmas.Int.{ints}
use borrow.Author.Tests.{lt-ltb, ne_eqb, eqb-true}
use Rattle.word.specs.Signed.{signed_of, bits_of}
use Rattle.word.proofs.TwosComplement.{bits_bound, signed_bits, bits_signed}
use Rattle.layout.specs.Sizes.{mst_blocks, mst_most, offset_most}
use Rattle.layout.specs.Entry.{well_placed, block_of, low_of, deleted_of, means_gone, placed, marked_place, place_of, entry_of, mark_bits, signed_block, encode_of}
use Rattle.layout.specs.declared.entry.Mark.{Mark}
use Rattle.layout.specs.declared.entry.Mark.TheVariants.{Settled, Changed, New}
use Rattle.layout.specs.declared.entry.Place.{Place}
use Rattle.layout.specs.declared.entry.Entry.{Entry}
use Rattle.layout.specs.declared.entry.Entry.TheVariants.{Gone, Malformed, At}
use Rattle.word.proofs.Tests.{false_true}
use Rattle.layout.proofs.Facts.{well_placed_facts, well_placed_later, encodable}

-- ---- entries below zero

-- -x and a lesser number
minus_plus : (x low : ℕ) → low < x → neg_ℤ (pos x) +ℤ pos low ≡ negsuc (x - low - 1)
minus_plus zero low h = absurd (omega arith)
minus_plus (suc y) low h = simp (lt-ltb low (suc y) h) (ap negsuc (omega arith))

minus_times : (b : ℕ) → neg_ℤ (pos b) *ℤ pos 2048 ≡ neg_ℤ (pos (b * 2048))
minus_times zero = refl
minus_times (suc m) = refl

deleted_entry : (b low : ℕ) → low < b * 2048 → neg_ℤ (pos b) *ℤ pos 2048 +ℤ pos low ≡ negsuc (b * 2048 - low - 1)
deleted_entry b low h = rw (minus_times b) (minus_plus (b * 2048) low h)

-- ---- marks

marks_small : (m : Mark) → mark_bits m ≤ 1024
unfolding mark_bits
marks_small Settled = omega arith
marks_small Changed = omega arith
marks_small New = omega arith

-- the offset and the mark in a low part
module _ (b p : ℕ) (d : Bool) (h : p ≤ offset_most) where
  low_offset : (m : Mark) → (p + mark_bits m) % 512 ≡ p
  unfolding mark_bits
  low_offset Settled = omega arith
  low_offset Changed = omega arith
  low_offset New = omega arith

  low_mark : (m : Mark) → marked_place b p d ((p + mark_bits m) / 512) ≡ At (placed b p d m)
  unfolding mark_bits marked_place
  low_mark Settled = let q : (p + 0) / 512 ≡ 0 = omega arith in rw q
  low_mark Changed = let q : (p + 512) / 512 ≡ 1 = omega arith in rw q
  low_mark New = let q : (p + 1024) / 512 ≡ 2 = omega arith in rw q

-- ---- what encode writes

module _ (p : Place) (o k : ℕ) (fits : (p.block.0 ≤ mst_blocks) × (p.offset ≤ offset_most)) (f : o ≡ p.offset) (e : k ≡ mark_bits p.mark) where
  low_below : o + k ≤ 1522
  low_below = omega (arith, marks_small p.mark)

  pub low_word : Fits w32 (o + k)
  low_word = record { fits = omega (arith, low_below) }

  pub low_fits : SFits w32 (pos (o + k))
  low_fits = record { sfits = omega (arith, low_below) }

  pub live_fits : SFits w32 (to_z w32 (o + k) +ℤ to_z w32 (p.block.0 * 2048))
  live_fits = let h = low_below in omega (arith, ints)

  pub dead_fits : SFits w32 (to_z w32 (o + k) -ℤ to_z w32 (p.block.0 * 2048))
  dead_fits = let h = low_below in omega (arith, ints)

  pub live_coded : p.deleted ≡ false → to_z w32 (of_z w32 (to_z w32 (o + k) +ℤ to_z w32 (p.block.0 * 2048))) ≡ encode_of p
  unfolding encode_of
  live_coded d = let h = low_below in rw (d, ← f, ← e) (omega (arith, ints))

  pub dead_coded : p.deleted ≡ true → to_z w32 (of_z w32 (to_z w32 (o + k) -ℤ to_z w32 (p.block.0 * 2048))) ≡ encode_of p
  unfolding encode_of
  dead_coded d = let h = low_below in rw (d, ← f, ← e, minus_times) (omega (arith, ints))

pub ruleset coding = (low_word, low_fits, live_fits, dead_fits, live_coded, dead_coded)

-- ---- decode undoes encode

-- the parts of a live entry and of a deleted one
module _ (b low : ℕ) (hb : 1 ≤ b) (hl : low < 2048) where
  live_block : (b * 2048 + low) / 2048 ≡ b
  live_block = omega arith

  live_low : (b * 2048 + low) % 2048 ≡ low
  live_low = omega arith

  dead_block : suc ((b * 2048 - low - 1) / 2048) ≡ b
  dead_block = omega arith

  dead_low : 2047 - (b * 2048 - low - 1) % 2048 ≡ low
  dead_low = omega arith

-- what stands in 32 bits
fits : (b low : ℕ) (d : Bool) → 1 ≤ b → b ≤ mst_blocks → low < 2048 → SFits w32 (signed_block d b *ℤ pos 2048 +ℤ pos low)
fits b low false hb h hl = record { sfits = omega arith }
fits b low true hb h hl = rw (deleted_entry b low (omega arith)) (record { sfits = omega arith })

module _ (end b p : ℕ) (m : Mark) (w : well_placed end b p ≡ true) where
  place_back : (d : Bool) → place_of end b d (p + mark_bits m) ≡ At (placed b p d m)
  unfolding place_of
  place_back d =
      let f = well_placed_facts end b p w in
      rw (low_offset b p d f.offset m, w) (low_mark b p d f.offset m)

  entry_back : (d : Bool) → entry_of end (signed_block d b *ℤ pos 2048 +ℤ pos (p + mark_bits m)) ≡ At (placed b p d m)
  unfolding entry_of
  entry_back false =
      let f = well_placed_facts end b p w in
      let hl : p + mark_bits m < 2048 = omega (arith, marks_small m) in
      rw (live_block b (p + mark_bits m) f.block hl, live_low b (p + mark_bits m) f.block hl) (place_back false)
  entry_back true =
      let f = well_placed_facts end b p w in
      let low = p + mark_bits m in
      let hl : low < 2048 = omega (arith, marks_small m) in
      let g : b * 2048 - low - 1 ≡ 2047 → ⊥ = λ x. omega arith in
      rw (
        deleted_entry b low (omega arith),
        ne_eqb (b * 2048 - low - 1) 2047 g,
        dead_block b low f.block hl,
        dead_low b low f.block hl,
      )
      (place_back true)

-- ---- encode undoes decode

-- an entry is its block × 2048 + its low part
pub entry_parts : (e : ℤ) → signed_block (deleted_of e) (nat_abs (block_of e)) *ℤ pos 2048 +ℤ pos (low_of e) ≡ e
entry_parts (pos n) = ap pos (omega arith)
entry_parts (negsuc n) = minus_plus (suc (n / 2048) * 2048) (2047 - n % 2048) (omega arith) ∙ ap negsuc (omega arith)

-- what a place holds of a block, an offset, a deleted flag and the 512s of its mark
record Holds (b p : ℕ) (d : Bool) (k : ℕ) (pl : Place) : Type 0 where
  block_is : pl.block.0 ≡ b
  offset_is : pl.offset ≡ p
  deleted_is : pl.deleted ≡ d
  mark_is : mark_bits pl.mark ≡ k * 512

module _ (b p : ℕ) (d : Bool) (k : ℕ) (pl : Place) where
  holds : (m : Mark) → At (placed b p d m) ≡ At pl → mark_bits m ≡ k * 512 → Holds b p d k pl
  holds m e h =
      let q : placed b p d m ≡ pl = cc in
      rw (← q) (record { block_is = refl; offset_is = refl; deleted_is = refl; mark_is = h })

  by_marks : (x y z : Bool) → eqb k 0 ≡ x → eqb k 1 ≡ y → eqb k 2 ≡ z
      → cond x (At (placed b p d Settled)) (cond y (At (placed b p d Changed)) (cond z (At (placed b p d New)) Malformed)) ≡ At pl → Holds b p d k pl
  unfolding mark_bits
  by_marks true y z u v w e = holds Settled e (omega (arith, eqb-true k 0 u))
  by_marks false true z u v w e = holds Changed e (omega (arith, eqb-true k 1 v))
  by_marks false false true u v w e = holds New e (omega (arith, eqb-true k 2 w))
  by_marks false false false u v w e = let o : ◌≡◌ {A = ℕ} 0 1 = cc in absurd (omega arith)

  marked_holds : marked_place b p d k ≡ At pl → Holds b p d k pl
  unfolding marked_place
  marked_holds e = by_marks (eqb k 0) (eqb k 1) (eqb k 2) refl refl refl e

-- a choice that came out as a place
pub cond_place : (t : Bool) (x : Entry) (pl : Place) → cond t x Malformed ≡ At pl → (t ≡ true) × (x ≡ At pl)
cond_place true x pl e = (refl, e)
cond_place false x pl e = let o : ◌≡◌ {A = ℕ} 0 1 = cc in absurd (omega arith)

cond_gone : (t : Bool) (x : Entry) (pl : Place) → cond t Gone x ≡ At pl → x ≡ At pl
cond_gone true x pl e = let o : ◌≡◌ {A = ℕ} 0 1 = cc in absurd (omega arith)
cond_gone false x pl e = e

module _ (end : ℕ) (e : ℤ) (pl : Place) (h : entry_of end e ≡ At pl) where
  read : (well_placed end (nat_abs (block_of e)) (low_of e % 512) ≡ true) × (marked_place (nat_abs (block_of e)) (low_of e % 512) (deleted_of e) (low_of e / 512) ≡ At pl)
  unfolding entry_of place_of
  read =
      let b : ℕ = nat_abs (block_of e) in
      let low : ℕ = low_of e in
      cond_place (well_placed end b (low % 512)) (marked_place b (low % 512) (deleted_of e) (low / 512)) pl
      (cond_gone (means_gone e) (place_of end b (deleted_of e) low) pl h)

  read_holds : Holds (nat_abs (block_of e)) (low_of e % 512) (deleted_of e) (low_of e / 512) pl
  read_holds = marked_holds (nat_abs (block_of e)) (low_of e % 512) (deleted_of e) (low_of e / 512) pl read.1

  pub decoded_well_placed : well_placed end pl.block.0 pl.offset ≡ true
  decoded_well_placed = let q = read_holds in rw (q.block_is, q.offset_is) read.0

  pub encode_decode : encode_of pl ≡ e
  unfolding encode_of
  encode_decode =
      let q = read_holds in
      let l : low_of e % 512 + low_of e / 512 * 512 ≡ low_of e = omega arith in
      rw (q.block_is, q.offset_is, q.deleted_is, q.mark_is, l) (entry_parts e)

-- over 32 bits
pub bits_encode_decode : (end n : ℕ) (pl : Place) → n < 4294967296 → entry_of end (signed_of n) ≡ At pl → bits_of (encode_of pl) ≡ n
bits_encode_decode end n pl h e = ap bits_of (encode_decode end (signed_of n) pl e) ∙ bits_signed n h

-- ---- decode undoes encode, of a place

module _ (end : ℕ) (pl : Place) (w : well_placed end pl.block.0 pl.offset ≡ true) where
  pub decode_encode : entry_of end (encode_of pl) ≡ At pl
  unfolding encode_of
  decode_encode = entry_back end pl.block.0 pl.offset pl.mark w pl.deleted

  -- an end that leaves the place well-formed leaves its entry
  pub decode_same : (e : ℤ) (other : ℕ) → entry_of other e ≡ At pl → entry_of end e ≡ At pl
  decode_same e other h = ap (entry_of end) (sym (encode_decode other e pl h)) ∙ decode_encode

  module _ (m : end ≤ mst_most) where
    low_small : pl.offset + mark_bits pl.mark < 2048
    low_small = let f = well_placed_facts end pl.block.0 pl.offset w in omega (arith, marks_small pl.mark)

    pub encoded_fits : SFits w32 (encode_of pl)
    unfolding encode_of
    encoded_fits =
        let f = well_placed_facts end pl.block.0 pl.offset w in
        fits pl.block.0 (pl.offset + mark_bits pl.mark) pl.deleted f.block (encodable end pl.block.0 pl.offset w m).1 low_small

    pub encoded_bound : bits_of (encode_of pl) < 4294967296
    encoded_bound = bits_bound (encode_of pl) encoded_fits

    -- over 32 bits
    pub bits_decode_encode : entry_of end (signed_of (bits_of (encode_of pl))) ≡ At pl
    bits_decode_encode = ap (entry_of end) (signed_bits (encode_of pl) encoded_fits) ∙ decode_encode

-- a later end leaves a place's entry
pub decode_later : (end later : ℕ) (e : ℤ) (pl : Place) → entry_of end e ≡ At pl → end ≤ later → entry_of later e ≡ At pl
decode_later end later e pl h l =
    decode_same later pl (well_placed_later end pl.block.0 pl.offset (decoded_well_placed end e pl h) later l) e end h

-- ---- the entries that name no place

pub gone_decoded : (end : ℕ) → entry_of end (negsuc 2047) ≡ Gone
unfolding entry_of
gone_decoded end = refl

marks_not_gone : (x y z : Bool) (u v w : Place) → cond x (At u) (cond y (At v) (cond z (At w) Malformed)) ≡ Gone → ⊥
marks_not_gone true y z u v w e = let o : ◌≡◌ {A = ℕ} 0 1 = cc in omega arith
marks_not_gone false true z u v w e = let o : ◌≡◌ {A = ℕ} 0 1 = cc in omega arith
marks_not_gone false false true u v w e = let o : ◌≡◌ {A = ℕ} 0 1 = cc in omega arith
marks_not_gone false false false u v w e = let o : ◌≡◌ {A = ℕ} 0 1 = cc in omega arith

place_not_gone : (t : Bool) (b p : ℕ) (d : Bool) (k : ℕ) → cond t (marked_place b p d k) Malformed ≡ Gone → ⊥
unfolding marked_place
place_not_gone true b p d k e =
    marks_not_gone (eqb k 0) (eqb k 1) (eqb k 2) (placed b p d Settled) (placed b p d Changed) (placed b p d New) e
place_not_gone false b p d k e = let o : ◌≡◌ {A = ℕ} 0 1 = cc in omega arith

gone_test : (t : Bool) (x : Entry) → (x ≡ Gone → ⊥) → cond t Gone x ≡ Gone → t ≡ true
gone_test true x n e = refl
gone_test false x n e = absurd (n e)

means_gone_lem : (e : ℤ) → means_gone e ≡ true → e ≡ negsuc 2047
means_gone_lem (pos n) h = absurd (false_true h)
means_gone_lem (negsuc n) h = ap negsuc (eqb-true n 2047 h)

pub decoded_gone : (end : ℕ) (e : ℤ) → entry_of end e ≡ Gone → e ≡ negsuc 2047
unfolding entry_of place_of
decoded_gone end e h =
    let b : ℕ = nat_abs (block_of e) in
    let low : ℕ = low_of e in
    means_gone_lem e
    (gone_test (means_gone e) (place_of end b (deleted_of e) low)
    (place_not_gone (well_placed end b (low % 512)) b (low % 512) (deleted_of e) (low / 512)) h)

-- whatever the end
pub gone_same : (end other : ℕ) (e : ℤ) → entry_of end e ≡ Gone → entry_of other e ≡ Gone
gone_same end other e h = ap (entry_of other) (decoded_gone end e h) ∙ gone_decoded other

-- 0, the entry of an MFN that was never used
pub zero_malformed : (end : ℕ) → entry_of end (pos 0) ≡ Malformed
unfolding entry_of place_of well_placed
zero_malformed end = refl
