-- The cross-reference file: slots and first integers never overlap, so an entry that is written is read back and leaves every other
-- entry, free slot and first integer as it was. A place at one of them is apart from a number at another (`Apart`), and a number that
-- stands apart from a place is kept (u32_other).
use Prim.Native.Nat.{ℕ, zero, suc, ◌+◌, ◌*◌, ◌-◌, ◌/◌, ◌≤◌, ◌<◌}
use native.Mathlib.Numerals.{add-one}
use native.Mathlib.Omega.{arith}
use mathlib.Core.Path.{◌≡◌, refl, ap, ◌∙◌}
use mathlib.Core.Logic.{◌⊎◌, inl, inr, ⊎_elim}
use mathlib.Core.Bool.{Bool, true, false, cond}
use mathlib.Core.List.{List}
use lib.Dec.{eqb}
use lib.ListN.{length, get_or, length-replicate}
use borrow.Author.Tests.{eq-eqb}
use Rattle.word.specs.Integer.{u32_at, le}
use Rattle.word.specs.Overwrite.{overwrite}
use Rattle.word.specs.Signed.{signed_of, bits_of}
use Rattle.word.proofs.Overwrite.{lt_or_ge, overwrite_length, overwrite_other}
use Rattle.word.proofs.Integers.{u32_placed, u32_other}
use Rattle.layout.specs.Sizes.{xrf_blocks, mst_most, capacity_of, xrf_permitted}
use Rattle.layout.specs.Entry.{well_placed, entry_of, encode_of}
use Rattle.files.specs.CrossReference.{xrf_block, slot_at, head_bits, head_right, entry_at, slot_free, with_entry, with_heads, formatted_xrf}
use Rattle.layout.specs.declared.entry.Place.{Place}
use Rattle.layout.specs.declared.entry.Entry.{Entry}
use Rattle.layout.specs.declared.entry.Entry.TheVariants.{Gone, Malformed, At}
use Rattle.layout.proofs.Facts.{blocks_facts}
use Rattle.layout.proofs.Codec.{cond_place, decoded_well_placed, decode_later, bits_decode_encode, encoded_bound, gone_same}
use Rattle.files.proofs.Zero.{zeros, zero_u32}

-- ---- where slots and first integers stand

-- a slot lies in an XRF of n bytes
pub slot_in : (n m : ℕ) → 1 ≤ m → m ≤ capacity_of n → slot_at m + 4 ≤ n
slot_in n m h k = omega arith

-- its block too
pub block_in : (n m : ℕ) → 1 ≤ m → m ≤ capacity_of n → xrf_block m ≤ n / 512
block_in n m h k = omega arith

-- two runs of 4 bytes do not overlap
abbrev pub Apart : ℕ → ℕ → Type 0
Apart a b = (a + 4 ≤ b) ⊎ (b + 4 ≤ a)

slot_less : (m o : ℕ) → 1 ≤ m → m < o → slot_at m + 4 ≤ slot_at o
slot_less m o h k = omega arith

pub slots_apart : (m o : ℕ) → 1 ≤ m → 1 ≤ o → (m ≡ o → ⊥) → Apart (slot_at m) (slot_at o)
slots_apart m o h k d =
    ⊎_elim (λ l. inl (slot_less m o h l)) (λ l. inr (slot_less o m k (less m o d l))) (lt_or_ge m o)
  where
    less : (m o : ℕ) → (m ≡ o → ⊥) → o ≤ m → o < m
    less m o d l = ⊎_elim (λ g. g) (λ g. absurd (d (omega arith))) (lt_or_ge o m)

-- a slot and the first integer of block k + 1
pub head_apart : (k m : ℕ) → Apart (k * 512) (slot_at m)
head_apart k m = ⊎_elim (λ l. inr (omega arith)) (λ l. inl (omega arith)) (lt_or_ge ((m - 1) / 127) k)

-- ---- what an entry says

gone_cases : (t : Bool) (x : Entry) → cond t x Malformed ≡ Gone → (t ≡ true) × (x ≡ Gone)
gone_cases true x e = (refl, e)
gone_cases false x e = let z : ◌≡◌ {A = ℕ} 0 1 = cc in absurd (omega arith)

pub entry_at_right : (xrf : List ℕ) (end m : ℕ) → head_right xrf (xrf_block m) ≡ true → entry_at xrf end m ≡ entry_of end (signed_of (u32_at xrf (slot_at m)))
unfolding entry_at
entry_at_right xrf end m e = rw e

module _ (xrf : List ℕ) (end m : ℕ) (pl : Place) (e : entry_at xrf end m ≡ At pl) where
  entry_read : (head_right xrf (xrf_block m) ≡ true) × (entry_of end (signed_of (u32_at xrf (slot_at m))) ≡ At pl)
  unfolding entry_at
  entry_read = cond_place (head_right xrf (xrf_block m)) (entry_of end (signed_of (u32_at xrf (slot_at m)))) pl e

  pub entry_head : head_right xrf (xrf_block m) ≡ true
  entry_head = entry_read.0

  pub entry_well_placed : well_placed end pl.block.0 pl.offset ≡ true
  entry_well_placed = decoded_well_placed end (signed_of (u32_at xrf (slot_at m))) pl entry_read.1

  -- with another end
  pub entry_later : (later : ℕ) → end ≤ later → entry_at xrf later m ≡ At pl
  entry_later later h = entry_at_right xrf later m entry_head ∙ decode_later end later (signed_of (u32_at xrf (slot_at m))) pl entry_read.1 h

-- whatever the end
pub entry_gone : (xrf : List ℕ) (end other m : ℕ) → entry_at xrf end m ≡ Gone → entry_at xrf other m ≡ Gone
unfolding entry_at
entry_gone xrf end other m e =
    let q = gone_cases (head_right xrf (xrf_block m)) (entry_of end (signed_of (u32_at xrf (slot_at m)))) e in
    rw q.0 (gone_same end other (signed_of (u32_at xrf (slot_at m))) q.1)

-- ---- an entry is written

module _ (xrf : List ℕ) (m : ℕ) (pl : Place) where
  module _ (in-slot : slot_at m + 4 ≤ length xrf) where
    pub with_entry_length : length (with_entry xrf m pl) ≡ length xrf
    unfolding with_entry
    with_entry_length = overwrite_length xrf (slot_at m) (le 4 (bits_of (encode_of pl))) in-slot

    pub with_entry_byte : (i : ℕ) → (i < slot_at m) ⊎ (slot_at m + 4 ≤ i) → get_or (with_entry xrf m pl) i 0 ≡ get_or xrf i 0
    unfolding with_entry
    with_entry_byte i side = overwrite_other xrf (slot_at m) (le 4 (bits_of (encode_of pl))) i (omega arith) side

    -- a number that stands apart
    pub with_entry_u32 : (at : ℕ) → Apart at (slot_at m) → u32_at (with_entry xrf m pl) at ≡ u32_at xrf at
    unfolding with_entry
    with_entry_u32 at side = u32_other xrf (slot_at m) (le 4 (bits_of (encode_of pl))) at (omega arith) side

    pub with_entry_head : (k : ℕ) → head_right (with_entry xrf m pl) k ≡ head_right xrf k
    unfolding head_right
    with_entry_head k = rw (with_entry_u32 ((k - 1) * 512) (head_apart (k - 1) m), with_entry_length)

    module _ (low : 1 ≤ m) (o : ℕ) (other-low : 1 ≤ o) (other : o ≡ m → ⊥) where
      pub with_entry_free : slot_free (with_entry xrf m pl) o ≡ slot_free xrf o
      unfolding slot_free
      with_entry_free = rw (with_entry_u32 (slot_at o) (slots_apart o m other-low low other))

      pub with_entry_other : (end : ℕ) → entry_at (with_entry xrf m pl) end o ≡ entry_at xrf end o
      unfolding entry_at
      with_entry_other end = rw (with_entry_head (xrf_block o), with_entry_u32 (slot_at o) (slots_apart o m other-low low other))

    module _ (end : ℕ) (w : well_placed end pl.block.0 pl.offset ≡ true) (most : end ≤ mst_most) where
      pub with_entry_bits : u32_at (with_entry xrf m pl) (slot_at m) ≡ bits_of (encode_of pl)
      unfolding with_entry
      with_entry_bits = u32_placed xrf (slot_at m) (bits_of (encode_of pl)) in-slot (encoded_bound end pl w most)

      pub with_entry_same : head_right xrf (xrf_block m) ≡ true → entry_at (with_entry xrf m pl) end m ≡ At pl
      unfolding entry_at
      with_entry_same h = rw (with_entry_head (xrf_block m), h, with_entry_bits) (bits_decode_encode end pl w most)

-- ---- the first integers are written, and format

pub head_bound : (n k : ℕ) → 1 ≤ k → k ≤ xrf_blocks → head_bits n k < 4294967296
unfolding head_bits
head_bound n k h l = either (eqb k n)
  where
    either : (t : Bool) → cond t (4294967296 - k) k < 4294967296
    either true = omega arith
    either false = omega arith

module _ (n : ℕ) (xrf : List ℕ) where
  -- k first integers, of the file with one more
  pub heads_more : (k : ℕ) → with_heads n (k + 1) xrf ≡ overwrite (with_heads n k xrf) (k * 512) (le 4 (head_bits n (k + 1)))
  unfolding with_heads
  heads_more k = rw (add-one k)

  pub heads_length : (k : ℕ) → k * 512 ≤ length xrf → length (with_heads n k xrf) ≡ length xrf
  unfolding with_heads
  heads_length zero h = refl
  heads_length (suc k) h =
      let l : length (with_heads n k xrf) ≡ length xrf = heads_length k (omega arith) in
      overwrite_length (with_heads n k xrf) (k * 512) (le 4 (head_bits n (suc k))) (omega arith) ∙ l

  -- what stands in a slot is kept
  pub heads_slot : (k m : ℕ) → k * 512 ≤ length xrf → u32_at (with_heads n k xrf) (slot_at m) ≡ u32_at xrf (slot_at m)
  unfolding with_heads
  heads_slot zero m h = refl
  heads_slot (suc k) m h =
      let l : length (with_heads n k xrf) ≡ length xrf = heads_length k (omega arith) in
      u32_other (with_heads n k xrf) (k * 512) (le 4 (head_bits n (suc k))) (slot_at m) (omega arith) (swap (head_apart k m)) ∙ heads_slot k m (omega arith)
    where
      swap : {a b : ℕ} → Apart a b → Apart b a
      swap s = ⊎_elim inr inl s

  -- each first integer that was written stands
  pub heads_read : (k j : ℕ) → k * 512 ≤ length xrf → k ≤ xrf_blocks → j < k → u32_at (with_heads n k xrf) (j * 512) ≡ head_bits n (suc j)
  unfolding with_heads
  heads_read zero j h l i = absurd (omega arith)
  heads_read (suc k) j h l i = ⊎_elim (λ g. before g (heads_read k j (omega arith) (omega arith) g)) last (lt_or_ge j k)
    where
      long : length (with_heads n k xrf) ≡ length xrf
      long = heads_length k (omega arith)

      before : j < k → u32_at (with_heads n k xrf) (j * 512) ≡ head_bits n (suc j)
          → u32_at (overwrite (with_heads n k xrf) (k * 512) (le 4 (head_bits n (suc k)))) (j * 512) ≡ head_bits n (suc j)
      before g e =
          u32_other (with_heads n k xrf) (k * 512) (le 4 (head_bits n (suc k))) (j * 512) (omega (arith, long)) (inl (omega arith)) ∙ e

      last : k ≤ j → u32_at (overwrite (with_heads n k xrf) (k * 512) (le 4 (head_bits n (suc k)))) (j * 512) ≡ head_bits n (suc j)
      last g =
          let e : j ≡ k = omega arith in
          rw e
          (u32_placed (with_heads n k xrf) (k * 512) (head_bits n (suc k)) (omega (arith, long)) (head_bound n (suc k) (omega arith) l))

module _ (n : ℕ) (h : xrf_permitted n ≡ true) where
  whole : n / 512 * 512 ≤ length (zeros n)
  whole = rw length-replicate (omega arith)

  pub formatted_xrf_length : length (formatted_xrf n) ≡ n
  unfolding formatted_xrf
  formatted_xrf_length = heads_length (n / 512) (zeros n) (n / 512) whole ∙ length-replicate n 0

  formatted_read : (j : ℕ) → j < n / 512 → u32_at (formatted_xrf n) (j * 512) ≡ head_bits (n / 512) (suc j)
  unfolding formatted_xrf
  formatted_read j l =
      let f = blocks_facts xrf_blocks n h in
      heads_read (n / 512) (zeros n) (n / 512) j whole (omega arith) l

  pub formatted_head : (k : ℕ) → 1 ≤ k → k ≤ n / 512 → head_right (formatted_xrf n) k ≡ true
  unfolding head_right
  formatted_head k low high =
      let s : suc (k - 1) ≡ k = omega arith in
      rw formatted_xrf_length
      (eq-eqb (u32_at (formatted_xrf n) ((k - 1) * 512)) (head_bits (n / 512) k)
      (formatted_read (k - 1) (omega arith) ∙ ap (head_bits (n / 512)) s))

  pub formatted_free : (m : ℕ) → slot_free (formatted_xrf n) m ≡ true
  unfolding slot_free formatted_xrf
  formatted_free m =
      eq-eqb (u32_at (with_heads (n / 512) (n / 512) (zeros n)) (slot_at m)) 0 (heads_slot (n / 512) (zeros n) (n / 512) m whole ∙ zero_u32 n (slot_at m))
