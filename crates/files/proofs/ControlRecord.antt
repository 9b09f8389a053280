-- The control record: what a right one says, and what each write leaves of it. All that is read of it stands in its first bytes
-- (`control_read`), so what keeps those and the length keeps all that is read (`control_right_same`). How the end is stored is known here
-- and nowhere above: callers have `end_of`, `with_end` and their laws.
use Prim.Native.Nat.{ℕ, ◌+◌, ◌%◌, ◌≤◌, ◌<◌}
use native.Mathlib.Omega.{arith}
use mathlib.Core.Path.{◌≡◌, refl, sym, ap, ◌∙◌}
use mathlib.Core.Logic.{inl, inr}
use mathlib.Core.Bool.{Bool, true, false, cond}
use mathlib.Core.List.{List, []}
use lib.ListN.{length, get_or, length-replicate}
use Rattle.word.specs.Integer.{u16_at, u32_at, le}
use Rattle.word.specs.Overwrite.{overwrite, part}
use Rattle.word.proofs.Overwrite.{overwrite_length, overwrite_before, overwrite_part_after}
use Rattle.word.proofs.Integers.{u16_same, u32_same, u16_inside, u32_inside, u16_other, u32_other, u16_placed, u32_placed, u16_le_at, u32_le}
use Rattle.layout.specs.Sizes.{mst_blocks, offset_most, address_limit, mst_permitted, block_at, offset_at}
use Rattle.files.specs.Control.{offsets_from, old_offsets_from, control_read, stored_offset, read_offset, end_bytes, next_of, end_from, end_of, old_end_of, numbers_right, end_right_from, control_right_from, control_right, old_control_right, with_next, with_end, formatted_mst, migrated_mst}
use Rattle.files.specs.Inner.{control_of}
use Rattle.std.proofs.Common.{Some, None}
use Rattle.files.specs.declared.control.Control.{Control}
use Rattle.word.proofs.Tests.{tests, false_true}
use Rattle.files.proofs.Zero.{zeros, zero_u16, zero_u32}
use Rattle.layout.proofs.Facts.{address_of_at, blocks_facts}

-- ---- what a right control record says

-- CTLMFN and the type are 0, NXTMFN is at most one past the capacity, and the end lies within the MST, where a record can begin; where offsets
-- are counted from a number
pub record FactsFrom (from : ℕ) (mst : List ℕ) (capacity : ℕ) : Type 0 where
  pub number : u32_at mst 0 ≡ 0
  pub type : u16_at mst 14 ≡ 0
  pub next_low : 1 ≤ next_of mst
  pub next_high : next_of mst ≤ capacity + 1
  pub end_low : 64 ≤ end_from from mst
  pub end_in : end_from from mst ≤ length mst
  pub end_even : end_from from mst % 2 ≡ 0
  pub end_offset : end_from from mst % 512 ≤ offset_most

-- by the rule of today
abbrev pub ControlFacts : List ℕ → ℕ → Type 0
ControlFacts mst capacity = FactsFrom offsets_from mst capacity

pub control_facts : {from : ℕ} (mst : List ℕ) (capacity : ℕ) → control_right_from from mst capacity ≡ true → FactsFrom from mst capacity
unfolding control_right_from numbers_right end_right_from end_from
control_facts mst capacity e =
    let q = simp tests at e in
    record {
      number = q.0.0.0.0;
      type = q.0.0.0.1;
      next_low = q.0.0.1;
      next_high = q.0.1;
      end_low = q.1.0.1;
      end_in = q.1.1;
      end_even = omega arith;
      end_offset = omega arith;
    }

-- the end as it is stored, where offsets are counted from a number
pub record EndStored (from : ℕ) (mst : List ℕ) : Type 0 where
  pub block : 1 ≤ u32_at mst 8
  pub even : u16_at mst 12 % 2 ≡ from % 2
  pub offset : u16_at mst 12 ≤ stored_offset from offset_most

pub end_stored : (from : ℕ) (mst : List ℕ) (capacity : ℕ) → control_right_from from mst capacity ≡ true → EndStored from mst
unfolding control_right_from end_right_from
end_stored from mst capacity e =
    let q = simp tests at e in
    record { block = q.1.0.0.0.0; even = q.1.0.0.0.1; offset = q.1.0.0.1 }

-- ---- and back

control_from : (mst : List ℕ) (capacity : ℕ)
    → u32_at mst 0 ≡ 0 → u16_at mst 14 ≡ 0 → 1 ≤ next_of mst → next_of mst ≤ capacity + 1
    → EndStored offsets_from mst → 64 ≤ end_of mst → end_of mst ≤ length mst → control_right mst capacity ≡ true
unfolding control_right_from numbers_right end_right_from
control_from mst capacity a b c d s h i = simp tests ((((a, b), c), d), ((((s.block, s.even), s.offset), h), i))

-- what is read where it is right
right_cases : (t : Bool) (k l : Control) → cond t (Some k) None ≡ Some l → (t ≡ true) × (k ≡ l)
right_cases true k l p = (refl, (cc))
right_cases false k l p = absurd (cc)

-- the control record was read, and NXTMFN and the end with it
pub record ControlRead (mst : List ℕ) (capacity : ℕ) (k : Control) : Type 0 where
  pub right : control_right mst capacity ≡ true
  pub next_is : k.next.0 ≡ next_of mst
  pub end_is : k.end ≡ end_of mst

pub control_read_lem : (mst : List ℕ) (capacity : ℕ) (k : Control) → control_of mst capacity ≡ Some k → ControlRead mst capacity k
unfolding control_of
control_read_lem mst capacity k e =
    let q = right_cases (control_right mst capacity) (record { next = record { 0 = next_of mst }; end = end_of mst }) k e in
    record { right = q.0; next_is = ap (λ (l : Control). l.next.0) (sym q.1); end_is = ap (λ (l : Control). l.end) (sym q.1) }

-- ---- what keeps the bytes that are read

module _ (x y : List ℕ) (same : (i : ℕ) → i < control_read → get_or x i 0 ≡ get_or y i 0) where
  pub next_same : next_of x ≡ next_of y
  unfolding next_of
  next_same = u32_same x y 4 4 (λ m h. same (4 + m) (omega arith))

  pub end_same : end_of x ≡ end_of y
  unfolding end_from
  end_same =
      rw (u32_same x y 8 8 (λ m h. same (8 + m) (omega arith)), u16_same x y 12 12 (λ m h. same (12 + m) (omega arith)))

  module _ (long : length x ≡ length y) (capacity : ℕ) where
    pub control_right_same : control_right x capacity ≡ control_right y capacity
    unfolding control_right_from numbers_right end_right_from
    control_right_same =
        rw (
          u32_same x y 0 0 (λ m h. same (0 + m) (omega arith)),
          u16_same x y 14 14 (λ m h. same (14 + m) (omega arith)),
          next_same,
          u32_same x y 8 8 (λ m h. same (8 + m) (omega arith)),
          u16_same x y 12 12 (λ m h. same (12 + m) (omega arith)),
          end_same,
          long,
        )

-- a place behind them
module _ (mst : List ℕ) (at : ℕ) (xs : List ℕ) (low : control_read ≤ at) (fits : at + length xs ≤ length mst) where
  kept : (i : ℕ) → i < control_read → get_or (overwrite mst at xs) i 0 ≡ get_or mst i 0
  kept i h = overwrite_before mst at xs i (omega arith) (omega arith)

  pub next_placed : next_of (overwrite mst at xs) ≡ next_of mst
  next_placed = next_same (overwrite mst at xs) mst kept

  pub end_placed : end_of (overwrite mst at xs) ≡ end_of mst
  end_placed = end_same (overwrite mst at xs) mst kept

  pub control_right_placed : (capacity : ℕ) → control_right (overwrite mst at xs) capacity ≡ control_right mst capacity
  control_right_placed capacity = control_right_same (overwrite mst at xs) mst kept (overwrite_length mst at xs fits) capacity

-- ---- NXTMFN is written

module _ (mst : List ℕ) (n : ℕ) (long : 64 ≤ length mst) where
  pub next_length : length (with_next mst n) ≡ length mst
  unfolding with_next
  next_length = overwrite_length mst 4 (le 4 n) (omega arith)

  pub next_of_next : n < 4294967296 → next_of (with_next mst n) ≡ n
  unfolding with_next next_of
  next_of_next h = u32_placed mst 4 n (omega arith) h

  pub end_of_next : end_of (with_next mst n) ≡ end_of mst
  unfolding with_next end_from
  end_of_next =
      rw (u32_other mst 4 (le 4 n) 8 (omega arith) (inr (omega arith)), u16_other mst 4 (le 4 n) 12 (omega arith) (inr (omega arith)))

  next_before : u32_at (with_next mst n) 0 ≡ u32_at mst 0
  unfolding with_next
  next_before = u32_other mst 4 (le 4 n) 0 (omega arith) (inl (omega arith))

  next_after16 : (i : ℕ) → 8 ≤ i → u16_at (with_next mst n) i ≡ u16_at mst i
  unfolding with_next
  next_after16 i h = u16_other mst 4 (le 4 n) i (omega arith) (inr h)

  next_after32 : (i : ℕ) → 8 ≤ i → u32_at (with_next mst n) i ≡ u32_at mst i
  unfolding with_next
  next_after32 i h = u32_other mst 4 (le 4 n) i (omega arith) (inr h)

  pub control_right_next : (capacity other : ℕ) → control_right mst capacity ≡ true → n < 4294967296 → 1 ≤ n → n ≤ other + 1
      → control_right (with_next mst n) other ≡ true
  control_right_next capacity other e h low high =
      let f = control_facts mst capacity e in
      let s = end_stored offsets_from mst capacity e in
      let next : next_of (with_next mst n) ≡ n = next_of_next h in
      let end : end_of (with_next mst n) ≡ end_of mst = end_of_next in
      let type : u16_at (with_next mst n) 14 ≡ u16_at mst 14 = next_after16 14 (omega arith) in
      let block : u32_at (with_next mst n) 8 ≡ u32_at mst 8 = next_after32 8 (omega arith) in
      let offset : u16_at (with_next mst n) 12 ≡ u16_at mst 12 = next_after16 12 (omega arith) in
      control_from (with_next mst n) other
      (next_before ∙ f.number) (type ∙ f.type) (rw next low) (rw next high)
      (record { block = rw block s.block; even = rw offset s.even; offset = rw offset s.offset }) (rw end f.end_low)
      (rw (end, next_length) f.end_in)

-- ---- the end is written

-- an offset that is stored is read back
stored_back : (from p : ℕ) → read_offset from (stored_offset from p) ≡ p
stored_back from p = omega arith

module _ (mst : List ℕ) (e : ℕ) (long : 64 ≤ length mst) where
  pub end_length : length (with_end mst e) ≡ length mst
  unfolding with_end
  end_length = overwrite_length mst 8 (end_bytes e) (omega arith)

  pub next_of_end : next_of (with_end mst e) ≡ next_of mst
  unfolding with_end next_of
  next_of_end = u32_other mst 8 (end_bytes e) 4 (omega arith) (inl (omega arith))

  end_before : u32_at (with_end mst e) 0 ≡ u32_at mst 0
  unfolding with_end
  end_before = u32_other mst 8 (end_bytes e) 0 (omega arith) (inl (omega arith))

  end_after : u16_at (with_end mst e) 14 ≡ u16_at mst 14
  unfolding with_end
  end_after = u16_other mst 8 (end_bytes e) 14 (omega arith) (inr (omega arith))

  end_offset : u16_at (with_end mst e) 12 ≡ stored_offset offsets_from (offset_at e)
  unfolding with_end
  end_offset =
      u16_inside mst 8 (end_bytes e) 4 (omega arith) (omega arith) ∙ u16_le_at (le 4 (block_at e)) (stored_offset offsets_from (offset_at e)) [] 4 refl (omega arith)

  module _ (small : e < address_limit) where
    end_block : u32_at (with_end mst e) 8 ≡ block_at e
    unfolding with_end
    end_block = u32_inside mst 8 (end_bytes e) 0 (omega arith) (omega arith) ∙ u32_le (block_at e) (le 2 (stored_offset offsets_from (offset_at e))) (omega arith)

    pub end_of_end : end_of (with_end mst e) ≡ e
    unfolding end_from
    end_of_end = rw (end_block, end_offset, stored_back offsets_from (offset_at e)) (address_of_at e)

    pub control_right_end : (capacity : ℕ) → control_right mst capacity ≡ true → 64 ≤ e → e ≤ length mst → e % 2 ≡ 0 → e % 512 ≤ offset_most
        → control_right (with_end mst e) capacity ≡ true
    control_right_end capacity r low high even offset =
        let f = control_facts mst capacity r in
        control_from (with_end mst e) capacity
        (end_before ∙ f.number) (end_after ∙ f.type) (rw next_of_end f.next_low) (rw next_of_end f.next_high)
        (record { block = rw end_block (omega arith); even = rw end_offset (omega arith); offset = rw end_offset (omega arith) })
        (rw end_of_end low) (rw (end_of_end, end_length) high)

-- ---- an old card's end is counted from one

-- an even NXTMFP is not right
pub even_wrong : (mst : List ℕ) (capacity : ℕ) → u16_at mst 12 % 2 ≡ 0 → control_right mst capacity ≡ false
even_wrong mst capacity e = go (control_right mst capacity) refl
  where
    go : (b : Bool) → control_right mst capacity ≡ b → b ≡ false
    go false h = refl
    go true h = let odd = (end_stored offsets_from mst capacity h).even in absurd (omega arith)

-- so what is right by one rule is not right by the other
pub one_rule : (mst : List ℕ) (capacity : ℕ) → control_right mst capacity ≡ true → old_control_right mst capacity ≡ false
one_rule mst capacity e = go (old_control_right mst capacity) refl
  where
    go : (b : Bool) → old_control_right mst capacity ≡ b → b ≡ false
    go false h = refl
    go true h = absurd (false_true (sym (even_wrong mst capacity (end_stored old_offsets_from mst capacity h).even) ∙ e))

-- what stands behind the control record is kept
pub migrated_part : (mst : List ℕ) (a n : ℕ) → 64 ≤ a → part (migrated_mst mst) a n ≡ part mst a n
unfolding migrated_mst
migrated_part mst a n h = overwrite_part_after mst 12 (le 2 (u16_at mst 12 + 1)) a n (omega arith)

module _ (mst : List ℕ) (capacity : ℕ) (old : old_control_right mst capacity ≡ true) where
  pub old_long : 64 ≤ length mst
  old_long = let f = control_facts mst capacity old in omega (arith, f.end_low, f.end_in)

  -- what the write asks
  pub migrate_asks : (64 ≤ length mst) × (u16_at mst 12 ≤ offset_most)
  migrate_asks = (old_long, (end_stored old_offsets_from mst capacity old).offset)

  pub migrated_length : length (migrated_mst mst) ≡ length mst
  unfolding migrated_mst
  migrated_length = overwrite_length mst 12 (le 2 (u16_at mst 12 + 1)) (omega (arith, old_long))

  -- integers apart from NXTMFP
  migrated_u32 : (at : ℕ) → at ≤ 8 → u32_at (migrated_mst mst) at ≡ u32_at mst at
  unfolding migrated_mst
  migrated_u32 at h = u32_other mst 12 (le 2 (u16_at mst 12 + 1)) at (omega (arith, old_long)) (inl (omega arith))

  migrated_type : u16_at (migrated_mst mst) 14 ≡ u16_at mst 14
  unfolding migrated_mst
  migrated_type = u16_other mst 12 (le 2 (u16_at mst 12 + 1)) 14 (omega (arith, old_long)) (inr (omega arith))

  pub migrated_offset : u16_at (migrated_mst mst) 12 ≡ u16_at mst 12 + 1
  unfolding migrated_mst
  migrated_offset =
      let s = (end_stored old_offsets_from mst capacity old).offset in
      u16_placed mst 12 (u16_at mst 12 + 1) (omega (arith, old_long)) (omega arith)

  pub migrated_next : next_of (migrated_mst mst) ≡ next_of mst
  unfolding next_of
  migrated_next = migrated_u32 4 (omega arith)

  -- THE END IS THE OLD RULE'S
  pub migrated_end : end_of (migrated_mst mst) ≡ old_end_of mst
  unfolding end_from
  migrated_end = rw (migrated_u32 8 (omega arith), migrated_offset) (omega arith)

  -- and the control record is right
  pub migrated_right : control_right (migrated_mst mst) capacity ≡ true
  migrated_right =
      let f = control_facts mst capacity old in
      let s = end_stored old_offsets_from mst capacity old in
      control_from (migrated_mst mst) capacity
      (migrated_u32 0 (omega arith) ∙ f.number) (migrated_type ∙ f.type) (rw migrated_next f.next_low) (rw migrated_next f.next_high)
      (record {
        block = rw (migrated_u32 8 (omega arith)) s.block;
        even = rw migrated_offset (omega (arith, s.even));
        offset = rw migrated_offset (omega (arith, s.offset));
      })
      (rw migrated_end f.end_low) (rw (migrated_end, migrated_length) f.end_in)

-- ---- format

module _ (n : ℕ) where
  module _ (h : mst_permitted n ≡ true) where
    long : 64 ≤ length (zeros n)
    long = let f = blocks_facts mst_blocks n h in rw length-replicate (omega arith)

    long_next : 64 ≤ length (with_next (zeros n) 1)
    long_next = rw (next_length (zeros n) 1 long) long

    pub formatted_length : length (formatted_mst n) ≡ n
    unfolding formatted_mst
    formatted_length =
        end_length (with_next (zeros n) 1) 64 long_next ∙ next_length (zeros n) 1 long ∙ length-replicate n 0

    pub formatted_next : next_of (formatted_mst n) ≡ 1
    unfolding formatted_mst
    formatted_next = next_of_end (with_next (zeros n) 1) 64 long_next ∙ next_of_next (zeros n) 1 long (omega arith)

    pub formatted_end : end_of (formatted_mst n) ≡ 64
    unfolding formatted_mst
    formatted_end = end_of_end (with_next (zeros n) 1) 64 long_next (omega arith)

    -- NXTMFP of an empty card
    pub formatted_count : u16_at (formatted_mst n) 12 ≡ 65
    unfolding formatted_mst
    formatted_count = end_offset (with_next (zeros n) 1) 64 long_next

    pub formatted_right : (capacity : ℕ) → control_right (formatted_mst n) capacity ≡ true
    unfolding formatted_mst
    formatted_right capacity =
        let zs : List ℕ = zeros n in
        let next : List ℕ = with_next zs 1 in
        let f = blocks_facts mst_blocks n h in
        let size : length (with_end next 64) ≡ n = formatted_length in
        control_from (with_end next 64) capacity
        (end_before next 64 long_next ∙ next_before zs 1 long ∙ zero_u32 n 0)
        (end_after next 64 long_next ∙ next_after16 zs 1 long 14 (omega arith) ∙ zero_u16 n 14)
        (rw formatted_next (omega arith)) (rw formatted_next (omega arith))
        (record {
          block = rw (end_block next 64 long_next (omega arith)) (omega arith);
          even = rw (end_offset next 64 long_next) refl;
          offset = rw (end_offset next 64 long_next) (omega arith);
        })
        (rw formatted_end (omega arith)) (rw (formatted_end, size) (omega arith))
