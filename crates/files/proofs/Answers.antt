-- What the functions that test return, by what the tests found. Each law's premises are what is known at one `return`, so that
-- `search answers` finds them there wherever they stand; a callee's result is a variable with what the callee ensures of it.
use Prim.Native.Nat.{ℕ, ◌+◌, ◌*◌, ◌/◌, ◌≤◌, ◌<◌}
use native.Mathlib.Omega.{arith}
use mathlib.Core.Path.{◌≡◌, refl, sym, ◌∙◌}
use mathlib.Core.Bool.{Bool, true, false, and-false}
use mathlib.Core.List.{List}
use lib.ListN.{length, replicate, length-replicate}
use Rattle.word.proofs.Overwrite.{overwrite_next}
use Rattle.word.specs.Integer.{u16_at, u32_at, le}
use Rattle.word.specs.Overwrite.{overwrite}
use Rattle.layout.specs.Sizes.{mst_blocks, mst_permitted, block_at, offset_at}
use Rattle.files.specs.Control.{offsets_from, stored_offset, end_right_from, control_right_from, control_right, with_next, with_end, formatted_mst}
use Rattle.files.specs.CrossReference.{head_bits, with_heads, formatted_xrf}
use Rattle.word.proofs.Tests.{tests}
use Rattle.layout.proofs.Facts.{blocks_facts}
use Rattle.files.proofs.ControlRecord.{control_facts, end_stored, next_length}
use Rattle.files.proofs.CrossReference.{heads_more}

-- ---- the control record

-- where offsets are counted from a number
module _ (from : ℕ) (mst : List ℕ) where
  end_long : (t : Bool) → end_right_from from mst ≡ t → length mst < 64 → end_right_from from mst ≡ false
  unfolding end_right_from
  end_long true e h = let q = simp tests at e in absurd (omega arith)
  end_long false e h = e

  pub control_short : (capacity : ℕ) → length mst < 64 → false ≡ control_right_from from mst capacity
  unfolding control_right_from
  control_short capacity h = rw (end_long (end_right_from from mst) refl h, and-false)

-- what is read by the rule of today
module _ (mst : List ℕ) (capacity : ℕ) (b : Bool) (e : b ≡ control_right mst capacity) (t : b ≡ true) where
  right : control_right mst capacity ≡ true
  right = sym e ∙ t

  pub read_long : 64 ≤ length mst
  read_long = let f = control_facts mst capacity right in omega arith

  pub read_block : 1 ≤ u32_at mst 8
  read_block = (end_stored offsets_from mst capacity right).block

  pub read_offset_lem : offsets_from ≤ u16_at mst 12
  read_offset_lem = let s = (end_stored offsets_from mst capacity right).even in omega arith

pub ruleset reading = (read_long, read_block, read_offset_lem)

-- ---- writes

module _ (mst out : List ℕ) where
  pub end_put : (b p from e : ℕ) (half : List ℕ) → half ≡ overwrite mst 8 (le 4 b) → b ≡ block_at e → out ≡ overwrite half 12 (le 2 (p + from)) → p ≡ offset_at e
      → from ≡ offsets_from → 64 ≤ length mst → out ≡ with_end mst e
  unfolding with_end
  end_put b p from e half h i j k l long = rw (j, h, i, k, l) (overwrite_next mst 8 (le 4 (block_at e)) (le 2 (stored_offset offsets_from (offset_at e))) (omega arith))

module _ (zero : List ℕ) (n : ℕ) (permitted : mst_permitted n ≡ true) (z : zero ≡ replicate n 0) where
  pub long_zero : 64 ≤ length zero
  long_zero = let f = blocks_facts mst_blocks n permitted in rw (z, length-replicate) (omega arith)

  module _ (next : List ℕ) (h : next ≡ with_next zero 1) where
    pub long_next : 64 ≤ length next
    long_next = rw (h, next_length zero 1 long_zero) long_zero

    pub mst_put : (out : List ℕ) → out ≡ with_end next 64 → out ≡ formatted_mst n
    unfolding formatted_mst
    mst_put out i = rw (i, h, z)

module _ (xrf : List ℕ) where
  pub head_put : (n k h : ℕ) (cur out : List ℕ) → cur ≡ with_heads n k xrf → h ≡ head_bits n (k + 1) → out ≡ overwrite cur (k * 512) (le 4 h)
      → out ≡ with_heads n (k + 1) xrf
  head_put n k h cur out e i j = rw (j, e, i, heads_more n xrf k)

  pub xrf_put : (n : ℕ) (out : List ℕ) → xrf ≡ replicate n 0 → out ≡ with_heads (length xrf / 512) (length xrf / 512) xrf → out ≡ formatted_xrf n
  unfolding formatted_xrf
  xrf_put n out e i = rw (i, e, length-replicate)
