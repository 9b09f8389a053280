-- The turns of the loop that asks whether keys ascend.
use Prim.Native.Nat.{ℕ, suc, ◌+◌, ◌-◌, ◌≤◌}
use native.Mathlib.Nat.{add-zero}
use native.Mathlib.Omega.{arith}
use mathlib.Core.Path.{◌≡◌, refl, sym, ap, ◌∙◌}
use mathlib.Core.Bool.{Bool, true, false, ◌&&◌}
use mathlib.Core.List.{List}
use Rattle.word.specs.Overwrite.{part}
use Rattle.word.proofs.Overwrite.{part_part}
use Rattle.terms.specs.Key.{below, ascending, ascending_after}
use Rattle.terms.specs.Inner.{big, keys_run}

-- the number of a key's first 8 bytes, of the key alone
pub front_big : (f : List ℕ) (at width x : ℕ) → 8 ≤ width → x ≡ big (part f at 8) → x ≡ big (part (part f at width) 0 8)
front_big f at width x h e = e ∙ ap big (sym (part_part f at width 0 8 h ∙ ap (λ (k : ℕ). part f k 8) (add-zero at)))

module _ (f : List ℕ) (step width : ℕ) where
  first : (at k : ℕ) → ascending (keys_run f at step width (suc k)) ≡ ascending_after (part f at width) (keys_run f (at + step) step width k)
  unfolding ascending keys_run
  first at k = refl

  after : (x : List ℕ) (at k : ℕ) → ascending_after x (keys_run f at step width (suc k)) ≡ (below x (part f at width) && ascending_after (part f at width) (keys_run f (at + step) step width k))
  unfolding ascending_after keys_run
  after x at k = refl

  pub run_start : (at count : ℕ) → 1 ≤ count → ascending (keys_run f at step width count) ≡ ascending_after (part f at width) (keys_run f (at + step) step width (count - 1))
  run_start at count h =
      let z : count ≡ suc (count - 1) = omega arith in
      ap (λ (k : ℕ). ascending (keys_run f at step width k)) z ∙ first at (count - 1)

  -- r is what all keys do, which those behind the one at `key` decide
  module _ (r : Bool) (key left : ℕ) (inv : r ≡ ascending_after (part f key width) (keys_run f (key + step) step width left)) where
    pub run_done : left ≤ 0 → true ≡ r
    unfolding ascending_after keys_run
    run_done h = let z : left ≡ 0 = omega arith in rw (inv, z)

    module _ (b : Bool) (next left' : ℕ) (n : next ≡ key + step) (l : left ≡ left' + 1) (e : b ≡ below (part f key width) (part f next width)) where
      run_step : r ≡ (b && ascending_after (part f next width) (keys_run f (next + step) step width left'))
      run_step =
          let z : left ≡ suc left' = omega arith in
          inv ∙ ap (λ (k : ℕ). ascending_after (part f key width) (keys_run f (key + step) step width k)) z ∙ rw (← n, after (part f key width) next left', ← e)

      pub run_stop : b ≡ false → false ≡ r
      run_stop q = rw (run_step, q)

      pub run_next : b ≡ true → r ≡ ascending_after (part f next width) (keys_run f (next + step) step width left')
      run_next q = rw (run_step, q)
