-- The turns of the loop over a node's PUNTs.
use Prim.Native.Nat.{ℕ, zero, suc, ◌+◌, ◌-◌, ◌<◌}
use native.Mathlib.Nat.{add-zero, add-suc}
use native.Mathlib.Numerals.{add-one}
use native.Mathlib.Omega.{arith}
use mathlib.Core.Path.{◌≡◌}
use mathlib.Core.Bool.{true, false, and-false}
use mathlib.Core.List.{List}
use borrow.Author.Tests.{ne_eqb}
use Rattle.index.specs.Shape.{Shape}
use Rattle.index.specs.Layout.{punt_at}
use Rattle.index.specs.Rules.{punts_right}

module _ (f : List ℕ) (s : Shape) (n : ℕ) where
  pub punts_more : (i : ℕ) → punts_right f s n i ≡ true → (punt_at f s n i ≡ 0 → ⊥) → punts_right f s n (i + 1) ≡ true
  unfolding punts_right
  punts_more i inv h = rw (add-one, inv, ne_eqb _ _ h)

  punts_fail : (d i : ℕ) → punt_at f s n i ≡ 0 → punts_right f s n (suc i + d) ≡ false
  unfolding punts_right
  punts_fail zero i e = rw (add-zero, e, and-false)
  punts_fail (suc d) i e = rw (add-suc, punts_fail d i e)

  pub punts_zero : (i count : ℕ) → punt_at f s n i ≡ 0 → i < count → punts_right f s n count ≡ false
  punts_zero i count e h =
      let q : suc i + (count - suc i) ≡ count = omega arith in
      rw (← q) (punts_fail (count - suc i) i e)
