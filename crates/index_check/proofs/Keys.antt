-- The active keys of a record as keys that stand a step apart, and what the tests of a record's keys ask.
use Prim.Native.Nat.{ℕ, zero, suc, ◌+◌, ◌*◌, ◌≤◌}
use native.Mathlib.Nat.{suc-mul}
use native.Mathlib.Omega.{arith}
use mathlib.Core.Path.{◌≡◌, refl, ap}
use mathlib.Core.Bool.{true}
use mathlib.Core.List.{List}
use lib.ListN.{length}
use Rattle.terms.specs.Key.{ascending}
use Rattle.terms.specs.Inner.{keys_run}
use Rattle.terms.specs.Term.{width_of}
use Rattle.terms.specs.declared.term.Kind.{Kind}
use Rattle.index.specs.Shape.{Shape, shape}
use Rattle.index.specs.Layout.{ock_at, key_place, keys_from, keys_of}
use Rattle.index.specs.Rules.{record_right}
use Rattle.index.proofs.Shapes.{right_facts, keys_in}

place_next : (s : Shape) (n i : ℕ) → key_place s n (i + 1) ≡ key_place s n i + s.step
unfolding key_place
place_next s n i =
    let z : i + 1 ≡ suc i = omega arith in
    rw z (omega (arith, suc-mul i s.step))

keys_run_is : (f : List ℕ) (s : Shape) (n k i : ℕ) → keys_run f (key_place s n i) s.step s.width k ≡ keys_from f s n k i
unfolding keys_run keys_from
keys_run_is f s n zero i = refl
keys_run_is f s n (suc k) i = rw (← place_next s n i, keys_run_is f s n k (i + 1))

pub run_in : (f : List ℕ) (s : Shape) (n first step count : ℕ) → first ≡ key_place s n 0 → step ≡ s.step → count ≡ ock_at f s n → record_right f s n ≡ true
    → (1 ≤ count) × (first + count * step ≤ length f)
run_in f s n first step count e p k r = rw (e, p, k) ((right_facts f s n r).count_low, keys_in f s n r)

pub run_keys : (f : List ℕ) (s : Shape) (n first step width count : ℕ) → first ≡ key_place s n 0 → step ≡ s.step → width ≡ s.width → count ≡ ock_at f s n
    → ascending (keys_run f first step width count) ≡ ascending (keys_of f s n)
run_keys f s n first step width count e p w k = rw (e, p, w, k) (ap ascending (keys_run_is f s n (ock_at f s n) 0))

-- the numbers of a shape, by its tree's type
pub record Steps (s : Shape) (kind : Kind) (tail : ℕ) : Type 0 where
  pub width : s.width ≡ width_of kind
  pub step : s.step ≡ width_of kind + tail

pub steps_of : (s : Shape) (kind own : Kind) (head tail most : ℕ) → shape own head tail most ≡ s → own ≡ kind → Steps s kind tail
steps_of s kind own head tail most v k = rw (← v, k) (record { width = refl; step = refl })
