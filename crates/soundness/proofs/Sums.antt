-- Sums over 1 to n. One law says how a sum changes where one summand does (`sum_other`); that of a sum of which all but one summand are 0 is a
-- case of it.
use Prim.Native.Nat.{ℕ, zero, suc, ◌+◌, ◌-◌, ◌≤◌}
use native.Mathlib.Omega.{arith}
use native.Mathlib.Decide.{ℕ_discrete}
use mathlib.Core.Path.{◌≡◌, refl, sym, ◌∙◌}
use mathlib.Core.Bool.{Bool, true, false, ◌&&◌}
use lib.Dec.{eqb}
use borrow.Author.Tests.{eqb-true, eqb-false, eq-eqb, ne_eqb}
use Rattle.soundness.specs.Sound.{sum_to, all_to}

pub sum_more : (n : ℕ) (f : ℕ → ℕ) → 1 ≤ n → sum_to (n + 1 - 1) f ≡ sum_to (n - 1) f + f n
unfolding sum_to
sum_more n f lo =
    let e : n + 1 - 1 ≡ suc (n - 1) = omega arith in
    let s : suc (n - 1) ≡ n = omega arith in
    rw e (rw s refl)

pub sum_same : (n : ℕ) (f g : ℕ → ℕ) → ((m : ℕ) → 1 ≤ m → m ≤ n → f m ≡ g m) → sum_to n f ≡ sum_to n g
unfolding sum_to
sum_same zero f g h = refl
sum_same (suc n) f g h = rw (sum_same n f g (λ m lo hi. h m lo (omega arith)), h (suc n) (omega arith) (omega arith))

sum_zero : (n : ℕ) → sum_to n (λ (m : ℕ). 0) ≡ 0
unfolding sum_to
sum_zero zero = refl
sum_zero (suc n) = omega (arith, sum_zero n)

pub sum_none : (n : ℕ) (f : ℕ → ℕ) → ((m : ℕ) → 1 ≤ m → m ≤ n → f m ≡ 0) → sum_to n f ≡ 0
sum_none n f h = sum_same n f (λ (m : ℕ). 0) h ∙ sum_zero n

pub sum_add : (n : ℕ) (f g h : ℕ → ℕ) → ((m : ℕ) → f m ≡ g m + h m) → sum_to n f ≡ sum_to n g + sum_to n h
unfolding sum_to
sum_add zero f g h e = refl
sum_add (suc n) f g h e = omega (arith, sum_add n f g h e, e (suc n))

-- THE LAW: one summand is another
pub sum_other : (n : ℕ) (f g : ℕ → ℕ) (k : ℕ) → 1 ≤ k → k ≤ n → ((m : ℕ) → 1 ≤ m → m ≤ n → (m ≡ k → ⊥) → f m ≡ g m) → sum_to n f + g k ≡ sum_to n g + f k
unfolding sum_to
sum_other zero f g k lo hi h = absurd (omega arith)
sum_other (suc n) f g k lo hi h = go (ℕ_discrete k (suc n)) (λ l. sum_other n f g k lo l (λ m a b ne. h m a (omega arith) ne))
  where
    go : Dec (k ≡ suc n) → (k ≤ n → sum_to n f + g k ≡ sum_to n g + f k) → sum_to n f + f (suc n) + g k ≡ sum_to n g + g (suc n) + f k
    go (yes q) ih = rw q (omega (arith, sum_same n f g (λ m a b. h m a (omega arith) (λ e. omega arith))))
    go (no ne) ih = omega (arith, ih (omega arith), h (suc n) (omega arith) (omega arith) (λ e. ne (sym e)))

-- all but one are 0
pub sum_one : (n : ℕ) (f : ℕ → ℕ) (k : ℕ) → 1 ≤ k → k ≤ n → ((m : ℕ) → 1 ≤ m → m ≤ n → (m ≡ k → ⊥) → f m ≡ 0) → sum_to n f ≡ f k
sum_one n f k lo hi h = omega (arith, sum_other n f (λ (m : ℕ). 0) k lo hi h, sum_zero n)

-- a sum is at least each summand
pub sum_least : (n : ℕ) (f : ℕ → ℕ) (k : ℕ) → 1 ≤ k → k ≤ n → f k ≤ sum_to n f
unfolding sum_to
sum_least zero f k lo hi = absurd (omega arith)
sum_least (suc n) f k lo hi = go (ℕ_discrete k (suc n)) (sum_least n f k lo)
  where
    go : Dec (k ≡ suc n) → (k ≤ n → f k ≤ sum_to n f) → f k ≤ sum_to n f + f (suc n)
    go (yes q) ih = rw q (omega arith)
    go (no ne) ih = omega (arith, ih (omega arith))

module _ (f g : ℕ → ℕ) (le : (m : ℕ) → f m ≤ g m) where
  pub sum_le : (n : ℕ) → sum_to n f ≤ sum_to n g
  unfolding sum_to
  sum_le zero = omega arith
  sum_le (suc n) = omega (arith, sum_le n, le (suc n))

  -- two sums are equal exactly if their parts are
  pub sum_equal : (n : ℕ) → eqb (sum_to n f) (sum_to n g) ≡ all_to n (λ (m : ℕ). eqb (f m) (g m))
  unfolding sum_to all_to
  sum_equal zero = refl
  sum_equal (suc n) = rw (← sum_equal n) (parts (sum_to n f) (f (suc n)) (sum_to n g) (g (suc n)) (sum_le n) (le (suc n)))
    where
      parts : (a b c d : ℕ) → a ≤ c → b ≤ d → eqb (a + b) (c + d) ≡ (eqb a c && eqb b d)
      parts a b c d h k = go (eqb a c) refl (eqb b d) refl
        where
          go : (s : Bool) → eqb a c ≡ s → (t : Bool) → eqb b d ≡ t → eqb (a + b) (c + d) ≡ (s && t)
          go true p true q = eq-eqb (a + b) (c + d) (omega (arith, eqb-true a c p, eqb-true b d q))
          go true p false q = ne_eqb (a + b) (c + d) (λ e. eqb-false b d q (omega arith))
          go false p t q = ne_eqb (a + b) (c + d) (λ e. eqb-false a c p (omega arith))

-- summands of 0 or 1
pub sum_few : (n : ℕ) (f : ℕ → ℕ) → ((m : ℕ) → f m ≤ 1) → sum_to n f ≤ n
unfolding sum_to
sum_few zero f le = omega arith
sum_few (suc n) f le = omega (arith, sum_few n f le, le (suc n))
