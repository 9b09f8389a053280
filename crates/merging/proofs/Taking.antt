-- MFNs taken one after the other: of the items xs the first i were taken and ys are left; where they are put, they stand in the lent list, and
-- else that is as it was.
use Prim.Native.Nat.{ℕ, ◌+◌, ◌≤◌, ◌<◌}
use native.Mathlib.Omega.{arith}
use mathlib.Core.Path.{◌≡◌, refl, sym, ap, ◌∙◌}
use mathlib.Core.Bool.{Bool, true, false, cond, true≢false}
use mathlib.Core.List.{List, [], ◌∷◌}
use lib.ListN.{length, set}
use Rattle.word.specs.Overwrite.{overwrite}
use Rattle.postings.proofs.Steps.{Gave, gave_none, gave_index, gave_more, gave_done}

pub record Took (put : Bool) (xs ys before out : List ℕ) (i : ℕ) : Type 0 where
  pub count : length xs ≡ i + length ys
  pub gave : put ≡ true → Gave xs ys before out i
  pub kept : put ≡ false → out ≡ before

pub took_none : (put : Bool) (xs d : List ℕ) → (put ≡ true → length xs ≤ length d) → Took put xs xs d d 0
took_none put xs d h = record { count = omega arith; gave = λ p. gave_none xs d (h p); kept = λ _. refl }

module _ (put : Bool) (xs ys before out : List ℕ) (i : ℕ) (g : Took put xs ys before out i) where
  pub took_same : (zs : List ℕ) → zs ≡ ys → Took put xs zs before out i
  took_same zs e = rw e g

  pub took_length : length out ≡ length before
  took_length = go put refl
    where
      go : (t : Bool) → put ≡ t → length out ≡ length before
      go true p = (g.gave p).same
      go false p = ap length (g.kept p)

  pub took_count : ys ≡ [] → i ≡ length xs
  took_count e = omega (arith, g.count, ap length e)

  pub took_done : ys ≡ [] → out ≡ cond put (overwrite before 0 xs) before
  took_done e = go put refl
    where
      go : (t : Bool) → put ≡ t → out ≡ cond put (overwrite before 0 xs) before
      go true p = gave_done xs ys before out i (g.gave p) e ∙ rw p
      go false p = g.kept p ∙ rw p

  pub took_all : ys ≡ [] → (ws : List ℕ) → xs ≡ ws → (i ≡ length ws) × (out ≡ cond put (overwrite before 0 ws) before)
  took_all e ws q = rw (← q) (took_count e, took_done e)

  module _ (m : ℕ) (zs : List ℕ) (e : ys ≡ m ∷ zs) where
    pub took_index : put ≡ true → i < length out
    took_index p = gave_index xs ys before out i (g.gave p) m zs e

    count_more : length xs ≡ i + 1 + length zs
    count_more = omega (arith, g.count, ap length e)

    pub took_put : put ≡ true → Took put xs zs before (set out i m) (i + 1)
    took_put p =
        record {
          count = count_more;
          gave = λ q. gave_more xs ys before out i (g.gave q) m zs e;
          kept = λ q. absurd (true≢false (sym p ∙ q));
        }

    pub took_counted : put ≡ false → Took put xs zs before out (i + 1)
    took_counted p =
        record {
          count = count_more;
          gave = λ q. absurd (true≢false (sym q ∙ p));
          kept = g.kept;
        }
