-- `lowest` gives the lowest: of a list of refusals whose numbers ascend, which is tested by computing, it is done exactly if none applies,
-- and otherwise an answer that applies and whose number is at most that of every one that applies. The table of each call ascends
-- (Lowest in `views`, `writing`, `soundness`), so that each call's answer is the lowest of its table.
use Rattle.std.specs.Prelude.{Ok}
use Prim.Native.Nat.{ℕ, ◌≤◌, ◌<◌}
use native.Mathlib.Omega.{arith}
use mathlib.Core.Path.{◌≡◌, refl, sym, ap, ◌∙◌}
use mathlib.Core.Logic.{◌⊎◌, inl, inr, ⊎_elim}
use mathlib.Core.Bool.{Bool, true, false, ◌&&◌, cond}
use mathlib.Core.List.{List, [], ◌∷◌, ◌++◌}
use lib.Dec.{ltb}
use Rattle.word.proofs.Tests.{tests, false_true}
use Rattle.store.specs.Answer.{number_of, Row, lowest, after, Answer}
use Rattle.store.proofs.Gates.{done_number, after_done, after_refused}

-- the numbers ascend, all of them above n
unfoldable pub above : ℕ → List Row → Bool
above n [] = true
above n (r ∷ rs) = ltb n (number_of r.answer) && above (number_of r.answer) rs

-- they ascend, and none is 0
abbrev pub ascends : List Row → Bool
ascends rs = above 0 rs

-- an answer is in the list, and applies
abbrev pub Applies : List Row → Answer → Type 0
Applies [] a = ⊥
Applies (r ∷ rs) a = ((r.answer ≡ a) × (r.applies ≡ true)) ⊎ Applies rs a

-- a is the lowest of the refusals that apply, and done exactly where none does
pub record IsLowest (rs : List Row) (a : Answer) : Type 0 where
  pub none : a ≡ Ok tt → (b : Answer) → Applies rs b → ⊥
  pub done : ((b : Answer) → Applies rs b → ⊥) → a ≡ Ok tt
  pub applies : (a ≡ Ok tt → ⊥) → Applies rs a
  pub least : (b : Answer) → Applies rs b → number_of a ≤ number_of b

above_applies : (n : ℕ) (rs : List Row) (b : Answer) → above n rs ≡ true → Applies rs b → n < number_of b
unfolding above
above_applies n [] b e h = absurd h
above_applies n (r ∷ rs) b e h =
    let q = simp tests at e in
    ⊎_elim
    (λ w. rw (← w.0) q.0)
    (λ w. omega (arith, above_applies (number_of r.answer) rs b q.1 w, q.0))
    h

lowest_above : (n : ℕ) (rs : List Row) → above n rs ≡ true → IsLowest rs (lowest rs)
unfolding above
lowest_above n [] e =
    record { none = λ d b h. h; done = λ h. refl; applies = λ h. absurd (h refl); least = λ b h. absurd h }
lowest_above n (r ∷ rs) e = by r.applies refl (lowest_above (number_of r.answer) rs q.1)
  where
    q : (n < number_of r.answer) × (above (number_of r.answer) rs ≡ true)
    q = simp tests at e

    by : (t : Bool) → r.applies ≡ t → IsLowest rs (lowest rs) → IsLowest (r ∷ rs) (cond t r.answer (lowest rs))
    by true a i =
        record {
          none = λ d. absurd (omega (arith, q.0, ap number_of d ∙ done_number));
          done = λ h. absurd (h r.answer (inl (refl, a)));
          applies = λ h. inl (refl, a);
          least = λ b. ⊎_elim (λ w. omega (arith, ap number_of w.0)) (λ w. omega (arith, above_applies (number_of r.answer) rs b q.1 w));
        }
    by false a i =
        record {
          none = λ d b. ⊎_elim (λ w. false_true (sym a ∙ w.1)) (i.none d b);
          done = λ h. i.done (λ b w. h b (inr w));
          applies = λ h. inr (i.applies h);
          least = λ b. ⊎_elim (λ w. absurd (false_true (sym a ∙ w.1))) (i.least b);
        }

pub lowest_is_lowest : (rs : List Row) → ascends rs ≡ true → IsLowest rs (lowest rs)
lowest_is_lowest rs e = lowest_above 0 rs e

append_above : (n : ℕ) (rs ss : List Row) → above n rs ≡ true → lowest (rs ++ ss) ≡ after (lowest rs) (lowest ss) (lowest rs)
unfolding above
append_above n [] ss e = sym (after_done (Ok tt) (lowest ss) (Ok tt) refl)
append_above n (r ∷ rs) ss e = by r.applies (append_above (number_of r.answer) rs ss q.1)
  where
    q : (n < number_of r.answer) × (above (number_of r.answer) rs ≡ true)
    q = simp tests at e

    by : (t : Bool) → lowest (rs ++ ss) ≡ after (lowest rs) (lowest ss) (lowest rs)
        → cond t r.answer (lowest (rs ++ ss)) ≡ after (cond t r.answer (lowest rs)) (lowest ss) (cond t r.answer (lowest rs))
    by true i = sym (after_refused r.answer (lowest ss) r.answer (λ z. omega (arith, q.0)))
    by false i = i

-- of two tables, one after the other: the second one's where the first one's is done
pub lowest_append : (rs ss : List Row) → ascends rs ≡ true → lowest (rs ++ ss) ≡ after (lowest rs) (lowest ss) (lowest rs)
lowest_append rs ss e = append_above 0 rs ss e

-- all numbers are below n
unfoldable pub below : ℕ → List Row → Bool
below n [] = true
below n (r ∷ rs) = ltb (number_of r.answer) n && below n rs

-- and so is the answer's
pub lowest_below : (n : ℕ) (rs : List Row) → 0 < n → below n rs ≡ true → number_of (lowest rs) < n
unfolding below
lowest_below n [] z e = rw done_number z
lowest_below n (r ∷ rs) z e = by r.applies (lowest_below n rs z q.1)
  where
    q : (number_of r.answer < n) × (below n rs ≡ true)
    q = simp tests at e

    by : (t : Bool) → number_of (lowest rs) < n → number_of (cond t r.answer (lowest rs)) < n
    by true h = q.0
    by false h = h
