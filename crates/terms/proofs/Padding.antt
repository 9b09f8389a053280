-- A term's tree, and the padded term as the front of a buffer of spaces that the term was copied to.
use Prim.Native.Nat.{ℕ, zero, suc, ◌+◌, ◌-◌, ◌≤◌}
use native.Mathlib.Omega.{arith}
use mathlib.Core.Path.{◌≡◌, refl, ap, ◌∙◌}
use mathlib.Core.Bool.{Bool, true, false, cond}
use mathlib.Core.List.{List, ◌∷◌, ◌++◌}
use lib.Dec.{leb}
use lib.ListN.{length, take, drop, replicate}
use lib.Seq.{take-append-add}
use borrow.Author.Tests.{leb-true}
use Rattle.word.specs.Overwrite.{overwrite, part}
use Rattle.word.proofs.Tests.{tests}
use Rattle.terms.specs.Term.{term_right, kind_for, width_of, padded}
use Rattle.terms.specs.declared.term.Kind.{Kind}
use Rattle.terms.specs.declared.term.Kind.TheVariants.{Short, Long}

-- ---- the tree

pub term_fits : (term : List ℕ) → term_right term ≡ true → length term ≤ 30
unfolding term_right
term_fits term e = let q = simp tests at e in q.0.1

pub width_low : (kind : Kind) → 10 ≤ width_of kind
width_low Short = omega arith
width_low Long = omega arith

pub width_high : (kind : Kind) → width_of kind ≤ 30
width_high Short = omega arith
width_high Long = omega arith

-- a right term is no longer than the keys of its tree
pub kind_fits : (term : List ℕ) → term_right term ≡ true → length term ≤ width_of (kind_for term)
unfolding kind_for
kind_fits term e = cases (leb (length term) 10) refl
  where
    cases : (b : Bool) → leb (length term) 10 ≡ b → length term ≤ width_of (cond b Short Long)
    cases true p = leb-true (length term) 10 p
    cases false p = term_fits term e

-- ---- padding

drop_replicate : (n m v : ℕ) → drop n (replicate m v) ≡ replicate (m - n) v
drop_replicate zero m v = let z : m - 0 ≡ m = omega arith in rw z
drop_replicate (suc n) zero v = let z : 0 - suc n ≡ 0 = omega arith in rw z
drop_replicate (suc n) (suc m) v = let z : suc m - suc n ≡ m - n = omega arith in rw z (drop_replicate n m v)

take_replicate : (n m v : ℕ) → n ≤ m → take n (replicate m v) ≡ replicate n v
take_replicate zero m v h = refl
take_replicate (suc n) zero v h = absurd (omega arith)
take_replicate (suc n) (suc m) v h = ap (λ (l : List ℕ). v ∷ l) (take_replicate n m v (omega arith))

take_over : (w : ℕ) (xs ys : List ℕ) → length xs ≤ w → take w (xs ++ ys) ≡ xs ++ take (w - length xs) ys
take_over w xs ys h =
    let z : w ≡ length xs + (w - length xs) = omega arith in
    ap (λ (k : ℕ). take k (xs ++ ys)) z ∙ take-append-add xs ys (w - length xs)

module _ (term key : List ℕ) (h : length term ≤ 30) (k : key ≡ overwrite (replicate 30 32) 0 term) where
  key_is : key ≡ term ++ replicate (30 - length term) 32
  unfolding overwrite
  key_is =
      let z : 0 + length term ≡ length term = omega arith in
      k ∙ rw (z, drop_replicate (length term) 30 32)

  pub key_padded : (width : ℕ) → length term ≤ width → width ≤ 30 → part key 0 width ≡ padded width term
  unfolding padded
  key_padded width l m =
      ap (take width) key_is ∙ take_over width term (replicate (30 - length term) 32) l
      ∙ ap (λ (s : List ℕ). term ++ s) (take_replicate (width - length term) (30 - length term) 32 (omega arith))
