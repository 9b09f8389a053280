-- The order of keys: strict and transitive; and what ascent says of all keys that follow.
use Prim.Native.Nat.{ℕ, ◌<◌}
use native.Mathlib.Omega.{arith}
use mathlib.Core.Path.{◌≡◌, refl, sym, ap, ◌∙◌}
use mathlib.Core.Logic.{◌⊎◌, inl, inr}
use mathlib.Core.Bool.{Bool, true, false, ◌&&◌, cond, and_assoc}
use mathlib.Core.List.{List, [], ◌∷◌, ◌++◌}
use lib.Dec.{eqb, ltb}
use borrow.Author.Tests.{eq-eqb, ne_eqb, eqb-true, lt-ltb, ltb-true}
use Rattle.terms.specs.Key.{same, below, ascending_after}
use Rattle.word.proofs.Tests.{false_true, and_iff}

-- ---- two truth values

pub by_cases {ℓ} : {X : Type ℓ} (b : Bool) → (b ≡ true → X) → (b ≡ false → X) → X
by_cases true f g = f refl
by_cases false f g = g refl

pub never {ℓ} : {X : Type ℓ} {b : Bool} → b ≡ true → b ≡ false → X
never e f = absurd (false_true (sym f ∙ e))

-- ---- the first byte, and the rest

below_cons : (x y : ℕ) (xs ys : List ℕ) → below (x ∷ xs) (y ∷ ys) ≡ true → (x < y) ⊎ ((x ≡ y) × (below xs ys ≡ true))
unfolding below
below_cons x y xs ys e = go (eqb x y) refl e
  where
    go : (b : Bool) → eqb x y ≡ b → cond b (below xs ys) (ltb x y) ≡ true → (x < y) ⊎ ((x ≡ y) × (below xs ys ≡ true))
    go true p q = inr (eqb-true x y p, q)
    go false p q = inl (ltb-true x y q)

pub below_first : (x y : ℕ) (xs ys : List ℕ) → x < y → below (x ∷ xs) (y ∷ ys) ≡ true
unfolding below
below_first x y xs ys h = rw (ne_eqb x y (λ e. omega arith), lt-ltb x y h)

pub below_rest : (x y : ℕ) (xs ys : List ℕ) → x ≡ y → below xs ys ≡ true → below (x ∷ xs) (y ∷ ys) ≡ true
unfolding below
below_rest x y xs ys e h = rw (eq-eqb x y e, h)

-- ---- the laws of a strict order

pub below_irrefl : (xs : List ℕ) → below xs xs ≡ false
unfolding below
below_irrefl [] = refl
below_irrefl (x ∷ xs) = rw (eq-eqb x x refl) (below_irrefl xs)

pub below_trans : (xs ys zs : List ℕ) → below xs ys ≡ true → below ys zs ≡ true → below xs zs ≡ true
unfolding below
below_trans [] [] zs p q = never p refl
below_trans [] (y ∷ ys) [] p q = never q refl
below_trans [] (y ∷ ys) (z ∷ zs) p q = refl
below_trans (x ∷ xs) [] zs p q = never p refl
below_trans (x ∷ xs) (y ∷ ys) [] p q = never q refl
below_trans (x ∷ xs) (y ∷ ys) (z ∷ zs) p q = chain x y z xs ys zs (below_cons x y xs ys p) (below_cons y z ys zs q) (below_trans xs ys zs)
  where
    chain : (x y z : ℕ) (xs ys zs : List ℕ) → (x < y) ⊎ ((x ≡ y) × (below xs ys ≡ true)) → (y < z) ⊎ ((y ≡ z) × (below ys zs ≡ true))
        → (below xs ys ≡ true → below ys zs ≡ true → below xs zs ≡ true) → below (x ∷ xs) (z ∷ zs) ≡ true
    chain x y z xs ys zs (inl a) (inl b) k = below_first x z xs zs (omega arith)
    chain x y z xs ys zs (inl a) (inr b) k = below_first x z xs zs (omega arith)
    chain x y z xs ys zs (inr a) (inl b) k = below_first x z xs zs (omega arith)
    chain x y z xs ys zs (inr a) (inr b) k = below_rest x z xs zs (a.0 ∙ b.0) (k a.1 b.1)

pub same_refl : (xs : List ℕ) → same xs xs ≡ true
unfolding same
same_refl [] = refl
same_refl (x ∷ xs) = rw (eq-eqb x x refl) (same_refl xs)

pub same_is : (xs ys : List ℕ) → same xs ys ≡ true → xs ≡ ys
unfolding same
same_is [] [] e = refl
same_is [] (y ∷ ys) e = absurd (false_true e)
same_is (x ∷ xs) [] e = absurd (false_true e)
same_is (x ∷ xs) (y ∷ ys) e =
    let q = (and_iff _ _).0 e in
    let h : x ≡ y = eqb-true x y q.0 in
    let r : xs ≡ ys = same_is xs ys q.1 in
    cc

-- ---- all keys above one, all keys below one

unfoldable pub above : List ℕ → List (List ℕ) → Bool
above x [] = true
above x (y ∷ ys) = below x y && above x ys

pub above_lower : (x y : List ℕ) (ys : List (List ℕ)) → below x y ≡ true → above y ys ≡ true → above x ys ≡ true
unfolding above
above_lower x y [] p q = refl
above_lower x y (z ∷ zs) p q =
    let f = (and_iff _ _).0 q in
    (and_iff _ _).1 (below_trans x y z p f.0, above_lower x y zs p f.1)

pub ascent_above : (x : List ℕ) (ys : List (List ℕ)) → ascending_after x ys ≡ true → above x ys ≡ true
unfolding ascending_after above
ascent_above x [] e = refl
ascent_above x (y ∷ ys) e =
    let f = (and_iff _ _).0 e in
    (and_iff _ _).1 (f.0, above_lower x y ys f.0 (ascent_above y ys f.1))

pub above_right : (x : List ℕ) (ys zs : List (List ℕ)) → above x (ys ++ zs) ≡ true → above x zs ≡ true
unfolding above
above_right x [] zs e = e
above_right x (y ∷ ys) zs e = let f = (and_iff (below x y) (above x (ys ++ zs))).0 e in above_right x ys zs f.1

-- ---- ascent along two lists

unfoldable pub last_of : List ℕ → List (List ℕ) → List ℕ
last_of x [] = x
last_of x (y ∷ ys) = last_of y ys

pub ascent_append : (x : List ℕ) (ys zs : List (List ℕ)) → ascending_after x (ys ++ zs) ≡ (ascending_after x ys && ascending_after (last_of x ys) zs)
unfolding ascending_after last_of
ascent_append x [] zs = refl
ascent_append x (y ∷ ys) zs = ap (λ (b : Bool). below x y && b) (ascent_append y ys zs) ∙ sym (and_assoc (below x y) _ _)
