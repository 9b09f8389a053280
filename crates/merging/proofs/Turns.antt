-- A turn of a merge: what the heads of two lists give, and what is left of the lists behind them.
use Prim.Native.Nat.{ℕ, min, ◌≤◌, ◌<◌}
use native.Mathlib.Omega.{arith}
use mathlib.Core.Path.{◌≡◌, refl, sym, ap}
use mathlib.Core.Logic.{⊎_elim}
use mathlib.Core.Bool.{Bool, true, false, cond}
use mathlib.Core.List.{List, [], ◌∷◌}
use lib.Dec.{ltb, eqb}
use borrow.Author.Tests.{ltb-true, lt-ltb, le-ltb, eqb-true, eqb-false, eq-eqb, ne_eqb}
use Rattle.word.proofs.Overwrite.{lt_or_ge}
use Rattle.merging.specs.Merge.{mfns_after, meets, common, joins, joined, merged}
use Rattle.merging.specs.Heads.{front, lowest, gives_of}
use Rattle.merging.proofs.Writing.{before}

-- ---- two lists of which the first numbers are a and b, or which are empty where those are 2^24 or more

abbrev some : ℕ → List ℕ → List ℕ
some a xs = cond (ltb a 16777216) (a ∷ xs) []

-- a list without its first number where that is m
abbrev passed : ℕ → List ℕ → List ℕ
passed m [] = []
passed m (x ∷ xs) = cond (eqb x m) xs (x ∷ xs)

abbrev wanted : Bool → ℕ → ℕ → Bool
wanted both a b = cond both (eqb a b) true

pub common_nil : (xs : List ℕ) → common xs [] ≡ []
unfolding common meets
common_nil [] = refl
common_nil (x ∷ xs) = refl

abbrev Turn : Bool → ℕ → List ℕ → ℕ → List ℕ → ℕ → Type 0
Turn both a xs b ys m = merged both (some a xs) (some b ys) ≡ before (wanted both a b) m (merged both (passed m (some a xs)) (passed m (some b ys)))

turn_less : (both : Bool) (a : ℕ) (xs : List ℕ) (b : ℕ) (ys : List ℕ) → a < b → a < 16777216 → (t : Bool) → ltb b 16777216 ≡ t → Turn both a xs b ys a
unfolding common meets joined joins
turn_less true a xs b ys h l true t =
    simp (lt-ltb a 16777216 l, t, le-ltb b a (omega arith), ne_eqb a b (omega arith), ne_eqb b a (omega arith), eq-eqb a a refl)
turn_less true a xs b ys h l false t = simp (lt-ltb a 16777216 l, t, ne_eqb a b (omega arith), eq-eqb a a refl, common_nil)
turn_less false a xs b ys h l true t =
    simp (lt-ltb a 16777216 l, t, le-ltb b a (omega arith), ne_eqb a b (omega arith), ne_eqb b a (omega arith), eq-eqb a a refl)
turn_less false a xs b ys h l false t = simp (lt-ltb a 16777216 l, t, eq-eqb a a refl)

turn_more : (both : Bool) (a : ℕ) (xs : List ℕ) (b : ℕ) (ys : List ℕ) → b < a → b < 16777216 → (t : Bool) → ltb a 16777216 ≡ t → Turn both a xs b ys b
unfolding common meets joined joins
turn_more true a xs b ys h l true t = simp (lt-ltb b 16777216 l, t, lt-ltb b a h, ne_eqb a b (omega arith), eq-eqb b b refl)
turn_more true a xs b ys h l false t = simp (lt-ltb b 16777216 l, t, ne_eqb a b (omega arith))
turn_more false a xs b ys h l true t = simp (lt-ltb b 16777216 l, t, lt-ltb b a h, ne_eqb a b (omega arith), eq-eqb b b refl)
turn_more false a xs b ys h l false t = simp (lt-ltb b 16777216 l, t, eq-eqb b b refl)

turn_same : (both : Bool) (a : ℕ) (xs ys : List ℕ) → a < 16777216 → Turn both a xs a ys a
unfolding common meets joined joins
turn_same true a xs ys l = simp (lt-ltb a 16777216 l, le-ltb a a (omega arith), eq-eqb a a refl)
turn_same false a xs ys l = simp (lt-ltb a 16777216 l, le-ltb a a (omega arith), eq-eqb a a refl)

turn_at : (both : Bool) (a : ℕ) (xs : List ℕ) (b : ℕ) (ys : List ℕ) (m : ℕ) → m ≡ min a b → m < 16777216 → Turn both a xs b ys m
turn_at both a xs b ys m e l = ⊎_elim less (λ h. ⊎_elim more (same h) (lt_or_ge b a)) (lt_or_ge a b)
  where
    less : a < b → Turn both a xs b ys m
    less h =
        let q : m ≡ a = omega arith in
        let n : a < 16777216 = omega arith in
        rw q (turn_less both a xs b ys h n (ltb b 16777216) refl)

    more : b < a → Turn both a xs b ys m
    more h =
        let q : m ≡ b = omega arith in
        let n : b < 16777216 = omega arith in
        rw q (turn_more both a xs b ys h n (ltb a 16777216) refl)

    same : b ≤ a → a ≤ b → Turn both a xs b ys m
    same g h =
        let q : m ≡ a = omega arith in
        let p : b ≡ a = omega arith in
        let n : a < 16777216 = omega arith in
        rw (q, p) (turn_same both a xs ys n)

-- ---- the postings behind two heads, after postings of MFN l

-- the MFNs of a head of MFN a with the postings ps behind it; none where a is 2^24 or more
abbrev pub face : ℕ → ℕ → List ℕ → List ℕ
face l a ps = cond (ltb a 16777216) (front l a ps) []

-- where a is another MFN than the last
face_new : (l a : ℕ) (ps : List ℕ) → (a < 16777216 → a ≡ l → ⊥) → face l a ps ≡ some a (mfns_after a ps)
face_new l a ps n = go (ltb a 16777216) refl
  where
    go : (t : Bool) → ltb a 16777216 ≡ t → face l a ps ≡ some a (mfns_after a ps)
    go true e = rw (e, ne_eqb a l (n (ltb-true a 16777216 e)))
    go false e = rw e

-- after m
face_passed : (m a : ℕ) (ps : List ℕ) → face m a ps ≡ passed m (some a (mfns_after a ps))
face_passed m a ps = go (ltb a 16777216) (eqb a m) refl refl
  where
    go : (t s : Bool) → ltb a 16777216 ≡ t → eqb a m ≡ s → face m a ps ≡ passed m (some a (mfns_after a ps))
    go true true e q = rw (e, q) (ap (λ (k : ℕ). mfns_after k ps) (sym (eqb-true a m q)))
    go true false e q = rw (e, q)
    go false s e q = rw e

-- an MFN above m is not the last one
not_last : (l m b : ℕ) → lowest l ≤ m → m < b → b < 16777216 → b ≡ l → ⊥
not_last l m b h g s e = let t : ltb l 16777216 ≡ true = lt-ltb l 16777216 (omega arith) in let k : l ≤ m = rw t at h in omega arith

module _ (both : Bool) (l a b m : ℕ) (ps qs : List ℕ) (e : m ≡ min a b) (s : m < 16777216) (low : lowest l ≤ m) where
  abbrev Gives : Type 0
  Gives = merged both (face l a ps) (face l b qs) ≡ before (gives_of both a b l m) m (merged both (face m a ps) (face m b qs))

  gives_none : m ≡ l → Gives
  unfolding gives_of
  gives_none q = rw (← q, eq-eqb m m refl)

  other : (m ≡ l → ⊥) → (k : ℕ) → m ≤ k → k < 16777216 → k ≡ l → ⊥
  other n k h g q = ⊎_elim (λ j. not_last l m k low j g q) (λ j. n (omega arith)) (lt_or_ge m k)

  gives_one : (m ≡ l → ⊥) → Gives
  unfolding gives_of
  gives_one n =
      rw (
        face_new l a ps (other n a (omega arith)),
        face_new l b qs (other n b (omega arith)),
        face_passed m a ps,
        face_passed m b qs,
        ne_eqb m l n,
      )
      (turn_at both a (mfns_after a ps) b (mfns_after b qs) m e s)

  pub turn_gives : Gives
  turn_gives = go (eqb m l) refl
    where
      go : (t : Bool) → eqb m l ≡ t → Gives
      go true q = gives_none (eqb-true m l q)
      go false q = gives_one (eqb-false m l q)
