-- Counting in the place of searching. Each of 1 to n names some addresses, and at each of these its own number is written. So a step can be
-- named by one number alone, the one that is written there, and the steps that are named are as many as the names that are steps
-- (`double`). Hence as many steps are named as there are names exactly if each name is a step (`named_all`). Before it, `all_to` and what a
-- loop that tests 1, 2, .. in turn knows; counts over a list.
use Prim.Native.Nat.{ℕ, zero, suc, ◌+◌, ◌-◌, ◌≤◌, ◌<◌}
use native.Mathlib.Omega.{arith}
use native.Mathlib.Decide.{ℕ_discrete}
use mathlib.Core.Path.{◌≡◌, refl, sym, ap, ◌∙◌}
use mathlib.Core.Bool.{Bool, true, false, ◌&&◌, ◌||◌, and-true, and_assoc}
use mathlib.Core.List.{List, [], ◌∷◌}
use lib.Dec.{eqb, leb, eqb-suc-suc}
use lib.ListN.{length}
use Rattle.std.specs.List.{list_all, range_with_len}
use borrow.Author.Tests.{eqb-true, eqb-false, eq-eqb, ne_eqb, le-leb, lt-leb}
use Rattle.word.proofs.Tests.{and_iff, false_true}
use Rattle.soundness.specs.Sound.{bit, sum_to, all_to, elem, implies}
use Rattle.soundness.specs.Passes.{count}
use Rattle.soundness.proofs.Stepping.{Ascends}
use Rattle.soundness.proofs.Sums.{sum_none, sum_add, sum_one, sum_equal}

-- ---- each of 1 to n

pub all_to_at : (n : ℕ) (p : ℕ → Bool) → all_to n p ≡ true → (m : ℕ) → 1 ≤ m → m ≤ n → p m ≡ true
unfolding all_to
all_to_at zero p h m lo hi = absurd (omega arith)
all_to_at (suc n) p h m lo hi = go (ℕ_discrete m (suc n)) (all_to_at n p both.0 m lo)
  where
    both : (all_to n p ≡ true) × (p (suc n) ≡ true)
    both = (and_iff (all_to n p) (p (suc n))).0 h

    go : Dec (m ≡ suc n) → (m ≤ n → p m ≡ true) → p m ≡ true
    go (yes q) ih = rw q both.1
    go (no d) ih = ih (omega arith)

pub all_to_all : (n : ℕ) (p : ℕ → Bool) → ((m : ℕ) → 1 ≤ m → m ≤ n → p m ≡ true) → all_to n p ≡ true
unfolding all_to
all_to_all zero p h = refl
all_to_all (suc n) p h = rw (all_to_all n p (λ m lo hi. h m lo (omega arith)), h (suc n) (omega arith) (omega arith))

pub all_to_fails : (n : ℕ) (p : ℕ → Bool) (m : ℕ) → 1 ≤ m → m ≤ n → p m ≡ false → all_to n p ≡ false
all_to_fails n p m lo hi f = go (all_to n p) refl
  where
    go : (t : Bool) → all_to n p ≡ t → t ≡ false
    go true q = sym (all_to_at n p q m lo hi) ∙ f
    go false q = refl

pub all_to_same : (n : ℕ) (p q : ℕ → Bool) → ((m : ℕ) → 1 ≤ m → m ≤ n → p m ≡ q m) → all_to n p ≡ all_to n q
unfolding all_to
all_to_same zero p q h = refl
all_to_same (suc n) p q h = rw (all_to_same n p q (λ m lo hi. h m lo (omega arith)), h (suc n) (omega arith) (omega arith))

pub all_to_and : (n : ℕ) (p q : ℕ → Bool) → all_to n (λ (m : ℕ). p m && q m) ≡ (all_to n p && all_to n q)
unfolding all_to
all_to_and zero p q = refl
all_to_and (suc n) p q = rw (all_to_and n p q) (swap (all_to n p) (all_to n q) (p (suc n)) (q (suc n)))
  where
    swap : (a b c d : Bool) → ((a && b) && (c && d)) ≡ ((a && c) && (b && d))
    swap true true c d = refl
    swap true false true d = refl
    swap true false false d = refl
    swap false b c d = refl

-- a loop that tests 1, 2, .. in turn has come to m
pub record Passed (p : ℕ → Bool) (m : ℕ) : Type 0 where
  pub all : all_to (m - 1) p ≡ true

module _ (p : ℕ → Bool) where
  -- it may begin past what passes of itself
  pub passed_before : (m : ℕ) → ((i : ℕ) → 1 ≤ i → i < m → p i ≡ true) → Passed p m
  passed_before m h = record { all = all_to_all (m - 1) p (λ i lo hi. h i lo (omega arith)) }

  pub passed_none : Passed p 1
  passed_none = passed_before 1 (λ i lo hi. absurd (omega arith))

  pub passed_more : (m : ℕ) → 1 ≤ m → Passed p m → p m ≡ true → Passed p (m + 1)
  unfolding all_to
  passed_more m lo h q =
      let e : m + 1 - 1 ≡ suc (m - 1) = omega arith in
      let f : suc (m - 1) ≡ m = omega arith in
      record { all = rw (e, h.all) (rw f q) }

  pub passed_fails : (m n : ℕ) → 1 ≤ m → m ≤ n → p m ≡ false → false ≡ all_to n p
  passed_fails m n lo hi q = sym (all_to_fails n p m lo hi q)

  pub passed_done : (m n : ℕ) → Passed p m → n < m → m ≤ n + 1 → true ≡ all_to n p
  passed_done m n h lo hi =
      let e : m - 1 ≡ n = omega arith in
      sym (rw e at h.all)

-- the same said of the numbers of a range: q below it, and in it p, which is q there
ranged : (p q : ℕ → Bool) (n a : ℕ) → ((m : ℕ) → a < m → q m ≡ p m) → (all_to a q && list_all p (range_with_len (suc a) n)) ≡ all_to (a + n) q
unfolding all_to
ranged p q zero a h =
    let e : a + 0 ≡ a = omega arith in
    rw e (and-true (all_to a q))
ranged p q (suc n) a h =
    let e : suc a + 1 ≡ suc (suc a) = omega arith in
    let f : a + suc n ≡ suc a + n = omega arith in
    rw (e, f, ← ranged p q n (suc a) (λ m l. h m (omega arith)), h (suc a) (omega arith))
    (sym (and_assoc (all_to a q) (p (suc a)) (list_all p (range_with_len (suc (suc a)) n))))

pub ranged_all : (p : ℕ → Bool) (n : ℕ) → list_all p (range_with_len 1 n) ≡ all_to n p
unfolding all_to
ranged_all p n =
    let e : 0 + n ≡ n = omega arith in
    rw e at (ranged p p n 0 (λ m l. refl))

pub ranged_from : (p : ℕ → Bool) (next last n : ℕ) → 1 ≤ next → next + n ≡ last + 1 → list_all p (range_with_len next n) ≡ all_to last (λ m. implies (leb next m) (p m))
ranged_from p next last n lo e =
    let q : ℕ → Bool = λ m. implies (leb next m) (p m) in
    let f : suc (next - 1) ≡ next = omega arith in
    let g : next - 1 + n ≡ last = omega arith in
    let before : all_to (next - 1) q ≡ true = (passed_before q next (λ i a b. rw (lt-leb next i b))).all in
    rw (f, g, before) at (ranged p q n (next - 1) (λ m l. rw (le-leb next m (omega arith))))

-- ---- a list

pub bit_le : (b : Bool) → bit b ≤ 1
unfolding bit
bit_le true = omega arith
bit_le false = omega arith

bit_or : (s t : Bool) → (s ≡ true → t ≡ false) → bit (s || t) ≡ bit s + bit t
unfolding bit
bit_or true t h = rw (h refl)
bit_or false t h = omega arith

pub eqb_sym : (a b : ℕ) → eqb a b ≡ eqb b a
eqb_sym a b = go (eqb b a) refl
  where
    go : (t : Bool) → eqb b a ≡ t → eqb a b ≡ t
    go true e = eq-eqb a b (sym (eqb-true b a e))
    go false e = ne_eqb a b (λ q. eqb-false b a e (sym q))

-- each of a list passes
unfoldable pub every : (ℕ → Bool) → List ℕ → Bool
every p [] = true
every p (x ∷ xs) = p x && every p xs

-- none is there twice
abbrev pub Once : List ℕ → Type 0
Once [] = Unit {0}
Once (x ∷ xs) = (elem x xs ≡ false) × Once xs

elem_below : (l : List ℕ) (lo a : ℕ) → Ascends lo l → a < lo → elem a l ≡ false
unfolding elem
elem_below [] lo a h q = refl
elem_below (x ∷ xs) lo a h q =
    let e : eqb a x ≡ false = ne_eqb a x (λ (r : a ≡ x). omega (arith, h.0)) in
    rw e (elem_below xs (suc x) a h.1 (omega (arith, h.0)))

pub ascends_once : (l : List ℕ) (lo : ℕ) → Ascends lo l → Once l
ascends_once [] lo h = tt
ascends_once (x ∷ xs) lo h = (elem_below xs (suc x) x h.1 (omega arith), ascends_once xs (suc x) h.1)

count_none : (p : ℕ → Bool) (l : List ℕ) → ((a : ℕ) → p a ≡ false) → count p l ≡ 0
unfolding count bit
count_none p [] h = refl
count_none p (x ∷ xs) h = rw (h x) (omega (arith, count_none p xs h))

-- a test that splits into two
count_add : (p q r : ℕ → Bool) (l : List ℕ) → ((a : ℕ) → bit (p a) ≡ bit (q a) + bit (r a)) → count p l ≡ count q l + count r l
unfolding count
count_add p q r [] h = refl
count_add p q r (x ∷ xs) h = omega (arith, h x, count_add p q r xs h)

-- one that is not there twice
count_once : (l : List ℕ) (x : ℕ) → Once l → count (λ (a : ℕ). eqb a x) l ≡ bit (elem x l)
unfolding count elem bit
count_once [] x o = refl
count_once (y ∷ ys) x o = go (eqb x y) refl (count_once ys x o.1)
  where
    go : (t : Bool) → eqb x y ≡ t → count (λ (a : ℕ). eqb a x) ys ≡ bit (elem x ys)
        → bit (eqb y x) + count (λ (a : ℕ). eqb a x) ys ≡ bit (t || elem x ys)
    go true e ih =
        let q : elem x ys ≡ false = ap (λ (z : ℕ). elem z ys) (eqb-true x y e) ∙ o.0 in
        rw (eqb_sym y x, e, ih, q)
    go false e ih = rw (eqb_sym y x, e) (omega arith)

count_le : (p : ℕ → Bool) (l : List ℕ) → count p l ≤ length l
unfolding count
count_le p [] = omega arith
count_le p (x ∷ xs) = omega (arith, bit_le (p x), count_le p xs)

count_every : (p : ℕ → Bool) (l : List ℕ) → eqb (count p l) (length l) ≡ every p l
unfolding count every bit
count_every p [] = refl
count_every p (x ∷ xs) = go (p x) (count_every p xs)
  where
    go : (t : Bool) → eqb (count p xs) (length xs) ≡ every p xs → eqb (bit t + count p xs) (suc (length xs)) ≡ (t && every p xs)
    go true ih =
        let e : 1 + count p xs ≡ suc (count p xs) = omega arith in
        rw (e, eqb-suc-suc) ih
    go false ih = ne_eqb (0 + count p xs) (suc (length xs)) (λ e. omega (arith, count_le p xs))

-- ---- names

-- each of 1 to n, which are those known, names some addresses, none twice, and at each of them its own number is written
pub record Naming (n : ℕ) (known : ℕ → Bool) (names : ℕ → List ℕ) (written : ℕ → ℕ) : Type 0 where
  pub inside : (m : ℕ) → 1 ≤ m → m ≤ n → known m ≡ true
  pub outside : (m : ℕ) → known m ≡ true → (1 ≤ m) × (m ≤ n)
  pub own : (m a : ℕ) → 1 ≤ m → m ≤ n → elem a (names m) ≡ true → written a ≡ m
  pub once : (m : ℕ) → 1 ≤ m → m ≤ n → Once (names m)

-- the number that is written at s names s
abbrev pub hit_by : (ℕ → Bool) → (ℕ → List ℕ) → (ℕ → ℕ) → ℕ → Bool
hit_by known names written s = known (written s) && elem s (names (written s))

module _ (n : ℕ) (known : ℕ → Bool) (names : ℕ → List ℕ) (written : ℕ → ℕ) (w : Naming n known names written) where
  -- another number does not name x
  not_other : (x m : ℕ) → 1 ≤ m → m ≤ n → (m ≡ written x → ⊥) → count (λ (a : ℕ). eqb a x) (names m) ≡ 0
  unfolding bit
  not_other x m lo hi d = go (elem x (names m)) refl
    where
      go : (t : Bool) → elem x (names m) ≡ t → count (λ (a : ℕ). eqb a x) (names m) ≡ 0
      go true e = absurd (d (sym (w.own m x lo hi e)))
      go false e = rw (count_once (names m) x (w.once m lo hi), e)

  -- x is named once, or not at all
  hits_one : (x : ℕ) → sum_to n (λ (m : ℕ). count (λ (a : ℕ). eqb a x) (names m)) ≡ bit (hit_by known names written x)
  unfolding bit
  hits_one x = go (known (written x)) refl
    where
      go : (t : Bool) → known (written x) ≡ t → sum_to n (λ (m : ℕ). count (λ (a : ℕ). eqb a x) (names m)) ≡ bit (t && elem x (names (written x)))
      go true e =
          let r = w.outside (written x) e in
          sum_one n (λ (m : ℕ). count (λ (a : ℕ). eqb a x) (names m)) (written x) r.0 r.1 (not_other x)
          ∙ count_once (names (written x)) x (w.once (written x) r.0 r.1)
      go false e =
          sum_none n (λ (m : ℕ). count (λ (a : ℕ). eqb a x) (names m))
          (λ m lo hi. not_other x m lo hi (λ q. false_true (sym e ∙ ap known (sym q) ∙ w.inside m lo hi)))

  -- the steps that are named are as many as the names that are steps
  double : (l : List ℕ) → Once l → count (hit_by known names written) l ≡ sum_to n (λ (m : ℕ). count (λ (a : ℕ). elem a l) (names m))
  unfolding count elem
  double [] o = sym (sum_none n (λ (m : ℕ). count (λ (a : ℕ). false) (names m)) (λ m lo hi. count_none (λ (a : ℕ). false) (names m) (λ a. refl)))
  double (x ∷ xs) o =
      ap (λ (k : ℕ). k + count (hit_by known names written) xs) (sym (hits_one x))
      ∙ ap (λ (k : ℕ). sum_to n (λ (m : ℕ). count (λ (a : ℕ). eqb a x) (names m)) + k) (double xs o.1)
      ∙ sym
      (sum_add n (λ (m : ℕ). count (λ (a : ℕ). eqb a x || elem a xs) (names m)) (λ (m : ℕ). count (λ (a : ℕ). eqb a x) (names m))
      (λ (m : ℕ). count (λ (a : ℕ). elem a xs) (names m))
      (λ m.
      count_add (λ (a : ℕ). eqb a x || elem a xs) (λ (a : ℕ). eqb a x) (λ (a : ℕ). elem a xs) (names m)
      (λ a. bit_or (eqb a x) (elem a xs) (λ e. ap (λ (z : ℕ). elem z xs) (eqb-true a x e) ∙ o.0))))

  -- THE LAW
  pub named_all : (l : List ℕ) → Once l
      → eqb (count (hit_by known names written) l) (sum_to n (λ (m : ℕ). length (names m))) ≡ all_to n (λ (m : ℕ). every (λ (a : ℕ). elem a l) (names m))
  named_all l o =
      ap (λ (k : ℕ). eqb k (sum_to n (λ (m : ℕ). length (names m)))) (double l o)
      ∙ sum_equal (λ (m : ℕ). count (λ (a : ℕ). elem a l) (names m)) (λ (m : ℕ). length (names m)) (λ m. count_le (λ (a : ℕ). elem a l) (names m)) n
      ∙ all_to_same n (λ (m : ℕ). eqb (count (λ (a : ℕ). elem a l) (names m)) (length (names m))) (λ (m : ℕ). every (λ (a : ℕ). elem a l) (names m))
      (λ m lo hi. count_every (λ (a : ℕ). elem a l) (names m))
