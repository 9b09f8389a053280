-- The common and the joined numbers of two ascending lists ascend strictly, and a number is among them exactly if it is in both lists, or in
-- one of them; and the MFNs of ascending postings ascend strictly, each once.
use Prim.Native.Nat.{ℕ, suc, ◌≤◌, ◌<◌}
use native.Mathlib.Omega.{arith}
use mathlib.Core.Path.{◌≡◌, refl, sym, ap, ◌∙◌}
use mathlib.Core.Bool.{Bool, true, false, ◌&&◌, ◌||◌, cond, and-false, or_assoc, or-and_distrib_left}
use mathlib.Core.List.{List, [], ◌∷◌}
use lib.Dec.{ltb, leb, eqb}
use borrow.Author.Tests.{ltb-true, ltb-false, leb-true, le-leb, lt-ltb, le-ltb, eqb-true, eqb-false, eq-eqb, ne_eqb}
use Rattle.posting.specs.Posting.{mfn_of}
use Rattle.postings.specs.Rules.{above, ascends}
use Rattle.merging.specs.Merge.{mfns_after, mfns_of, meets, common, joins, joined, among, has_mfn}
use Rattle.word.proofs.Tests.{false_true, and_iff}

-- ---- ascending lists

module _ (k x : ℕ) (xs : List ℕ) (e : above k (x ∷ xs) ≡ true) where
  both_parts : (leb k x ≡ true) × (above (suc x) xs ≡ true)
  unfolding above
  both_parts = (and_iff (leb k x) (above (suc x) xs)).0 e

  pub above_first : k ≤ x
  above_first = leb-true k x both_parts.0

  pub above_rest : above (suc x) xs ≡ true
  above_rest = both_parts.1

above_cons : (k x : ℕ) (xs : List ℕ) → k ≤ x → above (suc x) xs ≡ true → above k (x ∷ xs) ≡ true
unfolding above
above_cons k x xs h e = rw (le-leb k x h) e

above_lower : (k l : ℕ) (xs : List ℕ) → k ≤ l → above l xs ≡ true → above k xs ≡ true
unfolding above
above_lower k l [] h e = refl
above_lower k l (x ∷ xs) h e =
    let g : l ≤ x = above_first l x xs e in
    above_cons k x xs (omega arith) (above_rest l x xs e)

-- a number below the floor is not among an ascending list
not_among : (m k : ℕ) (xs : List ℕ) → m < k → above k xs ≡ true → among m xs ≡ false
unfolding among
not_among m k [] h e = refl
not_among m k (x ∷ xs) h e =
    let g : k ≤ x = above_first k x xs e in
    let n : m ≡ x → ⊥ = omega arith in
    rw (ne_eqb m x n) (not_among m (suc x) xs (omega arith) (above_rest k x xs e))

-- ---- the three ways of a comparison

data Way (x y : ℕ) : Type 0 where
  lower : y < x → Way x y
  equal : x ≡ y → Way x y
  higher : x < y → Way x y

way : (x y : ℕ) → Way x y
way x y = go (ltb y x) refl
  where
    not_lower : (t : Bool) → eqb x y ≡ t → x ≤ y → Way x y
    not_lower true e h = equal (eqb-true x y e)
    not_lower false e h = let n : x ≡ y → ⊥ = eqb-false x y e in higher (omega (arith, n))

    go : (t : Bool) → ltb y x ≡ t → Way x y
    go true e = lower (ltb-true y x e)
    go false e = not_lower (eqb x y) refl (ltb-false y x e)

module _ (x y : ℕ) (f : List ℕ → List ℕ) (ys : List ℕ) where
  meets_lower : y < x → meets x f (y ∷ ys) ≡ meets x f ys
  unfolding meets
  meets_lower h = rw (lt-ltb y x h)

  meets_equal : x ≡ y → meets x f (y ∷ ys) ≡ x ∷ f ys
  unfolding meets
  meets_equal e = rw (le-ltb y x (omega arith), eq-eqb x y e)

  meets_higher : x < y → meets x f (y ∷ ys) ≡ f (y ∷ ys)
  unfolding meets
  meets_higher h = rw (le-ltb y x (omega arith), ne_eqb x y (omega arith))

  joins_lower : y < x → joins x f (y ∷ ys) ≡ y ∷ joins x f ys
  unfolding joins
  joins_lower h = rw (lt-ltb y x h)

  joins_equal : x ≡ y → joins x f (y ∷ ys) ≡ x ∷ f ys
  unfolding joins
  joins_equal e = rw (le-ltb y x (omega arith), eq-eqb x y e)

  joins_higher : x < y → joins x f (y ∷ ys) ≡ x ∷ f (y ∷ ys)
  unfolding joins
  joins_higher h = rw (le-ltb y x (omega arith), ne_eqb x y (omega arith))

-- ---- they ascend

-- what the merge f of the rest of the first list does with an ascending list past x
abbrev Keeps : ℕ → (List ℕ → List ℕ) → Type 0
Keeps x f = (ys : List ℕ) → above (suc x) ys ≡ true → above (suc x) (f ys) ≡ true

module _ (x : ℕ) (f : List ℕ → List ℕ) (g : Keeps x f) where
  module _ (k y : ℕ) (ys : List ℕ) (h : k ≤ x) (e : above k (y ∷ ys) ≡ true) where
    meets_step : (y < x → above (suc y) (meets x f ys) ≡ true) → Way x y → above k (meets x f (y ∷ ys)) ≡ true
    meets_step r (lower l) =
        let b : k ≤ y = above_first k y ys e in
        rw (meets_lower x y f ys l) (above_lower k (suc y) (meets x f ys) (omega arith) (r l))
    meets_step r (equal q) = rw (meets_equal x y f ys q) (above_cons k x (f ys) h (g ys (rw q (above_rest k y ys e))))
    meets_step r (higher l) =
        rw (meets_higher x y f ys l)
        (above_lower k (suc x) (f (y ∷ ys)) (omega arith) (g (y ∷ ys) (above_cons (suc x) y ys l (above_rest k y ys e))))

    joins_step : (y < x → above (suc y) (joins x f ys) ≡ true) → Way x y → above k (joins x f (y ∷ ys)) ≡ true
    joins_step r (lower l) = rw (joins_lower x y f ys l) (above_cons k y (joins x f ys) (above_first k y ys e) (r l))
    joins_step r (equal q) = rw (joins_equal x y f ys q) (above_cons k x (f ys) h (g ys (rw q (above_rest k y ys e))))
    joins_step r (higher l) =
        rw (joins_higher x y f ys l) (above_cons k x (f (y ∷ ys)) h (g (y ∷ ys) (above_cons (suc x) y ys l (above_rest k y ys e))))

  meets_above : (k : ℕ) (ys : List ℕ) → k ≤ x → above k ys ≡ true → above k (meets x f ys) ≡ true
  unfolding meets above
  meets_above k [] h e = refl
  meets_above k (y ∷ ys) h e = meets_step k y ys h e (λ l. meets_above (suc y) ys l (above_rest k y ys e)) (way x y)

  joins_above : (k : ℕ) (ys : List ℕ) → k ≤ x → above k ys ≡ true → above k (joins x f ys) ≡ true
  unfolding joins
  joins_above k [] h e = above_cons k x (f []) h (g [] (unfold above in refl))
  joins_above k (y ∷ ys) h e = joins_step k y ys h e (λ l. joins_above (suc y) ys l (above_rest k y ys e)) (way x y)

pub common_ascends : (k : ℕ) (xs ys : List ℕ) → above k xs ≡ true → above k ys ≡ true → above k (common xs ys) ≡ true
unfolding common
common_ascends k [] ys e g = unfold above in refl
common_ascends k (x ∷ xs) ys e g =
    meets_above x (common xs) (λ zs z. common_ascends (suc x) xs zs (above_rest k x xs e) z) k ys (above_first k x xs e) g

pub joined_ascends : (k : ℕ) (xs ys : List ℕ) → above k xs ≡ true → above k ys ≡ true → above k (joined xs ys) ≡ true
unfolding joined
joined_ascends k [] ys e g = g
joined_ascends k (x ∷ xs) ys e g =
    joins_above x (joined xs) (λ zs z. joined_ascends (suc x) xs zs (above_rest k x xs e) z) k ys (above_first k x xs e) g

-- ---- what is among them

or_swap : (a b c : Bool) → a || (b || c) ≡ (b || (a || c))
or_swap true true c = refl
or_swap true false c = refl
or_swap false b c = refl

or_both : (a b c : Bool) → a || (b || c) ≡ ((a || b) || (a || c))
or_both true b c = refl
or_both false b c = refl

module _ (m x : ℕ) (f : List ℕ → List ℕ) (a : Bool) where
  module _ (g : (ys : List ℕ) → among m (f ys) ≡ (a || among m ys)) where
    joins_among_step : (y : ℕ) (ys : List ℕ) → among m (joins x f ys) ≡ ((eqb m x || a) || among m ys) → Way x y
        → among m (joins x f (y ∷ ys)) ≡ ((eqb m x || a) || among m (y ∷ ys))
    unfolding among
    joins_among_step y ys r (lower l) = rw (joins_lower x y f ys l, r) (or_swap (eqb m y) (eqb m x || a) (among m ys))
    joins_among_step y ys r (equal q) = rw (joins_equal x y f ys q, g ys, q) (or_both (eqb m y) a (among m ys))
    joins_among_step y ys r (higher l) = rw (joins_higher x y f ys l, g (y ∷ ys)) (sym (or_assoc (eqb m x) a (eqb m y || among m ys)))

    joins_among : (ys : List ℕ) → among m (joins x f ys) ≡ ((eqb m x || a) || among m ys)
    unfolding joins among
    joins_among [] = rw (g []) (sym (or_assoc (eqb m x) a false))
    joins_among (y ∷ ys) = joins_among_step y ys (joins_among ys) (way x y)

pub joined_among : (m : ℕ) (xs ys : List ℕ) → among m (joined xs ys) ≡ (among m xs || among m ys)
unfolding joined among
joined_among m [] ys = refl
joined_among m (x ∷ xs) ys = joins_among m x (joined xs) (among m xs) (λ zs. joined_among m xs zs) ys

module _ (m x : ℕ) (f : List ℕ → List ℕ) (xs : List ℕ) (up : above (suc x) xs ≡ true)
    (g : (k : ℕ) (ys : List ℕ) → above k ys ≡ true → among m (f ys) ≡ (among m xs && among m ys)) where
  -- below x m is neither x nor among xs
  gone_first : (y : ℕ) → m ≡ y → y < x → (eqb m x || among m xs) ≡ false
  gone_first y e h = rw (ne_eqb m x (omega arith)) (not_among m (suc x) xs (omega arith) up)

  pass_lower : (y : ℕ) (ys : List ℕ) → y < x → (t : Bool) → eqb m y ≡ t
      → ((eqb m x || among m xs) && among m ys) ≡ ((eqb m x || among m xs) && (eqb m y || among m ys))
  pass_lower y ys h true e = rw (gone_first y (eqb-true m y e) h)
  pass_lower y ys h false e = rw e

  pass_higher : (y : ℕ) (ys : List ℕ) → above (suc y) ys ≡ true → x < y → (t : Bool) → eqb m x ≡ t
      → (among m xs && (eqb m y || among m ys)) ≡ ((eqb m x || among m xs) && (eqb m y || among m ys))
  pass_higher y ys u h true e =
      let q : m ≡ x = eqb-true m x e in
      let n : among m ys ≡ false = not_among m (suc y) ys (omega arith) u in
      let o : m ≡ y → ⊥ = omega arith in
      rw (n, ne_eqb m y o, and-false, and-false)
  pass_higher y ys u h false e = rw e

  meets_among_step : (k y : ℕ) (ys : List ℕ) → above k (y ∷ ys) ≡ true → among m (meets x f ys) ≡ ((eqb m x || among m xs) && among m ys)
      → Way x y → among m (meets x f (y ∷ ys)) ≡ ((eqb m x || among m xs) && (eqb m y || among m ys))
  meets_among_step k y ys e r (lower l) = ap (among m) (meets_lower x y f ys l) ∙ r ∙ pass_lower y ys l (eqb m y) refl
  meets_among_step k y ys e r (equal q) =
      ap (among m) (meets_equal x y f ys q)
      ∙ (unfold among in rw (g (suc y) ys (above_rest k y ys e), q) (or-and_distrib_left (eqb m y) (among m xs) (among m ys)))
  meets_among_step k y ys e r (higher l) =
      ap (among m) (meets_higher x y f ys l)
      ∙ g k (y ∷ ys) e
      ∙ (unfold among in pass_higher y ys (above_rest k y ys e) l (eqb m x) refl)

  meets_among : (k : ℕ) (ys : List ℕ) → above k ys ≡ true → among m (meets x f ys) ≡ ((eqb m x || among m xs) && among m ys)
  unfolding meets among
  meets_among k [] e = rw and-false
  meets_among k (y ∷ ys) e = meets_among_step k y ys e (meets_among (suc y) ys (above_rest k y ys e)) (way x y)

pub common_among : (m j k : ℕ) (xs ys : List ℕ) → above j xs ≡ true → above k ys ≡ true → among m (common xs ys) ≡ (among m xs && among m ys)
unfolding common among
common_among m j k [] ys e g = refl
common_among m j k (x ∷ xs) ys e g =
    meets_among m x (common xs) xs (above_rest j x xs e) (λ l zs z. common_among m (suc x) l xs zs (above_rest j x xs e) z) k ys g

-- ---- the MFNs of postings

mfns_above : (m k : ℕ) (ps : List ℕ) → m ≤ mfn_of k → above k ps ≡ true → above (suc m) (mfns_after m ps) ≡ true
unfolding mfns_after
mfns_above m k [] h e = unfold above in refl
mfns_above m k (p ∷ ps) h e =
    go (eqb (mfn_of p) m) refl (λ l. mfns_above m (suc p) ps l (above_rest k p ps e)) (mfns_above (mfn_of p) (suc p) ps (omega arith) (above_rest k p ps e))
  where
    go : (t : Bool) → eqb (mfn_of p) m ≡ t → (m ≤ mfn_of (suc p) → above (suc m) (mfns_after m ps) ≡ true)
        → above (suc (mfn_of p)) (mfns_after (mfn_of p) ps) ≡ true → above (suc m) (mfns_after m (p ∷ ps)) ≡ true
    go true q r s = let b : mfn_of p ≡ m = eqb-true (mfn_of p) m q in rw q (r (omega arith))
    go false q r s =
        let n : mfn_of p ≡ m → ⊥ = eqb-false (mfn_of p) m q in
        let b : k ≤ p = above_first k p ps e in
        let l : suc m ≤ mfn_of p = omega (arith, n) in
        rw q (above_cons (suc m) (mfn_of p) (mfns_after (mfn_of p) ps) l s)

-- postings of 64 bits that ascend have MFNs that ascend, each once
pub mfns_ascend : (ps : List ℕ) → ((p : ℕ) (qs : List ℕ) → ps ≡ p ∷ qs → p < 18446744073709551616) → ascends ps ≡ true → ascends (mfns_of ps) ≡ true
unfolding mfns_after
mfns_ascend [] small e = unfold above in refl
mfns_ascend (p ∷ ps) small e =
    let b : p < 18446744073709551616 = small p ps refl in
    let n : mfn_of p ≡ 16777216 → ⊥ = omega arith in
    let l : mfn_of p ≤ mfn_of (suc p) = omega arith in
    rw (ne_eqb (mfn_of p) 16777216 n)
    (above_cons 0 (mfn_of p) (mfns_after (mfn_of p) ps) (omega arith) (mfns_above (mfn_of p) (suc p) ps l (above_rest 0 p ps e)))

or_skip : (a b c : Bool) → (b || c) ≡ (a || c) → c ≡ false → b ≡ a
or_skip true true c e z = refl
or_skip false false c e z = refl
or_skip true false c e z = absurd (false_true (sym z ∙ e))
or_skip false true c e z = absurd (false_true (sym z ∙ sym e))

or_here : (a b c : Bool) → (a || c) ≡ (b || c) → (a || c) ≡ ((c || b) || c)
or_here a b true e = go a b
  where
    go : (a b : Bool) → (a || true) ≡ ((true || b) || true)
    go true b = refl
    go false b = refl
or_here a b false e = e

or_next : (a b c d : Bool) → (a || c) ≡ (b || c) → ((c || a) || d) ≡ ((c || b) || d)
or_next a b true d e = refl
or_next true true false d e = refl
or_next false false false d e = refl
or_next true false false d e = absurd (false_true (sym e))
or_next false true false d e = absurd (false_true e)

mfns_among_or : (m k : ℕ) (ps : List ℕ) → (among m (mfns_after k ps) || eqb m k) ≡ (has_mfn m ps || eqb m k)
unfolding mfns_after has_mfn
mfns_among_or m k [] = unfold among in refl
mfns_among_or m k (p ∷ ps) = go (eqb (mfn_of p) k) refl (mfns_among_or m k ps) (mfns_among_or m (mfn_of p) ps)
  where
    go : (t : Bool) → eqb (mfn_of p) k ≡ t → (among m (mfns_after k ps) || eqb m k) ≡ (has_mfn m ps || eqb m k)
        → (among m (mfns_after (mfn_of p) ps) || eqb m (mfn_of p)) ≡ (has_mfn m ps || eqb m (mfn_of p))
        → (among m (mfns_after k (p ∷ ps)) || eqb m k) ≡ ((eqb m (mfn_of p) || has_mfn m ps) || eqb m k)
    go true q r s =
        let b : mfn_of p ≡ k = eqb-true (mfn_of p) k q in
        rw (q, b) (or_here (among m (mfns_after k ps)) (has_mfn m ps) (eqb m k) r)
    go false q r s = unfold among in rw q (or_next (among m (mfns_after (mfn_of p) ps)) (has_mfn m ps) (eqb m (mfn_of p)) (eqb m k) s)

-- every posting has 64 bits
unfoldable pub Small : List ℕ → Type 0
Small [] = Unit {0}
Small (p ∷ ps) = (p < 18446744073709551616) × Small ps

none_among : (k : ℕ) (ps : List ℕ) → Small ps → among 16777216 (mfns_after k ps) ≡ false
unfolding Small mfns_after among
none_among k [] s = refl
none_among k (p ∷ ps) s = go (eqb (mfn_of p) k) (none_among k ps s.1) (none_among (mfn_of p) ps s.1)
  where
    go : (t : Bool) → among 16777216 (mfns_after k ps) ≡ false → among 16777216 (mfns_after (mfn_of p) ps) ≡ false
        → among 16777216 (cond t (mfns_after k ps) (mfn_of p ∷ mfns_after (mfn_of p) ps)) ≡ false
    go true i j = i
    go false i j = rw (ne_eqb 16777216 (mfn_of p) (λ e. omega (arith, s.0)), j)

none_has : (ps : List ℕ) → Small ps → has_mfn 16777216 ps ≡ false
unfolding Small has_mfn
none_has [] s = refl
none_has (p ∷ ps) s = rw (ne_eqb 16777216 (mfn_of p) (λ e. omega (arith, s.0)), none_has ps s.1)

-- a number is among the MFNs of postings exactly if a posting has it
pub mfns_among : (m : ℕ) (ps : List ℕ) → Small ps → among m (mfns_of ps) ≡ has_mfn m ps
mfns_among m ps s = go (eqb m 16777216) refl
  where
    go : (t : Bool) → eqb m 16777216 ≡ t → among m (mfns_of ps) ≡ has_mfn m ps
    go true e =
        let q : m ≡ 16777216 = eqb-true m 16777216 e in
        rw (q, none_among 16777216 ps s, none_has ps s)
    go false e = or_skip (has_mfn m ps) (among m (mfns_of ps)) (eqb m 16777216) (mfns_among_or m 16777216 ps) e
