-- A segment twice in a list is found without remembering: where all headers are inside the file, a list ends within as many segments as the
-- file has words exactly if no segment is in it twice. One way by counting: distinct words of the file are no more than its words. The other
-- by determinism: what follows a header depends on where it stands, so a list that comes back to a segment never ends.
use Prim.Native.Nat.{ℕ, zero, suc, ◌+◌, ◌-◌, ◌≤◌, ◌<◌}
use native.Mathlib.Omega.{arith}
use mathlib.Core.Path.{◌≡◌, refl, sym, ap, ◌∙◌}
use mathlib.Core.Bool.{Bool, true, false, not, ◌&&◌, ◌||◌, cond}
use mathlib.Core.List.{List, [], ◌∷◌}
use lib.Dec.{ltb, eqb}
use lib.ListN.{length}
use borrow.Author.Tests.{ltb-true, lt-ltb, eqb-true, eqb-false, not-true}
use Rattle.word.specs.Integer.{u32_at}
use Rattle.postings.specs.declared.segment.Place.{Place}
use Rattle.postings.specs.Segment.{spot, offset_of, next_of, is_end, header_inside}
use Rattle.postings.specs.Rules.{words_of, segments_from, segments_of, ends_within, headers_inside, word_number, among_segments, each_once}
use Rattle.word.proofs.Tests.{false_true, and_iff, or_false}
use Rattle.postings.proofs.Headers.{header_facts}

-- ---- places and their numbers

pub place_same : (len : ℕ) (p q : Place) → header_inside len p ≡ true → header_inside len q ≡ true → word_number p ≡ word_number q
    → (p.block ≡ q.block) × (p.word ≡ q.word)
place_same len p q i j e =
    let a = header_facts len p i in
    let b = header_facts len q j in
    (omega (arith, a.low, b.low, a.word_in, b.word_in), omega (arith, a.low, b.low, a.word_in, b.word_in))

number_within : (f : List ℕ) (p : Place) → header_inside (length f) p ≡ true → word_number p + 6 ≤ words_of f
number_within f p i = let a = header_facts (length f) p i in omega (arith, a.file_in)

next_same : (f : List ℕ) (p q : Place) → word_number p ≡ word_number q → next_of f p ≡ next_of f q
next_same f p q e =
    let o : offset_of p ≡ offset_of q = omega arith in
    ap (λ (a : ℕ). spot (u32_at f a) (u32_at f (a + 4))) o

-- ---- a list that ends, ends once

module _ (f : List ℕ) where
  from_end : (k : ℕ) (p : Place) → is_end (next_of f p) ≡ true → segments_from f (suc k) p ≡ p ∷ []
  unfolding segments_from
  from_end k p e = rw e

  from_more : (k : ℕ) (p : Place) → is_end (next_of f p) ≡ false → segments_from f (suc k) p ≡ p ∷ segments_from f k (next_of f p)
  unfolding segments_from
  from_more k p e = rw e

  ends_end : (k : ℕ) (p : Place) → is_end (next_of f p) ≡ true → ends_within f (suc k) p ≡ true
  unfolding ends_within
  ends_end k p e = rw e

  ends_more : (k : ℕ) (p : Place) → is_end (next_of f p) ≡ false → ends_within f (suc k) p ≡ ends_within f k (next_of f p)
  unfolding ends_within
  ends_more k p e = rw e

  ends_never : (p : Place) → ends_within f zero p ≡ true → ⊥
  unfolding ends_within
  ends_never p e = false_true e

  -- two walks from one segment are as long as each other
  module _ (j k : ℕ) (p q : Place) (e : word_number p ≡ word_number q) where
    same_step : (t : Bool) → is_end (next_of f p) ≡ t
        → (ends_within f j (next_of f p) ≡ true → ends_within f k (next_of f q) ≡ true
        → length (segments_from f j (next_of f p)) ≡ length (segments_from f k (next_of f q)))
        → ends_within f (suc j) p ≡ true → ends_within f (suc k) q ≡ true → length (segments_from f (suc j) p) ≡ length (segments_from f (suc k) q)
    same_step true t r a b =
        let u : is_end (next_of f q) ≡ true = ap is_end (sym (next_same f p q e)) ∙ t in
        rw (from_end j p t, from_end k q u)
    same_step false t r a b =
        let u : is_end (next_of f q) ≡ false = ap is_end (sym (next_same f p q e)) ∙ t in
        rw (from_more j p t, from_more k q u) (ap suc (r (sym (ends_more j p t) ∙ a) (sym (ends_more k q u) ∙ b)))

  same_length : (j k : ℕ) (p q : Place) → word_number p ≡ word_number q → ends_within f j p ≡ true → ends_within f k q ≡ true
      → length (segments_from f j p) ≡ length (segments_from f k q)
  same_length zero k p q e a b = absurd (ends_never p a)
  same_length (suc j) zero p q e a b = absurd (ends_never q b)
  same_length (suc j) (suc k) p q e a b =
      same_step j k p q e (is_end (next_of f p)) refl
      (λ c d. same_length j k (next_of f p) (next_of f q) (ap word_number (next_same f p q e)) c d) a b

  -- a segment that is among those of a walk that ends begins a walk that ends, and is no longer
  pub record Later (n bound : ℕ) : Type 0 where
    pub steps : ℕ
    pub from : Place
    pub number : n ≡ word_number from
    pub ends : ends_within f steps from ≡ true
    pub short : length (segments_from f steps from) ≤ bound

  longer : (n b c : ℕ) → b ≤ c → Later n b → Later n c
  longer n b c h l = record { steps = l.steps; from = l.from; number = l.number; ends = l.ends; short = omega (arith, l.short) }

  nothing_among : (n : ℕ) → among_segments n [] ≡ false
  unfolding among_segments
  nothing_among n = refl

  among_cons : (n : ℕ) (p : Place) (ps : List Place) → among_segments n (p ∷ ps) ≡ (eqb n (word_number p) || among_segments n ps)
  unfolding among_segments
  among_cons n p ps = refl

  module _ (n k : ℕ) (p : Place) (a : ends_within f (suc k) p ≡ true) where
    later_here : eqb n (word_number p) ≡ true → Later n (length (segments_from f (suc k) p))
    later_here e = record { steps = suc k; from = p; number = eqb-true n (word_number p) e; ends = a; short = omega arith }

    later_there : eqb n (word_number p) ≡ false → among_segments n (segments_from f (suc k) p) ≡ true → (t : Bool) → is_end (next_of f p) ≡ t
        → (among_segments n (segments_from f k (next_of f p)) ≡ true → ends_within f k (next_of f p) ≡ true
        → Later n (length (segments_from f k (next_of f p))))
        → Later n (length (segments_from f (suc k) p))
    later_there e m true t r =
        absurd (false_true (sym (ap (among_segments n) (from_end k p t) ∙ among_cons n p [] ∙ rw (e, nothing_among n)) ∙ m))
    later_there e m false t r =
        let s : among_segments n (segments_from f k (next_of f p)) ≡ true =
        sym (ap (among_segments n) (from_more k p t) ∙ among_cons n p (segments_from f k (next_of f p)) ∙ rw e) ∙ m in
        longer n _ _ (rw (from_more k p t) (omega arith)) (r s (sym (ends_more k p t) ∙ a))

    later_step : among_segments n (segments_from f (suc k) p) ≡ true
        → (among_segments n (segments_from f k (next_of f p)) ≡ true → ends_within f k (next_of f p) ≡ true
        → Later n (length (segments_from f k (next_of f p))))
        → (t : Bool) → eqb n (word_number p) ≡ t → Later n (length (segments_from f (suc k) p))
    later_step m r true e = later_here e
    later_step m r false e = later_there e m (is_end (next_of f p)) refl r

  later : (n k : ℕ) (p : Place) → among_segments n (segments_from f k p) ≡ true → ends_within f k p ≡ true → Later n (length (segments_from f k p))
  later n zero p m a = absurd (ends_never p a)
  later n (suc k) p m a = later_step n k p a m (λ c d. later n k (next_of f p) c d) (eqb n (word_number p)) refl

  -- so no segment is twice in it
  module _ (k : ℕ) (p : Place) (a : ends_within f (suc k) p ≡ true) where
    never_again : is_end (next_of f p) ≡ false → (t : Bool) → among_segments (word_number p) (segments_from f k (next_of f p)) ≡ t
        → among_segments (word_number p) (segments_from f k (next_of f p)) ≡ false
    never_again e false m = m
    never_again e true m =
        let l = later (word_number p) k (next_of f p) m (sym (ends_more k p e) ∙ a) in
        let s = same_length (suc k) l.steps p l.from l.number a l.ends in
        let u : length (segments_from f (suc k) p) ≡ suc (length (segments_from f k (next_of f p))) = rw (from_more k p e) in
        absurd (omega (arith, s, u, l.short))

    once_step : (ends_within f k (next_of f p) ≡ true → each_once (segments_from f k (next_of f p)) ≡ true)
        → (t : Bool) → is_end (next_of f p) ≡ t → each_once (segments_from f (suc k) p) ≡ true
    unfolding each_once among_segments
    once_step r true e = rw (from_end k p e)
    once_step r false e = rw (from_more k p e, never_again e _ refl, r (sym (ends_more k p e) ∙ a))

  pub ended_once : (k : ℕ) (p : Place) → ends_within f k p ≡ true → each_once (segments_from f k p) ≡ true
  ended_once zero p a = absurd (ends_never p a)
  ended_once (suc k) p a = once_step k p a (λ c. ended_once k (next_of f p) c) (is_end (next_of f p)) refl

  -- ---- a list that has not ended has all the segments that were asked for

  unended_step : (k : ℕ) (p : Place) → ends_within f (suc k) p ≡ false
      → (ends_within f k (next_of f p) ≡ false → length (segments_from f k (next_of f p)) ≡ k)
      → (t : Bool) → is_end (next_of f p) ≡ t → length (segments_from f (suc k) p) ≡ suc k
  unended_step k p a r true e = absurd (false_true (sym a ∙ ends_end k p e))
  unended_step k p a r false e = rw (from_more k p e) (ap suc (r (sym (ends_more k p e) ∙ a)))

  unended_length : (k : ℕ) (p : Place) → ends_within f k p ≡ false → length (segments_from f k p) ≡ k
  unfolding segments_from
  unended_length zero p a = refl
  unended_length (suc k) p a = unended_step k p a (λ c. unended_length k (next_of f p) c) (is_end (next_of f p)) refl

-- ---- distinct numbers below n are n at most

below : ℕ → List Place → Bool
below n [] = true
below n (p ∷ ps) = ltb (word_number p) n && below n ps

-- the segments that do not stand at word n
without : ℕ → List Place → List Place
without n [] = []
without n (p ∷ ps) = cond (eqb n (word_number p)) (without n ps) (p ∷ without n ps)

without_here : (n : ℕ) (p : Place) (ps : List Place) → eqb n (word_number p) ≡ true → without n (p ∷ ps) ≡ without n ps
unfolding without
without_here n p ps e = rw e

without_there : (n : ℕ) (p : Place) (ps : List Place) → eqb n (word_number p) ≡ false → without n (p ∷ ps) ≡ p ∷ without n ps
unfolding without
without_there n p ps e = rw e

-- what is not among segments is not among fewer
without_among_step : (m n : ℕ) (p : Place) (ps : List Place) → eqb m (word_number p) ≡ false → among_segments m (without n ps) ≡ false
    → (t : Bool) → eqb n (word_number p) ≡ t → among_segments m (without n (p ∷ ps)) ≡ false
without_among_step m n p ps a r true e = rw (without_here n p ps e) r
without_among_step m n p ps a r false e = unfold among_segments in rw (without_there n p ps e, a) r

without_among : (m n : ℕ) (ps : List Place) → among_segments m ps ≡ false → among_segments m (without n ps) ≡ false
unfolding among_segments without
without_among m n [] a = refl
without_among m n (p ∷ ps) a =
    let q = or_false (eqb m (word_number p)) (among_segments m ps) a in
    without_among_step m n p ps q.0 (without_among m n ps q.1) (eqb n (word_number p)) refl

module _ (p : Place) (ps : List Place) (o : each_once (p ∷ ps) ≡ true) where
  once_parts : (not (among_segments (word_number p) ps) ≡ true) × (each_once ps ≡ true)
  unfolding each_once
  once_parts = (and_iff (not (among_segments (word_number p) ps)) (each_once ps)).0 o

  once_first : among_segments (word_number p) ps ≡ false
  once_first = not-true (among_segments (word_number p) ps) once_parts.0

  once_rest : each_once ps ≡ true
  once_rest = once_parts.1

without_once_step : (n : ℕ) (p : Place) (ps : List Place) → among_segments (word_number p) ps ≡ false → each_once (without n ps) ≡ true
    → (t : Bool) → eqb n (word_number p) ≡ t → each_once (without n (p ∷ ps)) ≡ true
without_once_step n p ps a r true e = rw (without_here n p ps e) r
without_once_step n p ps a r false e = unfold each_once in rw (without_there n p ps e, without_among (word_number p) n ps a) r

without_once : (n : ℕ) (ps : List Place) → each_once ps ≡ true → each_once (without n ps) ≡ true
unfolding without each_once
without_once n [] o = refl
without_once n (p ∷ ps) o =
    without_once_step n p ps (once_first p ps o) (without_once n ps (once_rest p ps o)) (eqb n (word_number p)) refl

-- at most one is left out
without_none : (n : ℕ) (ps : List Place) → among_segments n ps ≡ false → without n ps ≡ ps
unfolding without among_segments
without_none n [] a = refl
without_none n (p ∷ ps) a =
    let q = or_false (eqb n (word_number p)) (among_segments n ps) a in
    rw (q.0, without_none n ps q.1)

without_length_step : (n : ℕ) (p : Place) (ps : List Place) → among_segments (word_number p) ps ≡ false → length ps ≤ suc (length (without n ps))
    → (t : Bool) → eqb n (word_number p) ≡ t → length (p ∷ ps) ≤ suc (length (without n (p ∷ ps)))
without_length_step n p ps a r true e =
    let q : n ≡ word_number p = eqb-true n (word_number p) e in
    let b : among_segments n ps ≡ false = rw q a in
    rw (without_here n p ps e, without_none n ps b) (omega arith)
without_length_step n p ps a r false e = rw (without_there n p ps e) (omega arith)

without_length : (n : ℕ) (ps : List Place) → each_once ps ≡ true → length ps ≤ suc (length (without n ps))
without_length n [] o = omega arith
without_length n (p ∷ ps) o =
    without_length_step n p ps (once_first p ps o) (without_length n ps (once_rest p ps o)) (eqb n (word_number p)) refl

below_parts : (n : ℕ) (p : Place) (ps : List Place) → below n (p ∷ ps) ≡ true → (word_number p < n) × (below n ps ≡ true)
unfolding below
below_parts n p ps b = let q = (and_iff (ltb (word_number p) n) (below n ps)).0 b in (ltb-true (word_number p) n q.0, q.1)

without_below_step : (n : ℕ) (p : Place) (ps : List Place) → word_number p < suc n → below n (without n ps) ≡ true
    → (t : Bool) → eqb n (word_number p) ≡ t → below n (without n (p ∷ ps)) ≡ true
without_below_step n p ps a r true e = rw (without_here n p ps e) r
without_below_step n p ps a r false e =
    let q : n ≡ word_number p → ⊥ = eqb-false n (word_number p) e in
    let l : word_number p < n = omega (arith, q) in
    unfold below in rw (without_there n p ps e, lt-ltb (word_number p) n l) r

without_below : (n : ℕ) (ps : List Place) → below (suc n) ps ≡ true → below n (without n ps) ≡ true
unfolding without below
without_below n [] b = refl
without_below n (p ∷ ps) b =
    let q = below_parts (suc n) p ps b in
    without_below_step n p ps q.0 (without_below n ps q.1) (eqb n (word_number p)) refl

pigeons : (n : ℕ) (ps : List Place) → each_once ps ≡ true → below n ps ≡ true → length ps ≤ n
pigeons zero [] o b = omega arith
pigeons zero (p ∷ ps) o b = absurd (omega (arith, (below_parts 0 p ps b).0))
pigeons (suc n) ps o b =
    omega (arith, without_length n ps o, pigeons n (without n ps) (without_once n ps o) (without_below n ps b))

-- ---- the theorem

inside_below : (f : List ℕ) (ps : List Place) → headers_inside f ps ≡ true → below (words_of f - 5) ps ≡ true
unfolding headers_inside below
inside_below f [] i = refl
inside_below f (p ∷ ps) i =
    let q = (and_iff (header_inside (length f) p) (headers_inside f ps)).0 i in
    let l : word_number p < words_of f - 5 = omega (arith, number_within f p q.0) in
    rw (lt-ltb (word_number p) (words_of f - 5) l) (inside_below f ps q.1)

-- a list of headers inside the file that does not end within as many segments as the file has words holds one twice
pub unended_twice : (f : List ℕ) (p : Place) → header_inside (length f) p ≡ true → headers_inside f (segments_of f p) ≡ true
    → ends_within f (words_of f) p ≡ false → each_once (segments_of f p) ≡ false
unended_twice f p h i e = go (each_once (segments_of f p)) refl
  where
    go : (t : Bool) → each_once (segments_of f p) ≡ t → each_once (segments_of f p) ≡ false
    go false o = o
    go true o =
        let l : length (segments_of f p) ≡ words_of f = unended_length f (words_of f) p e in
        let m : length (segments_of f p) ≤ words_of f - 5 = pigeons (words_of f - 5) (segments_of f p) o (inside_below f (segments_of f p) i) in
        absurd (omega (arith, l, m, number_within f p h))

-- so that it ends says that no segment is in it twice
pub ends_once : (f : List ℕ) (p : Place) → header_inside (length f) p ≡ true → headers_inside f (segments_of f p) ≡ true
    → ends_within f (words_of f) p ≡ each_once (segments_of f p)
ends_once f p h i = go (ends_within f (words_of f) p) refl
  where
    go : (t : Bool) → ends_within f (words_of f) p ≡ t → ends_within f (words_of f) p ≡ each_once (segments_of f p)
    go true e = e ∙ sym (ended_once f (words_of f) p e)
    go false e = e ∙ sym (unended_twice f p h i e)
