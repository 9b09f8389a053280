-- The theorems of specs/Theorems.antt.
use Prim.Native.Nat.{ℕ}
use native.Mathlib.Omega.{arith}
use mathlib.Core.Path.{◌≡◌, refl, sym, ap, ◌∙◌}
use mathlib.Core.Logic.{◌⊎◌, inl, inr, ⊎_elim, ◌↔◌}
use mathlib.Core.Bool.{Bool, true, false, ◌&&◌, cond}
use mathlib.Core.List.{List, [], ◌∷◌, ◌++◌}
use lib.Dec.{leb}
use lib.ListN.{length}
use Rattle.std.proofs.Common.{Option, Some, None, Err}
use Rattle.terms.specs.declared.term.Kind.TheVariants.{Short, Long}
use Rattle.terms.specs.Key.{same, below, ascending}
use Rattle.terms.specs.Term.{term_right, kind_for, width_of, padded}
use Rattle.index.specs.Files.{Index, nodes_in, leaves_in}
use Rattle.index.specs.Rules.{part_of}
use Rattle.index.specs.Lookup.{Found, at, Entry, entries_of, first_equal, descend, search_tree, lookup_in, lookup_of}
use Rattle.index.specs.Reading.{Met, leaves_among}
use Rattle.index.specs.Shape.{Shape}
use Rattle.index.specs.declared.layout.Tree.{Tree}
use Rattle.index.specs.declared.lookup.Place.{Place}
use Rattle.index.specs.declared.lookup.Refusal.TheVariants.{NoTerm}
use Rattle.terms.proofs.Order.{by_cases, never, below_irrefl, same_is, above, ascent_above, same_refl}
use Rattle.word.proofs.Tests.{false_true}
use Rattle.index_check.specs.Walk.{met, keys_along}
use Rattle.index_check.specs.Sound.{all, keeps_rules, node_ascends, points_to_first, none_twice, successors_right, met_sound, tree_sound, sound_in, sound_of}
use Rattle.index_check.specs.Theorems.{Among, HeldBy, HeldIn, FoundExactlyIfHeld, AbsentOtherwise, AscentMeetsOnce}
use Rattle.index_check.proofs.Sound.{keeps, keeps_all, ascent_once}
use Rattle.index_check.proofs.Held.{both, keys_in, entries_along, keys_in_along, ascent_tail, held, way_judged}

-- ---- an entry among others

at_same : (a b c d : ℕ) → at a b ≡ at c d → (a ≡ c) × (b ≡ d)
at_same a b c d e =
    let place : ℕ → ℕ → Place = λ (x y : ℕ). record { block = x; word = y } in
    let q : place a b ≡ place c d = cc in
    (ap (λ (p : Place). p.block) q, ap (λ (p : Place). p.word) q)

module _ (key : List ℕ) (block word : ℕ) where
  among_cases : (b : Bool) (e : Entry) (r : Found) (es : List Entry) → same key e.key ≡ b → cond b (at e.block e.word) r ≡ at block word
      → (r ≡ at block word → Among key block word es) → Among key block word (e ∷ es)
  unfolding Among
  among_cases true e r es s p f = let q = at_same e.block e.word block word p in inl (sym (same_is key e.key s), q.0, q.1)
  among_cases false e r es s p f = inr (f p)

  -- what is found is among them
  pub found_among : (es : List Entry) → first_equal key es ≡ at block word → Among key block word es
  unfolding first_equal
  found_among [] p = let z : ◌≡◌ {A = ℕ} 0 1 = cc in absurd (omega arith)
  found_among (e ∷ es) p = among_cases (same key e.key) e (first_equal key es) es refl p (found_among es)

  among_above : (x : List ℕ) (es : List Entry) → Among key block word es → above x (keys_in es) ≡ true → below x key ≡ true
  unfolding Among above keys_in
  among_above x [] m a = absurd m
  among_above x (e ∷ es) m a =
      let q = both (below x e.key) (above x (keys_in es)) a in
      ⊎_elim (λ h. rw h.0 at q.0) (λ h. among_above x es h q.1) m

  -- and what is among them is found, where their keys ascend
  pub among_found : (es : List Entry) → ascending (keys_in es) ≡ true → Among key block word es → first_equal key es ≡ at block word
  unfolding Among first_equal keys_in ascending
  among_found [] a m = absurd m
  among_found (e ∷ es) a m =
      ⊎_elim
      (λ h. here e es h)
      (λ h. later e es (differs e.key es (among_above e.key es h (ascent_above e.key (keys_in es) a))) (among_found es (ascent_tail e.key (keys_in es) a) h))
      m
    where
      here : (e : Entry) (es : List Entry) → ((e.key ≡ key) × (e.block ≡ block) × (e.word ≡ word)) → first_equal key (e ∷ es) ≡ at block word
      here e es h = rw (h.0, same_refl key, h.1, h.2)

      differs : (x : List ℕ) (es : List Entry) → below x key ≡ true → same key x ≡ false
      differs x es g = by_cases (same key x) (λ s. never g (rw (same_is key x s) (below_irrefl x))) (λ s. s)

      later : (e : Entry) (es : List Entry) → same key e.key ≡ false → first_equal key es ≡ at block word → first_equal key (e ∷ es) ≡ at block word
      later e es s p = rw (s, p)

  among_left : (xs ys : List Entry) → Among key block word xs → Among key block word (xs ++ ys)
  unfolding Among
  among_left [] ys m = absurd m
  among_left (x ∷ xs) ys m = ⊎_elim (λ h. inl h) (λ h. inr (among_left xs ys h)) m

  among_right : (xs ys : List Entry) → Among key block word ys → Among key block word (xs ++ ys)
  unfolding Among
  among_right [] ys m = m
  among_right (x ∷ xs) ys m = inr (among_right xs ys m)

  among_split : (xs ys : List Entry) → Among key block word (xs ++ ys) → Among key block word xs ⊎ Among key block word ys
  unfolding Among
  among_split [] ys m = inr m
  among_split (x ∷ xs) ys m =
      ⊎_elim (λ h. inl (inl h)) (λ h. ⊎_elim (λ l. inl (inr l)) (λ r. inr r) (among_split xs ys h)) m

  module _ (f : List ℕ) (s : Shape) where
    held_among : (ns : List ℕ) → HeldBy f s key block word ns → Among key block word (entries_along f s ns)
    unfolding HeldBy entries_along
    held_among [] m = absurd m
    held_among (n ∷ ns) m =
        ⊎_elim (λ h. among_left (entries_of f s n) (entries_along f s ns) h) (λ h. among_right (entries_of f s n) (entries_along f s ns) (held_among ns h)) m

    among_held : (ns : List ℕ) → Among key block word (entries_along f s ns) → HeldBy f s key block word ns
    unfolding Among HeldBy entries_along
    among_held [] m = m
    among_held (n ∷ ns) m = ⊎_elim (λ h. inl h) (λ h. inr (among_held ns h)) (among_split (entries_of f s n) (entries_along f s ns) m)

-- what is not found at any place is absent
absent_cases : (key : List ℕ) (e : Entry) (r : Found) (b : Bool) → same key e.key ≡ b
    → ((block word : ℕ) → cond (same key e.key) (at e.block e.word) r ≡ at block word → ⊥)
    → (((block word : ℕ) → r ≡ at block word → ⊥) → r ≡ Err NoTerm) → cond b (at e.block e.word) r ≡ Err NoTerm
absent_cases key e r true s h f = absurd (h e.block e.word (rw s))
absent_cases key e r false s h f = f (λ b w p. h b w (rw s p))

pub absent_of : (key : List ℕ) (es : List Entry) → ((block word : ℕ) → first_equal key es ≡ at block word → ⊥) → first_equal key es ≡ Err NoTerm
unfolding first_equal
absent_of key [] h = refl
absent_of key (e ∷ es) h = absent_cases key e (first_equal key es) (same key e.key) refl h (absent_of key es)

-- ---- a tree that passes

module _ (nodes leaves : List ℕ) (t : Tree) (ms : List Met) (sound : met_sound nodes leaves t ms ≡ true) where
  abbrev rules : Bool
  rules = all (keeps_rules nodes leaves t) ms && all (node_ascends nodes leaves t) ms && all (points_to_first nodes leaves t) ms

  parts : (rules ≡ true) × (ascending (keys_along leaves t.leaves (leaves_among ms)) ≡ true)
  unfolding met_sound
  parts =
      let a : Bool = ascending (keys_along leaves t.leaves (leaves_among ms)) in
      let d : Bool = none_twice (leaves_among ms) in
      let s : Bool = successors_right leaves t.leaves (leaves_among ms) in
      let p = both (rules && a && d) s sound in
      let q = both (rules && a) d p.0 in
      both rules a q.0

  sound_kept : all (keeps nodes leaves t) ms ≡ true
  sound_kept = sym (keeps_all nodes leaves t ms) ∙ parts.0

  sound_ascent : (key : List ℕ) → ascending (keys_in (held nodes leaves t key ms)) ≡ true
  sound_ascent key = ap ascending (keys_in_along leaves t.leaves (leaves_among ms)) ∙ parts.1

module _ (nodes leaves : List ℕ) (t : Tree) (key : List ℕ) (sound : met_sound nodes leaves t (met nodes t) ≡ true) where
  pub found_in_all : descend nodes leaves t key 16 t.root ≡ first_equal key (held nodes leaves t key (met nodes t))
  found_in_all =
      (way_judged nodes leaves t key 16 t.root (sound_kept nodes leaves t (met nodes t) sound) (sound_ascent nodes leaves t (met nodes t) sound key)).answers

  pub tree_found : (block word : ℕ) → (descend nodes leaves t key 16 t.root ≡ at block word) ↔ HeldBy leaves t.leaves key block word (leaves_among (met nodes t))
  tree_found block word = (
    (λ p. among_held key block word leaves t.leaves (leaves_among (met nodes t)) (found_among key block word (held nodes leaves t key (met nodes t)) (sym found_in_all ∙ p))),
    (λ h. found_in_all ∙ among_found key block word (held nodes leaves t key (met nodes t)) (sound_ascent nodes leaves t (met nodes t) sound key)
        (held_among key block word leaves t.leaves (leaves_among (met nodes t)) h)),
  )

  pub tree_absent : ((block word : ℕ) → descend nodes leaves t key 16 t.root ≡ at block word → ⊥) → descend nodes leaves t key 16 t.root ≡ Err NoTerm
  tree_absent h = found_in_all ∙ absent_of key (held nodes leaves t key (met nodes t)) (λ b w p. h b w (found_in_all ∙ p))

module _ (nodes leaves : List ℕ) (key : List ℕ) where
  part_found : (p : Option Tree) → tree_sound nodes leaves p ≡ true → (block word : ℕ) → (search_tree nodes leaves key p ≡ at block word) ↔ HeldIn nodes leaves key block word p
  unfolding tree_sound search_tree HeldIn
  part_found None sound block word = absurd (false_true sound)
  part_found (Some t) sound block word = tree_found nodes leaves t key sound block word

  part_absent : (p : Option Tree) → tree_sound nodes leaves p ≡ true → ((block word : ℕ) → HeldIn nodes leaves key block word p → ⊥) → search_tree nodes leaves key p ≡ Err NoTerm
  unfolding tree_sound search_tree HeldIn
  part_absent None sound h = absurd (false_true sound)
  part_absent (Some t) sound h = tree_absent nodes leaves t key sound (λ b w p. h b w ((tree_found nodes leaves t key sound b w).0 p))

-- ---- both trees

module _ (x : Index) (term : List ℕ) (sound : sound_of x ≡ true) (right : term_right term ≡ true) where
  -- the term's tree is sound
  own : (b : Bool) → leb (length term) 10 ≡ b → tree_sound (nodes_in x (cond b Short Long)) (leaves_in x (cond b Short Long)) (part_of x.cnt (cond b Short Long)) ≡ true
  unfolding sound_of
  own true e = (both (sound_in x Short) (sound_in x Long) sound).0
  own false e = (both (sound_in x Short) (sound_in x Long) sound).1

  term_tree : tree_sound (nodes_in x (kind_for term)) (leaves_in x (kind_for term)) (part_of x.cnt (kind_for term)) ≡ true
  unfolding kind_for
  term_tree = own (leb (length term) 10) refl

  lookup_is : lookup_of x term
      ≡ search_tree (nodes_in x (kind_for term)) (leaves_in x (kind_for term)) (padded (width_of (kind_for term)) term) (part_of x.cnt (kind_for term))
  unfolding lookup_of lookup_in
  lookup_is = rw right

pub found_exactly_if_held : FoundExactlyIfHeld
unfolding FoundExactlyIfHeld
found_exactly_if_held x term sound right block word =
    let f = part_found _ _ (padded (width_of (kind_for term)) term) _ (term_tree x term sound right) block word in
    let e = lookup_is x term sound right in
    ((λ p. f.0 (sym e ∙ p)), (λ h. e ∙ f.1 h))

pub absent_otherwise : AbsentOtherwise
unfolding AbsentOtherwise
absent_otherwise x term sound right h =
    lookup_is x term sound right ∙ part_absent _ _ (padded (width_of (kind_for term)) term) _ (term_tree x term sound right) h

pub ascent_meets_once : AscentMeetsOnce
unfolding AscentMeetsOnce
ascent_meets_once nodes leaves t ms a k = ascent_once nodes leaves t ms a k
