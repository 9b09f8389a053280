-- What a lookup reads (specs/Reading). A record's reading depends on its own bytes alone, so two pairs of files that have the same records on the way down
-- answer the same; and a way has at most as many nodes as are left, and one leaf.
use Prim.Native.Nat.{ℕ, zero, suc, ◌+◌, ◌*◌, ◌<◌, ◌≤◌}
use native.Mathlib.Nat.{add-zero, add_assoc}
use native.Mathlib.Omega.{arith}
use mathlib.Core.Path.{◌≡◌, refl, sym, ap, ◌∙◌}
use mathlib.Core.Logic.{◌↔◌}
use mathlib.Core.Bool.{Bool, true, false, ◌&&◌, cond, and-true, and-false, and_assoc}
use mathlib.Core.List.{List, [], ◌∷◌}
use lib.ListN.{length}
use Rattle.std.proofs.Common.{Option, Some, None}
use Rattle.word.specs.Integer.{u16_at, u32_at}
use Rattle.word.proofs.Integers.{u32_part}
use Rattle.word.proofs.Window.{window_u16, window_part}
use Rattle.word.proofs.Tests.{and_iff, false_true}
use Rattle.terms.specs.Key.{below}
use Rattle.terms.specs.declared.term.Kind.{Kind}
use Rattle.terms.proofs.Order.{by_cases}
use Rattle.index.specs.Shape.{Shape, ShapeFits}
use Rattle.index.specs.Layout.{size_of, place_of, key_place, ock_at, key_at, punt_at, word_at, keys_from}
use Rattle.index.specs.Rules.{record_right, rest_right, punts_right, node_right}
use Rattle.index.specs.Lookup.{entry_at, entries_from, leaf_answer, last_punt, punt_for, is_node, leaf_number, onward, descend, search_tree}
use Rattle.index.specs.Reading.{Met, Node, Leaf, nodes_among, leaves_among, met_by, way_of, SameRecord, SameAlong, ReadsFew, below_all, NoneMeansBelow}
use Rattle.index.specs.declared.layout.Tree.{Tree}
use Rattle.index.proofs.Shapes.{size_low, entry_in, right_facts, node_record}
use Rattle.index.proofs.Trees.{TreeFits, part_fits}

-- ---- no PUNT, and the term below every key

module _ (f : List ℕ) (s : Shape) (key : List ℕ) (n : ℕ) where
  below_last : (k i : ℕ) → below_all key (keys_from f s n (suc k) i) ≡ (below_all key (keys_from f s n k i) && below key (key_at f s n (i + k)))
  unfolding below_all keys_from
  below_last zero i = rw add-zero (and-true (below key (key_at f s n i)))
  below_last (suc k) i =
      let e : i + 1 + k ≡ i + suc k = omega arith in
      ap (λ (b : Bool). below key (key_at f s n i) && b) (below_last k (i + 1) ∙ ap (λ (j : ℕ). below_all key (keys_from f s n k (i + 1)) && below key (key_at f s n j)) e)
      ∙ sym (and_assoc (below key (key_at f s n i)) _ _)

  none_step : (k : ℕ) → (last_punt f s key n k ≡ None) ↔ (below_all key (keys_from f s n k 0) ≡ true)
      → (b : Bool) → (cond b (last_punt f s key n k) (Some (punt_at f s n k)) ≡ None) ↔ ((below_all key (keys_from f s n k 0) && b) ≡ true)
  none_step k known true = ((λ z. (and_iff _ _).1 (known.0 z, refl)), (λ z. known.1 ((and_iff (below_all key (keys_from f s n k 0)) true).0 z).0))
  none_step k known false =
      ((λ w. let z : ◌≡◌ {A = ℕ} 0 1 = cc in absurd (omega arith)), (λ w. absurd (false_true (sym (and-false (below_all key (keys_from f s n k 0))) ∙ w))))

  none_keys : below_all key (keys_from f s n 0 0) ≡ true
  unfolding below_all keys_from
  none_keys = refl

  none_below : (k : ℕ) → (last_punt f s key n k ≡ None) ↔ (below_all key (keys_from f s n k 0) ≡ true)
  unfolding last_punt
  none_below zero = ((λ z. none_keys), (λ z. refl))
  none_below (suc k) =
      let i = none_step k (none_below k) (below key (key_at f s n k)) in
      let e = below_last k 0 in
      let z : 0 + k ≡ k = omega arith in
      let d : below_all key (keys_from f s n (suc k) 0) ≡ (below_all key (keys_from f s n k 0) && below key (key_at f s n k)) =
      e ∙ ap (λ (j : ℕ). below_all key (keys_from f s n k 0) && below key (key_at f s n j)) z in
      ((λ w. d ∙ i.0 w), (λ w. i.1 (sym d ∙ w)))

pub none_means_below : NoneMeansBelow
unfolding NoneMeansBelow
none_means_below nodes key s n h = none_below nodes s key n (ock_at nodes s n)

-- ---- a record's reading depends on its own bytes alone

module _ (f g : List ℕ) (s : Shape) (n : ℕ) (fits : ShapeFits s) (same : SameRecord f g s n) where
  u16_own : (i : ℕ) → i + 2 ≤ size_of s → u16_at f (place_of s n + i) ≡ u16_at g (place_of s n + i)
  u16_own i h = window_u16 f g (place_of s n) (place_of s n) (size_of s) same.bytes i h

  u32_own : (i : ℕ) → i + 4 ≤ size_of s → u32_at f (place_of s n + i) ≡ u32_at g (place_of s n + i)
  u32_own i h = sym (u32_part f (place_of s n) (size_of s) i h) ∙ ap (λ (r : List ℕ). u32_at r i) same.bytes ∙ u32_part g (place_of s n) (size_of s) i h

  count_own : ock_at f s n ≡ ock_at g s n
  count_own = u16_own 4 (omega (arith, size_low s fits))

  pub right_own : record_right f s n ≡ record_right g s n
  unfolding record_right rest_right
  right_own =
      let l = size_low s fits in
      let p : u32_at f (place_of s n) ≡ u32_at g (place_of s n) = simp add-zero at (u32_own 0 (omega (arith, l))) in
      let t = u16_own 6 (omega (arith, l)) in
      rw (same.there, p, count_own, t)

  -- entry i
  module _ (i : ℕ) (h : i < s.most) where
    entry_own : (a : ℕ) → key_place s n i + a ≡ place_of s n + (s.head + i * s.step + a)
    unfolding key_place
    entry_own a = omega arith

    entry_inside : s.head + i * s.step + s.step ≤ size_of s
    unfolding key_place
    entry_inside = omega (arith, entry_in s n i h)

    u32_in : (a : ℕ) → a + 4 ≤ s.step → u32_at f (key_place s n i + a) ≡ u32_at g (key_place s n i + a)
    u32_in a l = rw (entry_own a) (u32_own (s.head + i * s.step + a) (omega (arith, entry_inside)))

    key_own : key_at f s n i ≡ key_at g s n i
    key_own =
        let e : key_place s n i ≡ place_of s n + (s.head + i * s.step) = simp add-zero at (entry_own 0) in
        rw e (window_part f g (place_of s n) (place_of s n) (size_of s) same.bytes (s.head + i * s.step) s.width (omega (arith, entry_inside, fits.step_low)))

    punt_own : punt_at f s n i ≡ punt_at g s n i
    punt_own = u32_in s.width fits.step_low

  -- a node's first k entries
  punts_own : (k : ℕ) → k ≤ s.most → punts_right f s n k ≡ punts_right g s n k
  unfolding punts_right
  punts_own zero h = refl
  punts_own (suc k) h = rw (punts_own k (omega arith), punt_own k (omega arith))

  last_own : (key : List ℕ) (k : ℕ) → k ≤ s.most → last_punt f s key n k ≡ last_punt g s key n k
  unfolding last_punt
  last_own key zero h = refl
  last_own key (suc k) h = rw (last_own key k (omega arith), punt_own k (omega arith), key_own k (omega arith))

  pub node_own : node_right f s n ≡ node_right g s n
  unfolding node_right
  node_own =
      by_cases (record_right f s n)
      (λ e. let r = right_facts f s n e in rw (← count_own, ← right_own, e) (punts_own (ock_at f s n) r.count_high))
      (λ e. rw (← right_own, e))

  pub punt_for_own : (key : List ℕ) → record_right f s n ≡ true → punt_for f s key n ≡ punt_for g s key n
  punt_for_own key e = let r = right_facts f s n e in rw (← count_own) (last_own key (ock_at f s n) r.count_high)

  -- a leaf's entries
  module _ (l : s.width + 8 ≤ s.step) where
    entries_own : (k i : ℕ) → i + k ≤ s.most → entries_from f s n k i ≡ entries_from g s n k i
    unfolding entries_from
    entries_own zero i h = refl
    entries_own (suc k) i h =
        let j : i < s.most = omega arith in
        let w : word_at f s n i ≡ word_at g s n i = rw (add_assoc (key_place s n i) s.width 4) (u32_in i j (s.width + 4) (omega arith)) in
        let e : entry_at f s n i ≡ entry_at g s n i = rw (key_own i j, punt_own i j, w) in
        rw (e, entries_own k (i + 1) (omega arith))

    pub leaf_own : (key : List ℕ) → leaf_answer f s key n ≡ leaf_answer g s key n
    unfolding leaf_answer
    leaf_own key =
        by_cases (record_right f s n)
        (λ e. let r = right_facts f s n e in rw (← right_own, e, ← count_own, entries_own (ock_at f s n) 0 (omega (arith, r.count_high))))
        (λ e. rw (← right_own, e))

-- ---- the way down

module _ (nodes leaves nodes' leaves' : List ℕ) (kind : Kind) (t : Tree) (fits : TreeFits kind t) (key : List ℕ) where
  abbrev Along : List Met → Type 0
  Along ms = SameAlong nodes leaves nodes' leaves' t ms

  abbrev punt : ℕ → Option ℕ
  punt n = punt_for nodes t.nodes key n

  module _ (left n : ℕ)
      (known : (m : ℕ) → Along (way_of nodes t.nodes key left m) → descend nodes leaves t key left m ≡ descend nodes' leaves' t key left m)
      (same : SameRecord nodes nodes' t.nodes n) where
    way_broken : node_right nodes t.nodes n ≡ false → descend nodes leaves t key (suc left) n ≡ descend nodes' leaves' t key (suc left) n
    unfolding descend
    way_broken e = rw (← node_own nodes nodes' t.nodes n fits.nodes_fit same, e)

    opened : node_right nodes t.nodes n ≡ true → onward (λ m. descend nodes leaves t key left m) (leaf_answer leaves t.leaves key) (punt n)
        ≡ onward (λ m. descend nodes' leaves' t key left m) (leaf_answer leaves' t.leaves key) (punt n)
        → descend nodes leaves t key (suc left) n ≡ descend nodes' leaves' t key (suc left) n
    unfolding descend
    opened e d =
        rw (← node_own nodes nodes' t.nodes n fits.nodes_fit same, e, ← punt_for_own nodes nodes' t.nodes n fits.nodes_fit same key (node_record nodes t.nodes n e)) d

    -- the rest of the way, by the PUNT that the node gives
    on : (p : Option ℕ) → Along (met_by (λ m. way_of nodes t.nodes key left m) p)
        → onward (λ m. descend nodes leaves t key left m) (leaf_answer leaves t.leaves key) p
        ≡ onward (λ m. descend nodes' leaves' t key left m) (leaf_answer leaves' t.leaves key) p
    unfolding met_by onward SameAlong
    on None h = refl
    on (Some p) h =
        by_cases (is_node p) (λ y. rw y (known p (rw y at h)))
        (λ y. rw y (leaf_own leaves leaves' t.leaves (leaf_number p) fits.leaves_fit (rw y at h).0 fits.step_leaf key))

  rest_of : (left n : ℕ) (a : Bool) → node_right nodes t.nodes n ≡ a
      → ((m : ℕ) → Along (way_of nodes t.nodes key left m) → descend nodes leaves t key left m ≡ descend nodes' leaves' t key left m)
      → SameRecord nodes nodes' t.nodes n → Along (cond a (met_by (λ m. way_of nodes t.nodes key left m) (punt n)) [])
      → descend nodes leaves t key (suc left) n ≡ descend nodes' leaves' t key (suc left) n
  rest_of left n false e known same h = way_broken left n known same e
  rest_of left n true e known same h = opened left n known same e (on left n known same (punt n) h)

  no_node : (n : ℕ) → descend nodes leaves t key 0 n ≡ descend nodes' leaves' t key 0 n
  unfolding descend
  no_node n = refl

  same_answer : (left n : ℕ) → Along (way_of nodes t.nodes key left n) → descend nodes leaves t key left n ≡ descend nodes' leaves' t key left n
  unfolding way_of SameAlong
  same_answer zero n h = no_node n
  same_answer (suc left) n h = rest_of left n (node_right nodes t.nodes n) refl (same_answer left) h.0 h.1

-- ---- how much is on a way

record Few (left : ℕ) (ms : List Met) : Type 0 where
  nodes_few : nodes_among ms ≤ left
  leaves_few : length (leaves_among ms) ≤ 1

few_none : (left : ℕ) → Few left []
unfolding nodes_among leaves_among
few_none left = record { nodes_few = omega arith; leaves_few = omega arith }

few_leaf : (left n : ℕ) → Few left (Leaf n ∷ [])
unfolding nodes_among leaves_among
few_leaf left n = record { nodes_few = omega arith; leaves_few = omega arith }

few_node : (left n : ℕ) (ms : List Met) → Few left ms → Few (suc left) (Node n ∷ ms)
unfolding nodes_among leaves_among
few_node left n ms f = record { nodes_few = omega (arith, f.nodes_few); leaves_few = f.leaves_few }

few_either : (left : ℕ) (b : Bool) (xs ys : List Met) → Few left xs → Few left ys → Few left (cond b xs ys)
few_either left true xs ys f g = f
few_either left false xs ys f g = g

few_by : (left : ℕ) (node : ℕ → List Met) (p : Option ℕ) → ((m : ℕ) → Few left (node m)) → Few left (met_by node p)
unfolding met_by
few_by left node None known = few_none left
few_by left node (Some p) known = few_either left (is_node p) _ _ (known p) (few_leaf left (leaf_number p))

way_few : (nodes : List ℕ) (s : Shape) (key : List ℕ) (left n : ℕ) → Few left (way_of nodes s key left n)
unfolding way_of
way_few nodes s key zero n = few_none 0
way_few nodes s key (suc left) n =
    few_node left n _
    (few_either left (node_right nodes s n) _ []
    (few_by left (λ m. way_of nodes s key left m) (punt_for nodes s key n) (way_few nodes s key left))
    (few_none left))

pub reads_few : ReadsFew
unfolding ReadsFew search_tree
reads_few cnt nodes leaves key kind t e =
    let f = way_few nodes t.nodes key 16 t.root in
    (f.nodes_few, f.leaves_few, (λ nodes' leaves' same. same_answer nodes leaves nodes' leaves' kind t (part_fits cnt kind t e) key 16 t.root same))
