-- How many nodes are met before a record that cannot be read (specs/Theorems, `MeetsFew`). A node that can has an entry, so it leads to a leaf or to one that cannot;
-- and between two leaves a way goes up and down over at most 16 nodes.
use Prim.Native.Nat.{ℕ, zero, suc, ◌+◌, ◌*◌, ◌≤◌}
use native.Mathlib.Nat.{mul-add, suc-mul}
use native.Mathlib.Omega.{arith}
use mathlib.Core.Path.{◌≡◌, refl, sym, ap, ◌∙◌}
use mathlib.Core.Bool.{Bool, true, false, ◌&&◌, cond}
use mathlib.Core.List.{List, [], ◌∷◌, ◌++◌}
use lib.ListN.{length, length-append}
use Rattle.index.specs.Layout.{ock_at, punt_at}
use Rattle.index.specs.Rules.{record_right}
use Rattle.index.specs.Lookup.{is_node, leaf_number}
use Rattle.index.specs.Reading.{Met, Node, Leaf, TooDeep, nodes_among, leaves_among}
use Rattle.index.specs.declared.layout.Tree.{Tree}
use Rattle.index.proofs.Shapes.{right_facts}
use Rattle.word.proofs.Tests.{and_iff, false_true}
use Rattle.index_check.specs.Walk.{behind, behind_first, walk}
use Rattle.index_check.specs.Sound.{all}
use Rattle.index_check.specs.Theorems.{readable, unbroken, MeetsFew}
use Rattle.index_check.proofs.Held.{leaves_append, all_append}

-- ---- counting

abbrev leaf_count : List Met → ℕ
leaf_count ms = length (leaves_among ms)

nodes_append : (xs ys : List Met) → nodes_among (xs ++ ys) ≡ nodes_among xs + nodes_among ys
unfolding nodes_among
nodes_append [] ys = omega arith
nodes_append (Node n ∷ xs) ys = let e = nodes_append xs ys in omega (arith, e)
nodes_append (Leaf n ∷ xs) ys = nodes_append xs ys
nodes_append (TooDeep ∷ xs) ys = nodes_append xs ys

leaf_append : (xs ys : List Met) → leaf_count (xs ++ ys) ≡ leaf_count xs + leaf_count ys
leaf_append xs ys = ap length (leaves_append xs ys) ∙ length-append (leaves_among xs) (leaves_among ys)

module _ (p : Met → Bool) where
  unbroken_append : (xs ys : List Met) → unbroken p (xs ++ ys) ≡ cond (all p xs) (xs ++ unbroken p ys) (unbroken p xs)
  unfolding unbroken all
  unbroken_append [] ys = refl
  unbroken_append (x ∷ xs) ys = rw (unbroken_append xs ys) (pick (p x) (all p xs))
    where
      pick : (a b : Bool)
          → cond a (x ∷ cond b (xs ++ unbroken p ys) (unbroken p xs)) [] ≡ cond (a && b) (x ∷ (xs ++ unbroken p ys)) (cond a (x ∷ unbroken p xs) [])
      pick true true = refl
      pick true false = refl
      pick false b = refl

-- ---- few nodes for each leaf

-- of what is met with so many nodes on a way: up to the first broken rule, and where none breaks
record FewMet (p : Met → Bool) (left : ℕ) (ms : List Met) : Type 0 where
  front : nodes_among (unbroken p ms) ≤ left * (leaf_count (unbroken p ms) + 1)
  whole : all p ms ≡ true → nodes_among ms ≤ left * leaf_count ms

module _ (p : Met → Bool) (left : ℕ) where
  few_none : FewMet p left []
  unfolding unbroken nodes_among leaves_among all
  few_none = record { front = omega arith; whole = λ e. omega arith }

  assoc : (a b : ℕ) → a + b + 1 ≡ a + (b + 1)
  assoc a b = omega arith

  few_append : (xs ys : List Met) → FewMet p left xs → FewMet p left ys → FewMet p left (xs ++ ys)
  few_append xs ys f g = record { front = split (all p xs) refl; whole = both }
    where
      split : (b : Bool) → all p xs ≡ b → nodes_among (unbroken p (xs ++ ys)) ≤ left * (leaf_count (unbroken p (xs ++ ys)) + 1)
      split true e =
          let n = nodes_append xs (unbroken p ys) in
          let l = leaf_append xs (unbroken p ys) in
          rw (unbroken_append p xs ys, e, l)
          (omega (arith, n, f.whole e, g.front, mul-add left (leaf_count xs) (leaf_count (unbroken p ys) + 1), ap (λ (m : ℕ). left * m) (assoc (leaf_count xs) (leaf_count (unbroken p ys)))))
      split false e = rw (unbroken_append p xs ys, e) f.front

      both : all p (xs ++ ys) ≡ true → nodes_among (xs ++ ys) ≤ left * leaf_count (xs ++ ys)
      both e =
          let q = all_append p xs ys e in
          rw (nodes_append xs ys, leaf_append xs ys) (omega (arith, f.whole q.0, g.whole q.1, mul-add left (leaf_count xs) (leaf_count ys)))

  few_leaf : (n : ℕ) → FewMet p left (Leaf n ∷ [])
  unfolding unbroken nodes_among leaves_among all
  few_leaf n = record { front = pick (p (Leaf n)); whole = λ e. omega arith }
    where
      pick : (b : Bool) → nodes_among (cond b (Leaf n ∷ []) []) ≤ left * (leaf_count (cond b (Leaf n ∷ []) []) + 1)
      pick true = omega arith
      pick false = omega arith

module _ (nodes leaves : List ℕ) (t : Tree) where
  abbrev keeps : Met → Bool
  keeps = readable nodes leaves t

  -- behind the first k entries of a node, at least one leaf where none breaks
  module _ (left : ℕ) (from : ℕ → List Met) (known : (m : ℕ) → FewMet keeps left (from m)) (some : (m : ℕ) → all keeps (from m) ≡ true → 1 ≤ leaf_count (from m)) where
    few_behind : (punt : ℕ) (b : Bool) → is_node punt ≡ b → FewMet keeps left (behind from punt)
    few_behind punt true e = rw e (known punt)
    few_behind punt false e = rw e (few_leaf keeps left (leaf_number punt))

    some_behind : (punt : ℕ) (b : Bool) → is_node punt ≡ b → all keeps (behind from punt) ≡ true → 1 ≤ leaf_count (behind from punt)
    unfolding leaves_among
    some_behind punt true e = rw e (some punt)
    some_behind punt false e = rw e (λ a. omega arith)

    few_first : (n k : ℕ) → FewMet keeps left (behind_first from nodes t.nodes n k)
    unfolding behind_first
    few_first n zero = few_none keeps left
    few_first n (suc i) =
        few_append keeps left (behind_first from nodes t.nodes n i) (behind from (punt_at nodes t.nodes n i)) (few_first n i)
        (few_behind (punt_at nodes t.nodes n i) (is_node (punt_at nodes t.nodes n i)) refl)

    some_first : (n k : ℕ) → 1 ≤ k → all keeps (behind_first from nodes t.nodes n k) ≡ true → 1 ≤ leaf_count (behind_first from nodes t.nodes n k)
    unfolding behind_first
    some_first n zero h a = absurd (omega arith)
    some_first n (suc i) h a =
        let q = all_append keeps (behind_first from nodes t.nodes n i) (behind from (punt_at nodes t.nodes n i)) a in
        let l = leaf_append (behind_first from nodes t.nodes n i) (behind from (punt_at nodes t.nodes n i)) in
        omega (arith, l, some_behind (punt_at nodes t.nodes n i) (is_node (punt_at nodes t.nodes n i)) refl q.1)

    -- a node and what is behind it
    some_node : (n : ℕ) (b : Bool) → record_right nodes t.nodes n ≡ b
        → all keeps (Node n ∷ cond b (behind_first from nodes t.nodes n (ock_at nodes t.nodes n)) []) ≡ true
        → 1 ≤ leaf_count (Node n ∷ cond b (behind_first from nodes t.nodes n (ock_at nodes t.nodes n)) [])
    unfolding all leaves_among
    some_node n true e a =
        some_first n (ock_at nodes t.nodes n) (right_facts nodes t.nodes n e).count_low ((and_iff (record_right nodes t.nodes n) (all keeps (behind_first from nodes t.nodes n (ock_at nodes t.nodes n)))).0 a).1
    some_node n false e a = absurd (false_true (sym e ∙ ((and_iff (record_right nodes t.nodes n) true).0 a).0))

    few_node : (n : ℕ) (b : Bool) → record_right nodes t.nodes n ≡ b
        → FewMet keeps (suc left) (Node n ∷ cond b (behind_first from nodes t.nodes n (ock_at nodes t.nodes n)) [])
    unfolding unbroken nodes_among leaves_among all
    few_node n false e = record { front = rw e (omega arith); whole = λ a. absurd (false_true (sym e ∙ ((and_iff (record_right nodes t.nodes n) true).0 a).0)) }
    few_node n true e =
        let ms : List Met = behind_first from nodes t.nodes n (ock_at nodes t.nodes n) in
        let f = few_first n (ock_at nodes t.nodes n) in
        record {
          front = rw e (omega (arith, f.front, suc-mul left (leaf_count (unbroken keeps ms) + 1)));
          whole = λ a.
              let q = (and_iff (record_right nodes t.nodes n) (all keeps ms)).0 a in
              omega (arith, f.whole q.1, some_first n (ock_at nodes t.nodes n) (right_facts nodes t.nodes n e).count_low q.1, suc-mul left (leaf_count ms));
        }

  too_deep : (n : ℕ) → FewMet keeps 0 (TooDeep ∷ [])
  unfolding unbroken nodes_among leaves_among all
  too_deep n = record { front = omega arith; whole = λ a. absurd (false_true a) }

  met_few : (left n : ℕ) → FewMet keeps left (walk nodes t.nodes left n) × (all keeps (walk nodes t.nodes left n) ≡ true → 1 ≤ leaf_count (walk nodes t.nodes left n))
  unfolding walk all
  met_few zero n = (too_deep n, (λ a. absurd (false_true a)))
  met_few (suc left) n =
      let from : ℕ → List Met = λ m. walk nodes t.nodes left m in
      let known : (m : ℕ) → FewMet keeps left (from m) = λ m. (met_few left m).0 in
      let some : (m : ℕ) → all keeps (from m) ≡ true → 1 ≤ leaf_count (from m) = λ m. (met_few left m).1 in
      (few_node left from known some n (record_right nodes t.nodes n) refl, some_node left from known some n (record_right nodes t.nodes n) refl)

pub meets_few : MeetsFew
unfolding MeetsFew
meets_few nodes leaves t = (met_few nodes leaves t 16 t.root).0.front
