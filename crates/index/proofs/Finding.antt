-- The lookup, by what each step found: one law per `return` and per turn of a loop.
use Prim.Native.Nat.{ℕ, zero, suc, ◌+◌, ◌-◌, ◌<◌}
use native.Mathlib.Numerals.{add-one}
use native.Mathlib.Omega.{arith}
use mathlib.Core.Path.{◌≡◌, refl, ap}
use mathlib.Core.Bool.{Bool, true, false, cond}
use mathlib.Core.List.{List}
use Rattle.std.proofs.Common.{Option, Some, None, Result, Ok, Err}
use Rattle.terms.specs.Key.{same, below}
use Rattle.terms.proofs.Order.{by_cases}
use Rattle.index.specs.Inner.{child_of, way_on, way_end}
use Rattle.index.specs.Layout.{key_at, punt_at, block_at, word_at}
use Rattle.index.specs.Rules.{node_right}
use Rattle.index.specs.Shape.{Shape}
use Rattle.index.specs.Lookup.{Found, at, entries_from, first_equal, leaf_answer, last_punt, punt_for, is_node, leaf_number, onward, descend}
use Rattle.index.specs.declared.layout.Tree.{Tree}
use Rattle.index.specs.declared.rules.Child.TheVariants.{Node, Leaf}
use Rattle.index.specs.declared.lookup.Refusal.{Refusal}
use Rattle.index.specs.declared.lookup.Refusal.TheVariants.{BadIndex, NoTerm}

-- ---- the first equal key of a leaf

module _ (f : List ℕ) (s : Shape) (key : List ℕ) (n count i : ℕ) where
  pub equal_done : count - i ≡ 0 → first_equal key (entries_from f s n (count - i) i) ≡ Err NoTerm
  unfolding first_equal entries_from
  equal_done z = rw z

  equal_step : i < count
      → first_equal key (entries_from f s n (count - i) i)
      ≡ cond (same key (key_at f s n i)) (at (block_at f s n i) (word_at f s n i)) (first_equal key (entries_from f s n (count - (i + 1)) (i + 1)))
  unfolding first_equal entries_from
  equal_step h = let e : count - i ≡ suc (count - (i + 1)) = omega arith in rw e

  pub equal_here : i < count → same key (key_at f s n i) ≡ true
      → first_equal key (entries_from f s n (count - i) i) ≡ at (block_at f s n i) (word_at f s n i)
  equal_here h q = rw (equal_step h, q)

  pub equal_more : i < count → same key (key_at f s n i) ≡ false
      → first_equal key (entries_from f s n (count - i) i) ≡ first_equal key (entries_from f s n (count - (i + 1)) (i + 1))
  equal_more h q = rw (equal_step h, q)

-- ---- the last key not above

module _ (f : List ℕ) (s : Shape) (key : List ℕ) (n : ℕ) where
  pub last_none : (i : ℕ) → i ≡ 0 → last_punt f s key n i ≡ None
  unfolding last_punt
  last_none i z = rw z

  pub last_here : (i : ℕ) → below key (key_at f s n i) ≡ false → last_punt f s key n (i + 1) ≡ Some (punt_at f s n i)
  unfolding last_punt
  last_here i q = rw (add-one, q)

  pub last_more : (i : ℕ) → below key (key_at f s n i) ≡ true → last_punt f s key n (i + 1) ≡ last_punt f s key n i
  unfolding last_punt
  last_more i q = rw (add-one, q)

-- ---- the way down

module _ (f : List ℕ) (s : Shape) (key : List ℕ) (left n : ℕ) where
  pub way_none : left ≡ 0 → way_end f s key left n ≡ Err BadIndex
  unfolding way_end
  way_none z = rw z

  way_step : 0 < left → way_end f s key left n ≡ cond (node_right f s n) (way_on (λ m. way_end f s key (left - 1) m) (punt_for f s key n)) (Err BadIndex)
  unfolding way_end
  way_step h = let e : left ≡ suc (left - 1) = omega arith in ap (λ (k : ℕ). way_end f s key k n) e

  pub way_broken : 0 < left → node_right f s n ≡ false → way_end f s key left n ≡ Err BadIndex
  way_broken h q = rw (way_step h, q)

  module _ (h : 0 < left) (q : node_right f s n ≡ true) where
    pub way_absent : punt_for f s key n ≡ None → way_end f s key left n ≡ Err NoTerm
    unfolding way_on
    way_absent p = rw (way_step h, q, p)

    module _ (punt : ℕ) (p : punt_for f s key n ≡ Some punt) where
      pub way_leaf : is_node punt ≡ false → way_end f s key left n ≡ Ok (leaf_number punt)
      unfolding way_on
      way_leaf y = rw (way_step h, q, p, y)

      pub way_node : is_node punt ≡ true → way_end f s key left n ≡ way_end f s key (left - 1) punt
      unfolding way_on
      way_node y = rw (way_step h, q, p, y)

-- what a PUNT points to
pub child_node : (punt next : ℕ) → child_of punt ≡ Node next → (is_node punt ≡ true) × (punt ≡ next)
child_node punt next = cases (is_node punt)
  where
    cases : (b : Bool) → cond b (Node punt) (Leaf (leaf_number punt)) ≡ Node next → (b ≡ true) × (punt ≡ next)
    cases true e = (refl, cc)
    cases false e = let w : ◌≡◌ {A = ℕ} 0 1 = cc in absurd (omega arith)

pub child_leaf : (punt leaf : ℕ) → child_of punt ≡ Leaf leaf → (is_node punt ≡ false) × (leaf_number punt ≡ leaf)
child_leaf punt leaf = cases (is_node punt)
  where
    cases : (b : Bool) → cond b (Node punt) (Leaf (leaf_number punt)) ≡ Leaf leaf → (b ≡ false) × (leaf_number punt ≡ leaf)
    cases true e = let w : ◌≡◌ {A = ℕ} 0 1 = cc in absurd (omega arith)
    cases false e = (refl, cc)

-- ---- what the way answers

-- the leaf that it leads to answers; without one, why there is none
unfoldable pub end_answer : List ℕ → Shape → List ℕ → Result ℕ Refusal → Found
end_answer leaves s key (Ok n) = leaf_answer leaves s key n
end_answer leaves s key (Err refusal) = Err refusal

module _ (nodes leaves : List ℕ) (t : Tree) (key : List ℕ) where
  answer_on : (node : ℕ → Result ℕ Refusal) (down : ℕ → Found) (punt : Option ℕ) → ((m : ℕ) → down m ≡ end_answer leaves t.leaves key (node m))
      → onward down (leaf_answer leaves t.leaves key) punt ≡ end_answer leaves t.leaves key (way_on node punt)
  unfolding way_on onward end_answer
  answer_on node down None known = refl
  answer_on node down (Some punt) known = by_cases (is_node punt) (λ y. rw y (known punt)) (λ y. rw y)

  pub down_ends : (left n : ℕ) → descend nodes leaves t key left n ≡ end_answer leaves t.leaves key (way_end nodes t.nodes key left n)
  unfolding descend way_end end_answer
  down_ends zero n = refl
  down_ends (suc left) n =
      by_cases (node_right nodes t.nodes n)
      (λ e. rw e (answer_on (λ m. way_end nodes t.nodes key left m) (λ m. descend nodes leaves t key left m) (punt_for nodes t.nodes key n) (down_ends left)))
      (λ e. rw e)
