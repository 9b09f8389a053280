-- The pass, by what each step found: one law per `return` and per turn of the loop over a node's entries.
use Prim.Native.Nat.{ℕ, zero, suc, ◌+◌, ◌-◌, ◌<◌}
use native.Mathlib.Nat.{add-zero, add-suc}
use native.Mathlib.Numerals.{add-one}
use native.Mathlib.Omega.{arith}
use mathlib.Core.Path.{◌≡◌, refl, sym, ap, ◌∙◌}
use mathlib.Core.Bool.{Bool, true, false, ◌&&◌, cond, and-false}
use mathlib.Core.List.{List, [], ◌∷◌, ◌++◌}
use lib.Dec.{eqb}
use borrow.Author.Tests.{eqb-true}
use Rattle.std.proofs.Common.{Option, Ok, Err}
use Rattle.terms.specs.Key.{ascending}
use Rattle.index.specs.Layout.{ock_at, key_at, punt_at, keys_of}
use Rattle.index.specs.Rules.{record_there, record_right, punts_right, node_right}
use Rattle.index.specs.Inner.{child_of}
use Rattle.index.specs.Reading.{Met, Node as MetNode, Leaf as MetLeaf, TooDeep}
use Rattle.index.specs.declared.rules.Child.TheVariants.{Node, Leaf}
use Rattle.index.specs.declared.layout.Tree.{Tree}
use Rattle.index.proofs.Finding.{child_node, child_leaf}
use Rattle.terms.proofs.Order.{by_cases, never}
use Rattle.word.proofs.Tests.{and_left, and_iff}
use Rattle.index_check.specs.Walk.{behind, behind_first, walk}
use Rattle.index_check.specs.Sound.{begins, pointer_right, pointers_right}
use Rattle.index_check.specs.Passes.{Progress, stopped, node_sound, leaf_step, pass_one, pass, tree_with}
use Rattle.index_check.specs.declared.check.After.{After}
use Rattle.index_check.specs.declared.check.BadIndex.{BadIndex}

-- ---- the pointers of a node

module _ (nodes leaves : List ℕ) (t : Tree) (n : ℕ) where
  pub pointers_none : pointers_right nodes leaves t n 0 ≡ true
  unfolding pointers_right
  pointers_none = refl

  pub pointers_more : (i : ℕ) → pointers_right nodes leaves t n i ≡ true → pointer_right nodes leaves t n i ≡ true → pointers_right nodes leaves t n (i + 1) ≡ true
  unfolding pointers_right
  pointers_more i inv e = rw (add-one, inv, e)

  pointers_fail : (d i : ℕ) → pointer_right nodes leaves t n i ≡ false → pointers_right nodes leaves t n (suc i + d) ≡ false
  unfolding pointers_right
  pointers_fail zero i e = rw (add-zero, e, and-false)
  pointers_fail (suc d) i e = rw (add-suc, pointers_fail d i e)

  pointer_among : (i count : ℕ) → i < count → pointers_right nodes leaves t n count ≡ true → pointer_right nodes leaves t n i ≡ true
  pointer_among i count h e =
      let d : ℕ = count - suc i in
      let z : suc i + d ≡ count = omega arith in
      by_cases (pointer_right nodes leaves t n i) (λ y. y) (λ y. never e (rw z at (pointers_fail d i y)))

  -- no PUNT 0 among pointers that are right: no node has that number
  zero_wrong : (i : ℕ) → punt_at nodes t.nodes n i ≡ 0 → pointer_right nodes leaves t n i ≡ false
  unfolding pointer_right record_there
  zero_wrong i z = rw z

  pub pointers_punts : (k : ℕ) → pointers_right nodes leaves t n k ≡ true → punts_right nodes t.nodes n k ≡ true
  unfolding pointers_right punts_right
  pointers_punts zero e = refl
  pointers_punts (suc i) e =
      let q = (and_iff (pointers_right nodes leaves t n i) (pointer_right nodes leaves t n i)).0 e in
      by_cases (eqb (punt_at nodes t.nodes n i) 0) (λ y. never q.1 (zero_wrong i (eqb-true _ _ y)))
      (λ y. rw (pointers_punts i q.0, y))

-- ---- a pass

module _ (nodes leaves : List ℕ) (t : Tree) where
  pub pass_stopped : (ms : List Met) (e : BadIndex) → pass nodes leaves t ms (Err e) ≡ Err e
  unfolding pass
  pass_stopped [] e = refl
  pass_stopped (m ∷ ms) e = pass_stopped ms e

  pub pass_append : (xs ys : List Met) (w : Progress) → pass nodes leaves t (xs ++ ys) w ≡ pass nodes leaves t ys (pass nodes leaves t xs w)
  unfolding pass
  pass_append [] ys w = refl
  pass_append (x ∷ xs) ys (Ok w) = pass_append xs ys (pass_one nodes leaves t x w)
  pass_append (x ∷ xs) ys (Err e) = pass_append xs ys (Err e)

  pub sound_record : (n : ℕ) → node_sound nodes leaves t n ≡ true → record_right nodes t.nodes n ≡ true
  unfolding node_sound node_right
  sound_record n e = and_left _ _ (and_left _ _ (and_left _ _ e))

  -- ---- over a node

  module _ (left n : ℕ) (w : Option After) where
    pub over_none : left ≡ 0 → stopped ≡ pass nodes leaves t (walk nodes t.nodes left n) (Ok w)
    unfolding pass walk pass_one
    over_none h = rw h

    module _ (h : 0 < left) where
      over_step :
          pass nodes leaves t (walk nodes t.nodes left n) (Ok w)
          ≡ pass nodes leaves t
          (cond (record_right nodes t.nodes n) (behind_first (λ m. walk nodes t.nodes (left - 1) m) nodes t.nodes n (ock_at nodes t.nodes n)) [])
          (cond (node_sound nodes leaves t n) (Ok w) stopped)
      unfolding pass walk pass_one
      over_step =
          let e : left ≡ suc (left - 1) = omega arith in
          ap (λ (k : ℕ). pass nodes leaves t (walk nodes t.nodes k n) (Ok w)) e

      unsound : node_sound nodes leaves t n ≡ false → stopped ≡ pass nodes leaves t (walk nodes t.nodes left n) (Ok w)
      unsound e = sym (over_step ∙ rw e (pass_stopped _ _))

      sound : node_sound nodes leaves t n ≡ true
          → pass nodes leaves t (walk nodes t.nodes left n) (Ok w)
          ≡ pass nodes leaves t (behind_first (λ m. walk nodes t.nodes (left - 1) m) nodes t.nodes n (ock_at nodes t.nodes n)) (Ok w)
      sound e = over_step ∙ rw (sound_record n e, e)

      -- a record that breaks a rule
      pub over_broken : record_right nodes t.nodes n ≡ false → stopped ≡ pass nodes leaves t (walk nodes t.nodes left n) (Ok w)
      unfolding node_sound node_right
      over_broken q = unsound broken
        where
          broken : node_sound nodes leaves t n ≡ false
          broken = rw q

      -- keys that do not ascend
      pub over_unordered : ascending (keys_of nodes t.nodes n) ≡ false → stopped ≡ pass nodes leaves t (walk nodes t.nodes left n) (Ok w)
      unfolding node_sound
      over_unordered q = unsound broken
        where
          broken : node_sound nodes leaves t n ≡ false
          broken = rw (q, and-false)

      pointers : node_sound nodes leaves t n ≡ true → pointers_right nodes leaves t n (ock_at nodes t.nodes n) ≡ true
      unfolding node_sound
      pointers y = ((and_iff (node_right nodes t.nodes n && ascending (keys_of nodes t.nodes n)) (pointers_right nodes leaves t n (ock_at nodes t.nodes n))).0 y).1

      -- a pointer that is wrong
      pub over_wrong : (i : ℕ) → i < ock_at nodes t.nodes n → pointer_right nodes leaves t n i ≡ false → stopped ≡ pass nodes leaves t (walk nodes t.nodes left n) (Ok w)
      over_wrong i l q =
          by_cases (node_sound nodes leaves t n)
          (λ y. never (pointer_among nodes leaves t n i (ock_at nodes t.nodes n) l (pointers y)) q)
          unsound

      -- all entries done
      pub over_done : (at : Option After) (i : ℕ) → record_right nodes t.nodes n ≡ true → ascending (keys_of nodes t.nodes n) ≡ true → i ≡ ock_at nodes t.nodes n
          → pointers_right nodes leaves t n i ≡ true
          → Ok at ≡ pass nodes leaves t (behind_first (λ m. walk nodes t.nodes (left - 1) m) nodes t.nodes n i) (Ok w)
          → Ok at ≡ pass nodes leaves t (walk nodes t.nodes left n) (Ok w)
      unfolding node_sound node_right
      over_done at i r o z p inv = inv ∙ sym (sound whole ∙ rw (← z))
        where
          whole : node_sound nodes leaves t n ≡ true
          whole = rw (r, o, ← z, pointers_punts nodes leaves t n i p, p)

  -- ---- one entry

  module _ (from : ℕ → List Met) where
    pub none_behind : (n : ℕ) (w : Progress) → w ≡ pass nodes leaves t (behind_first from nodes t.nodes n 0) w
    unfolding behind_first pass
    none_behind n w = refl

    module _ (n i : ℕ) (w at next : Progress) (inv : at ≡ pass nodes leaves t (behind_first from nodes t.nodes n i) w)
        (step : next ≡ pass nodes leaves t (behind from (punt_at nodes t.nodes n i)) at) where
      pub more : next ≡ pass nodes leaves t (behind_first from nodes t.nodes n (i + 1)) w
      unfolding behind_first
      more =
          rw add-one
          (step ∙ ap (pass nodes leaves t (behind from (punt_at nodes t.nodes n i))) inv
          ∙ sym (pass_append (behind_first from nodes t.nodes n i) (behind from (punt_at nodes t.nodes n i)) w))

    -- stopped at an entry
    over_rest : (n : ℕ) (w : Progress) (e : BadIndex) (d i : ℕ) → Err e ≡ pass nodes leaves t (behind_first from nodes t.nodes n i) w
        → Err e ≡ pass nodes leaves t (behind_first from nodes t.nodes n (i + d)) w
    unfolding behind_first
    over_rest n w e zero i z = rw add-zero z
    over_rest n w e (suc d) i z =
        rw add-suc
        (sym (pass_append (behind_first from nodes t.nodes n (i + d)) (behind from (punt_at nodes t.nodes n (i + d))) w
        ∙ ap (pass nodes leaves t (behind from (punt_at nodes t.nodes n (i + d)))) (sym (over_rest n w e d i z))
        ∙ pass_stopped (behind from (punt_at nodes t.nodes n (i + d))) e))

  pub over_stopped : (left n i : ℕ) (w : Option After) (at : Progress) (e : BadIndex) → 0 < left → i < ock_at nodes t.nodes n
      → at ≡ pass nodes leaves t (behind_first (λ m. walk nodes t.nodes (left - 1) m) nodes t.nodes n i) (Ok w)
      → Err e ≡ pass nodes leaves t (behind (λ m. walk nodes t.nodes (left - 1) m) (punt_at nodes t.nodes n i)) at
      → Err e ≡ pass nodes leaves t (walk nodes t.nodes left n) (Ok w)
  over_stopped left n i w at e h l inv s =
      by_cases (node_sound nodes leaves t n)
      (λ y.
      let z : i + 1 + (ock_at nodes t.nodes n - (i + 1)) ≡ ock_at nodes t.nodes n = omega arith in
      let m = more (λ m. walk nodes t.nodes (left - 1) m) n i (Ok w) at (Err e) inv s in
      rw z at (over_rest (λ m. walk nodes t.nodes (left - 1) m) n (Ok w) e (ock_at nodes t.nodes n - (i + 1)) (i + 1) m) ∙ sym (sound left n w h y))
      (λ y. unsound left n w h y)

-- ---- one entry, by what its pointer is and whether that begins with its key

module _ (nodes leaves : List ℕ) (t : Tree) (n i punt m : ℕ) (key : List ℕ) (p : punt ≡ punt_at nodes t.nodes n i) (k : key ≡ key_at nodes t.nodes n i) where
  module _ (c : Node m ≡ child_of punt) where
    pub node_pointer : (b : Bool) → b ≡ begins key nodes t.nodes m → pointer_right nodes leaves t n i ≡ b
    unfolding pointer_right
    node_pointer b d = let q = child_node punt m (sym c) in rw (← p, q.0, d, q.1, k)

    pub node_pass : (from : ℕ → List Met) (w : Progress) → pass nodes leaves t (from m) w ≡ pass nodes leaves t (behind from (punt_at nodes t.nodes n i)) w
    node_pass from w = let q = child_node punt m (sym c) in rw (← p, q.0, q.1)

  module _ (c : Leaf m ≡ child_of punt) where
    pub leaf_pointer : (b : Bool) → b ≡ begins key leaves t.leaves m → pointer_right nodes leaves t n i ≡ b
    unfolding pointer_right
    leaf_pointer b d = let q = child_leaf punt m (sym c) in rw (← p, q.0, d, q.1, k)

    pub leaf_pass : (from : ℕ → List Met) (w : Option After) → leaf_step leaves t.leaves m w ≡ pass nodes leaves t (behind from (punt_at nodes t.nodes n i)) (Ok w)
    unfolding pass pass_one
    leaf_pass from w = let q = child_leaf punt m (sym c) in rw (← p, q.0, q.1)

-- ---- the root is of no account to a pass

module _ (nodes leaves : List ℕ) (t : Tree) where
  abbrev rootless : Tree
  rootless = tree_with t.nodes t.leaves

  pointers_rootless : (n k : ℕ) → pointers_right nodes leaves rootless n k ≡ pointers_right nodes leaves t n k
  unfolding pointers_right pointer_right
  pointers_rootless n zero = refl
  pointers_rootless n (suc k) = rw (pointers_rootless n k)

  one_rootless : (m : Met) (w : Option After) → pass_one nodes leaves rootless m w ≡ pass_one nodes leaves t m w
  unfolding pass_one node_sound
  one_rootless (MetNode n) w = rw (pointers_rootless n (ock_at nodes t.nodes n))
  one_rootless (MetLeaf n) w = refl
  one_rootless TooDeep w = refl

  pub pass_rootless : (ms : List Met) (w : Progress) → pass nodes leaves rootless ms w ≡ pass nodes leaves t ms w
  unfolding pass
  pass_rootless [] w = refl
  pass_rootless (m ∷ ms) (Ok w) = rw (one_rootless m w) (pass_rootless ms (pass_one nodes leaves t m w))
  pass_rootless (m ∷ ms) (Err e) = pass_rootless ms (Err e)
