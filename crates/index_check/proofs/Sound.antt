-- The check in one pass is the check sentence by sentence: the walk that remembers the last leaf ends well exactly if what is met is sound.
-- Besides: strict ascent along the leaves makes a leaf met twice impossible.
use Prim.Native.Nat.{ℕ, zero, suc, ◌+◌, ◌-◌}
use native.Mathlib.Nat.{add-zero}
use native.Mathlib.Omega.{arith}
use mathlib.Core.Path.{◌≡◌, refl, sym, ap, ◌∙◌}
use mathlib.Core.Bool.{Bool, true, false, not, ◌&&◌, cond, and-false, and_assoc}
use mathlib.Core.List.{List, [], ◌∷◌, ◌++◌}
use lib.Dec.{eqb}
use borrow.Author.Tests.{ne_eqb}
use Rattle.std.proofs.Common.{Option, Some, None, Ok}
use Rattle.word.specs.Overwrite.{part}
use Rattle.terms.specs.Key.{below, ascending, ascending_after}
use Rattle.index.specs.Layout.{ock_at, key_at, ps_at, keys_from, keys_of}
use Rattle.index.specs.Rules.{record_right, node_right}
use Rattle.index.specs.Reading.{Met, Node, Leaf, TooDeep, leaves_among}
use Rattle.index.specs.Shape.{Shape}
use Rattle.index.specs.declared.layout.Tree.{Tree}
use Rattle.index.proofs.Shapes.{right_facts}
use Rattle.terms.proofs.Order.{by_cases, never, below_irrefl, above, above_right, ascent_above, last_of, ascent_append}
use Rattle.word.proofs.Tests.{and_iff, false_true}
use Rattle.index_check.specs.Walk.{keys_along}
use Rattle.index_check.specs.Sound.{all, keeps_rules, node_ascends, points_to_first, pointers_right, not_in, none_twice, successors_after, successors_right, met_sound}
use Rattle.index_check.specs.Theorems.{readable}
use Rattle.index_check.specs.Passes.{Progress, stopped, node_sound, last_place, follows, leaf_sound, leaf_step, ended, pass_one, pass}
use Rattle.index_check.specs.declared.check.After.{After}
use Rattle.index_check.proofs.Passing.{pass_stopped, sound_record}

-- ---- the keys of a record: the first, and the last

abbrev last_key : List ℕ → Shape → ℕ → List ℕ
last_key f s n = key_at f s n (ock_at f s n - 1)

module _ (f : List ℕ) (s : Shape) (n : ℕ) where
  last_from : (k i : ℕ) → last_of (key_at f s n i) (keys_from f s n k (i + 1)) ≡ key_at f s n (i + k)
  unfolding last_of keys_from
  last_from zero i = rw add-zero
  last_from (suc k) i =
      let e : i + 1 + k ≡ i + suc k = omega arith in
      last_from k (i + 1) ∙ ap (key_at f s n) e

  cons_from : (k : ℕ) → keys_from f s n (suc k) 0 ≡ key_at f s n 0 ∷ keys_from f s n k 1
  unfolding keys_from
  cons_from k = refl

  module _ (e : record_right f s n ≡ true) where
    pub keys_cons : keys_of f s n ≡ key_at f s n 0 ∷ keys_from f s n (ock_at f s n - 1) 1
    keys_cons =
        let r = right_facts f s n e in
        let z : ock_at f s n ≡ suc (ock_at f s n - 1) = omega arith in
        ap (λ (c : ℕ). keys_from f s n c 0) z ∙ cons_from (ock_at f s n - 1)

    keys_last : last_of (key_at f s n 0) (keys_from f s n (ock_at f s n - 1) 1) ≡ last_key f s n
    keys_last =
        let z : 0 + (ock_at f s n - 1) ≡ ock_at f s n - 1 = omega arith in
        last_from (ock_at f s n - 1) 0 ∙ ap (key_at f s n) z

    ascending_is : ascending (keys_of f s n) ≡ ascending_after (key_at f s n 0) (keys_from f s n (ock_at f s n - 1) 1)
    unfolding ascending
    ascending_is = ap ascending keys_cons

    -- keys that follow a leaf's
    pub first_then : (ks : List (List ℕ)) → ascending (keys_of f s n ++ ks) ≡ (ascending (keys_of f s n) && ascending_after (last_key f s n) ks)
    unfolding ascending
    first_then ks =
        ap (λ (l : List (List ℕ)). ascending (l ++ ks)) keys_cons
        ∙ ascent_append (key_at f s n 0) (keys_from f s n (ock_at f s n - 1) 1) ks
        ∙ rw (keys_last, ascending_is)

    pub after_then : (x : List ℕ) (ks : List (List ℕ))
        → ascending_after x (keys_of f s n ++ ks) ≡ ((below x (key_at f s n 0) && ascending (keys_of f s n)) && ascending_after (last_key f s n) ks)
    unfolding ascending_after
    after_then x ks =
        ap (λ (l : List (List ℕ)). ascending_after x (l ++ ks)) keys_cons
        ∙ ap (λ (b : Bool). below x (key_at f s n 0) && b)
        (ascent_append (key_at f s n 0) (keys_from f s n (ock_at f s n - 1) 1) ks ∙ rw (keys_last, ascending_is))
        ∙ sym (and_assoc (below x (key_at f s n 0)) _ _)

-- ---- the sentences of one record together

module _ (nodes leaves : List ℕ) (t : Tree) where
  abbrev pub keeps : Met → Bool
  keeps (Node n) = node_sound nodes leaves t n
  keeps (Leaf n) = record_right leaves t.leaves n
  keeps TooDeep = false

  shuffle : (a b c x y z : Bool) → (((a && x) && (b && y)) && (c && z)) ≡ (((a && b) && c) && ((x && y) && z))
  shuffle true true true x y z = refl
  shuffle true true false x y z = simp and-false
  shuffle true false c x y z = simp and-false
  shuffle false b c x y z = refl

  pub keeps_all : (ms : List Met)
      → ((all (keeps_rules nodes leaves t) ms && all (node_ascends nodes leaves t) ms) && all (points_to_first nodes leaves t) ms) ≡ all keeps ms
  unfolding all node_sound
  keeps_all [] = refl
  keeps_all (Node n ∷ ms) =
      shuffle (node_right nodes t.nodes n) (ascending (keys_of nodes t.nodes n)) (pointers_right nodes leaves t n (ock_at nodes t.nodes n))
      (all (keeps_rules nodes leaves t) ms) (all (node_ascends nodes leaves t) ms) (all (points_to_first nodes leaves t) ms)
      ∙ ap (λ (b : Bool). keeps (Node n) && b) (keeps_all ms)
  keeps_all (Leaf n ∷ ms) =
      shuffle (record_right leaves t.leaves n) true true (all (keeps_rules nodes leaves t) ms) (all (node_ascends nodes leaves t) ms) (all (points_to_first nodes leaves t) ms) ∙ rw (keeps_all ms) (tidy (record_right leaves t.leaves n) (all keeps ms))
    where
      tidy : (a b : Bool) → (((a && true) && true) && b) ≡ (a && b)
      tidy true b = refl
      tidy false b = refl
  keeps_all (TooDeep ∷ ms) = refl

  keeps_readable : (ms : List Met) → all keeps ms ≡ true → all (readable nodes leaves t) ms ≡ true
  unfolding all
  keeps_readable [] a = refl
  keeps_readable (Node n ∷ ms) a =
      let q = (and_iff (node_sound nodes leaves t n) (all keeps ms)).0 a in
      (and_iff _ _).1 (sound_record nodes leaves t n q.0, keeps_readable ms q.1)
  keeps_readable (Leaf n ∷ ms) a =
      let q = (and_iff (record_right leaves t.leaves n) (all keeps ms)).0 a in
      (and_iff _ _).1 (q.0, keeps_readable ms q.1)
  keeps_readable (TooDeep ∷ ms) a = absurd (false_true a)

  -- ---- the pass

  gate : (ms : List Met) (b : Bool) (w : Progress)
      → ended (pass nodes leaves t ms (cond b w stopped)) ≡ (b && ended (pass nodes leaves t ms w))
  unfolding ended
  gate ms true w = refl
  gate ms false w = ap ended (pass_stopped nodes leaves t ms _)

  -- the keys, and the successors, that may follow where the walk is
  abbrev keys_after : Option After → List (List ℕ) → Bool
  keys_after None ks = ascending ks
  keys_after (Some a) ks = ascending_after (part leaves a.key t.leaves.width) ks

  unfoldable pub next_right : ℕ → List ℕ → Bool
  next_right next [] = eqb next 0
  next_right next (n ∷ ns) = eqb next n && successors_after leaves t.leaves n ns

  next_right_lem : (n : ℕ) (ns : List ℕ) → next_right (ps_at leaves t.leaves n) ns ≡ successors_after leaves t.leaves n ns
  unfolding next_right successors_after
  next_right_lem n [] = refl
  next_right_lem n (m ∷ ns) = refl

  abbrev successors : Option After → List ℕ → Bool
  successors None ns = successors_right leaves t.leaves ns
  successors (Some a) ns = next_right a.next ns

  first_case : (a l k s : Bool) → (((true && a) && true) && (l && (k && s))) ≡ ((true && l) && ((a && k) && s))
  first_case true l k s = refl
  first_case false l k s = simp and-false

  next_case : (a b e l k s : Bool) → (((true && a) && (e && b)) && (l && (k && s))) ≡ ((true && l) && (((b && a) && k) && (e && s)))
  next_case true true true l k s = refl
  next_case true true false l k s = simp and-false
  next_case true false e l k s = simp and-false
  next_case false b e l k s = simp and-false

  -- over one leaf, where the rest is known to be judged right from there
  leaf_before : (n : ℕ) (ms : List Met) (r : Bool) → record_right leaves t.leaves n ≡ true
      → r ≡ (all keeps ms && (ascending_after (last_key leaves t.leaves n) (keys_along leaves t.leaves (leaves_among ms)) && successors_after leaves t.leaves n (leaves_among ms)))
      → (leaf_sound leaves t.leaves None n && r)
      ≡ ((record_right leaves t.leaves n && all keeps ms)
      && (ascending (keys_of leaves t.leaves n ++ keys_along leaves t.leaves (leaves_among ms)) && successors_after leaves t.leaves n (leaves_among ms)))
  unfolding leaf_sound follows
  leaf_before n ms r e p = rw (p, first_then leaves t.leaves n e, e)
      (first_case (ascending (keys_of leaves t.leaves n)) (all keeps ms)
      (ascending_after (last_key leaves t.leaves n) (keys_along leaves t.leaves (leaves_among ms))) (successors_after leaves t.leaves n (leaves_among ms)))

  leaf_after : (a : After) (n : ℕ) (ms : List Met) (r : Bool) → record_right leaves t.leaves n ≡ true
      → r ≡ (all keeps ms && (ascending_after (last_key leaves t.leaves n) (keys_along leaves t.leaves (leaves_among ms)) && successors_after leaves t.leaves n (leaves_among ms)))
      → (leaf_sound leaves t.leaves (Some a) n && r)
      ≡ ((record_right leaves t.leaves n && all keeps ms)
      && (ascending_after (part leaves a.key t.leaves.width) (keys_of leaves t.leaves n ++ keys_along leaves t.leaves (leaves_among ms))
      && (eqb a.next n && successors_after leaves t.leaves n (leaves_among ms))))
  unfolding leaf_sound follows
  leaf_after a n ms r e p = rw (p, after_then leaves t.leaves n e, e)
      (next_case (ascending (keys_of leaves t.leaves n)) (below (part leaves a.key t.leaves.width) (key_at leaves t.leaves n 0)) (eqb a.next n)
      (all keeps ms) (ascending_after (last_key leaves t.leaves n) (keys_along leaves t.leaves (leaves_among ms)))
      (successors_after leaves t.leaves n (leaves_among ms)))

  leaf_broken : (w : Option After) (n : ℕ) (r x y : Bool) → record_right leaves t.leaves n ≡ false
      → (leaf_sound leaves t.leaves w n && r) ≡ ((record_right leaves t.leaves n && x) && y)
  unfolding leaf_sound
  leaf_broken w n r x y e = rw e

  abbrev after : ℕ → Option After
  after n = Some (record { key = last_place leaves t.leaves n; next = ps_at leaves t.leaves n })

  over_leaf : (w : Option After) (n : ℕ) (ms : List Met) (r : Bool)
      → r ≡ (all keeps ms && (keys_after (after n) (keys_along leaves t.leaves (leaves_among ms)) && successors (after n) (leaves_among ms)))
      → (leaf_sound leaves t.leaves w n && r)
      ≡ ((record_right leaves t.leaves n && all keeps ms) && (keys_after w (keys_along leaves t.leaves (n ∷ leaves_among ms)) && successors w (n ∷ leaves_among ms)))
  unfolding keys_along successors_right next_right
  over_leaf None n ms r p =
      by_cases (record_right leaves t.leaves n) (λ e. leaf_before n ms r e (rw (next_right_lem n (leaves_among ms)) at p)) (λ e. leaf_broken None n r _ _ e)
  over_leaf (Some a) n ms r p =
      by_cases (record_right leaves t.leaves n) (λ e. leaf_after a n ms r e (rw (next_right_lem n (leaves_among ms)) at p))
      (λ e. leaf_broken (Some a) n r _ _ e)

  pub pass_is : (ms : List Met) (w : Option After)
      → ended (pass nodes leaves t ms (Ok w))
      ≡ (all keeps ms && (keys_after w (keys_along leaves t.leaves (leaves_among ms)) && successors w (leaves_among ms)))
  unfolding pass pass_one leaf_step all leaves_among ended keys_along successors_right next_right ascending ascending_after
  pass_is [] None = refl
  pass_is [] (Some a) = refl
  pass_is (Node n ∷ ms) w =
      gate ms (node_sound nodes leaves t n) (Ok w) ∙ ap (λ (b : Bool). node_sound nodes leaves t n && b) (pass_is ms w) ∙ sym (and_assoc (node_sound nodes leaves t n) _ _)
  pass_is (Leaf n ∷ ms) w = gate ms (leaf_sound leaves t.leaves w n) (Ok (after n)) ∙ over_leaf w n ms _ (pass_is ms (after n))
  pass_is (TooDeep ∷ ms) w = ap ended (pass_stopped nodes leaves t ms _)

  -- ---- no leaf twice

  pub not_among : (n : ℕ) (ms : List Met) → all (readable nodes leaves t) ms ≡ true → above (key_at leaves t.leaves n 0) (keys_along leaves t.leaves (leaves_among ms)) ≡ true
      → not_in n (leaves_among ms) ≡ true
  unfolding all leaves_among not_in keys_along above
  not_among n [] a k = refl
  not_among n (Node m ∷ ms) a k = let q = (and_iff (record_right nodes t.nodes m) (all (readable nodes leaves t) ms)).0 a in not_among n ms q.1 k
  not_among n (TooDeep ∷ ms) a k = absurd (false_true a)
  not_among n (Leaf m ∷ ms) a k =
      let q = (and_iff (record_right leaves t.leaves m) (all (readable nodes leaves t) ms)).0 a in
      let rest : not_in n (leaves_among ms) ≡ true = not_among n ms q.1 (above_right (key_at leaves t.leaves n 0) (keys_of leaves t.leaves m) (keys_along leaves t.leaves (leaves_among ms)) k) in
      let other : not (eqb n m) ≡ true =
      differ n m (keys_from leaves t.leaves m (ock_at leaves t.leaves m - 1) 1) (keys_along leaves t.leaves (leaves_among ms)) (rw (keys_cons leaves t.leaves m q.0) at k) in
      (and_iff _ _).1 (other, rest)
    where
      differ : (n m : ℕ) (ks ls : List (List ℕ)) → above (key_at leaves t.leaves n 0) ((key_at leaves t.leaves m 0 ∷ ks) ++ ls) ≡ true → not (eqb n m) ≡ true
      differ n m ks ls k =
          let f = (and_iff (below (key_at leaves t.leaves n 0) (key_at leaves t.leaves m 0)) (above (key_at leaves t.leaves n 0) (ks ++ ls))).0 k in
          rw (ne_eqb n m (λ e. never (rw e at f.0) (below_irrefl (key_at leaves t.leaves m 0))))

  ascent_first : (n : ℕ) (ks ls : List (List ℕ)) → ascending ((key_at leaves t.leaves n 0 ∷ ks) ++ ls) ≡ true → above (key_at leaves t.leaves n 0) ls ≡ true
  unfolding ascending
  ascent_first n ks ls e = above_right (key_at leaves t.leaves n 0) ks ls (ascent_above (key_at leaves t.leaves n 0) (ks ++ ls) e)

  ascent_rest : (n : ℕ) (ks : List (List ℕ)) → record_right leaves t.leaves n ≡ true → ascending (keys_of leaves t.leaves n ++ ks) ≡ true → ascending ks ≡ true
  unfolding ascending ascending_after
  ascent_rest n ks r e =
      let f = (and_iff (ascending (keys_of leaves t.leaves n)) (ascending_after (last_key leaves t.leaves n) ks)).0 (sym (first_then leaves t.leaves n r ks) ∙ e) in
      tail ks f.1
    where
      tail : (ks : List (List ℕ)) → ascending_after (last_key leaves t.leaves n) ks ≡ true → ascending ks ≡ true
      tail [] e = refl
      tail (k ∷ ks) e = let f = (and_iff (below (last_key leaves t.leaves n) k) (ascending_after k ks)).0 e in f.1

  pub ascent_once : (ms : List Met) → all (readable nodes leaves t) ms ≡ true → ascending (keys_along leaves t.leaves (leaves_among ms)) ≡ true → none_twice (leaves_among ms) ≡ true
  unfolding all leaves_among none_twice keys_along
  ascent_once [] a k = refl
  ascent_once (Node m ∷ ms) a k = let q = (and_iff (record_right nodes t.nodes m) (all (readable nodes leaves t) ms)).0 a in ascent_once ms q.1 k
  ascent_once (TooDeep ∷ ms) a k = absurd (false_true a)
  ascent_once (Leaf n ∷ ms) a k =
      let q = (and_iff (record_right leaves t.leaves n) (all (readable nodes leaves t) ms)).0 a in
      let later : above (key_at leaves t.leaves n 0) (keys_along leaves t.leaves (leaves_among ms)) ≡ true =
      ascent_first n (keys_from leaves t.leaves n (ock_at leaves t.leaves n - 1) 1) (keys_along leaves t.leaves (leaves_among ms)) (rw (keys_cons leaves t.leaves n q.0) at k) in
      let here : not_in n (leaves_among ms) ≡ true = not_among n ms q.1 later in
      let rest : none_twice (leaves_among ms) ≡ true = ascent_once ms q.1 (ascent_rest n (keys_along leaves t.leaves (leaves_among ms)) q.0 k) in
      (and_iff _ _).1 (here, rest)

  -- ---- the pass and the sentences

  absorb : (x k d s : Bool) → (x ≡ true → k ≡ true → d ≡ true) → (x && (k && s)) ≡ (((x && k) && d) && s)
  absorb true true d s f = rw (f refl refl)
  absorb true false d s f = refl
  absorb false k d s f = refl

  pub pass_sound : (ms : List Met) → ended (pass nodes leaves t ms (Ok None)) ≡ met_sound nodes leaves t ms
  unfolding met_sound
  pass_sound ms = pass_is ms None ∙ rw (keeps_all ms) (absorb (all keeps ms) _ _ _ (λ a. ascent_once ms (keeps_readable ms a)))
