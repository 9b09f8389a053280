-- On an index that passes, a lookup finds what a search through all entries of the leaves met would find. Keys ascend strictly along the
-- leaves and each pointer's key is the first key behind it, so the last key not above the term leads to the one leaf that can hold it.
use Prim.Native.Nat.{ℕ, zero, suc, ◌+◌, ◌-◌, ◌≤◌}
use native.Mathlib.Omega.{arith}
use mathlib.Core.Path.{◌≡◌, refl, sym, ap, ◌∙◌}
use mathlib.Core.Bool.{Bool, true, false, not, ◌&&◌, cond}
use mathlib.Core.List.{List, [], ◌∷◌, ◌++◌, append-nil, append_assoc}
use borrow.Author.Tests.{not-true}
use Rattle.std.proofs.Common.{Some, Err}
use Rattle.terms.specs.Key.{same, below, ascending, ascending_after}
use Rattle.index.specs.Layout.{ock_at, key_at, punt_at, keys_from, keys_of}
use Rattle.index.specs.Rules.{record_there, record_right, punts_right, node_right}
use Rattle.index.specs.Lookup.{Found, at, Entry, entries_from, entries_of, first_equal, leaf_answer, last_punt, is_node, leaf_number, onward, descend}
use Rattle.index.specs.Reading.{Met, Node, Leaf, TooDeep, leaves_among}
use Rattle.index.specs.Shape.{Shape}
use Rattle.index.specs.declared.layout.Tree.{Tree}
use Rattle.index.specs.declared.lookup.Refusal.TheVariants.{NoTerm}
use Rattle.index.proofs.Shapes.{right_facts}
use Rattle.terms.proofs.Order.{by_cases, never, below_irrefl, below_trans, same_is, above, above_lower, ascent_above, last_of, ascent_append}
use Rattle.word.proofs.Tests.{and_iff, false_true}
use Rattle.index_check.specs.Walk.{behind, behind_first, walk, keys_along}
use Rattle.index_check.specs.Sound.{all, pointer_right, pointers_right}
use Rattle.index_check.specs.Passes.{node_sound}
use Rattle.index_check.proofs.Sound.{keeps, keys_cons}

-- both parts of a test that came out true
pub both : (a b : Bool) → a && b ≡ true → (a ≡ true) × (b ≡ true)
both a b e = (and_iff a b).0 e

pub join : (a b : Bool) → a ≡ true → b ≡ true → a && b ≡ true
join a b p q = (and_iff a b).1 (p, q)

-- ---- the entries along leaves, and their keys

unfoldable pub entries_along : List ℕ → Shape → List ℕ → List Entry
entries_along f s [] = []
entries_along f s (n ∷ ns) = entries_of f s n ++ entries_along f s ns

unfoldable pub keys_in : List Entry → List (List ℕ)
keys_in [] = []
keys_in (e ∷ es) = e.key ∷ keys_in es

pub keys_in_append : (xs ys : List Entry) → keys_in (xs ++ ys) ≡ keys_in xs ++ keys_in ys
unfolding keys_in
keys_in_append [] ys = refl
keys_in_append (x ∷ xs) ys = ap (λ (l : List (List ℕ)). x.key ∷ l) (keys_in_append xs ys)

keys_in_from : (f : List ℕ) (s : Shape) (n k i : ℕ) → keys_in (entries_from f s n k i) ≡ keys_from f s n k i
unfolding keys_in entries_from keys_from
keys_in_from f s n zero i = refl
keys_in_from f s n (suc k) i = ap (λ (l : List (List ℕ)). key_at f s n i ∷ l) (keys_in_from f s n k (i + 1))

pub keys_in_along : (f : List ℕ) (s : Shape) (ns : List ℕ) → keys_in (entries_along f s ns) ≡ keys_along f s ns
unfolding keys_in entries_along keys_along
keys_in_along f s [] = refl
keys_in_along f s (n ∷ ns) =
    keys_in_append (entries_of f s n) (entries_along f s ns) ∙ rw (keys_in_from f s n (ock_at f s n) 0, keys_in_along f s ns)

-- ---- ascent in parts of a list

pub ascent_tail : (x : List ℕ) (ys : List (List ℕ)) → ascending_after x ys ≡ true → ascending ys ≡ true
unfolding ascending ascending_after
ascent_tail x [] e = refl
ascent_tail x (y ∷ ys) e = (both (below x y) (ascending_after y ys) e).1

pub ascent_left : (xs ys : List (List ℕ)) → ascending (xs ++ ys) ≡ true → ascending xs ≡ true
unfolding ascending
ascent_left [] ys e = refl
ascent_left (x ∷ xs) ys e = (both (ascending_after x xs) (ascending_after (last_of x xs) ys) (sym (ascent_append x xs ys) ∙ e)).0

pub ascent_right : (xs ys : List (List ℕ)) → ascending (xs ++ ys) ≡ true → ascending ys ≡ true
unfolding ascending
ascent_right [] ys e = e
ascent_right (x ∷ xs) ys e =
    ascent_tail (last_of x xs) ys (both (ascending_after x xs) (ascending_after (last_of x xs) ys) (sym (ascent_append x xs ys) ∙ e)).1

-- all of these below one
unfoldable under : List ℕ → List (List ℕ) → Bool
under k [] = true
under k (x ∷ xs) = below x k && under k xs

under_after : (x k : List ℕ) (xs ks : List (List ℕ)) → ascending_after x (xs ++ (k ∷ ks)) ≡ true → (below x k ≡ true) × (under k xs ≡ true)
unfolding ascending_after under
under_after x k [] ks e = ((both (below x k) (ascending_after k ks) e).0, refl)
under_after x k (y ∷ ys) ks e =
    let q = both (below x y) (ascending_after y (ys ++ (k ∷ ks))) e in
    let r = under_after y k ys ks q.1 in
    (below_trans x y k q.0 r.0, join (below y k) (under k ys) r.0 r.1)

ascent_under : (k : List ℕ) (xs ks : List (List ℕ)) → ascending (xs ++ (k ∷ ks)) ≡ true → under k xs ≡ true
unfolding ascending under
ascent_under k [] ks e = refl
ascent_under k (x ∷ xs) ks e = let r = under_after x k xs ks e in join (below x k) (under k xs) r.0 r.1

-- ---- the search in two lists

module _ (key : List ℕ) where
  unfoldable none_same : List Entry → Bool
  none_same [] = true
  none_same (e ∷ es) = not (same key e.key) && none_same es

  first_none : (es : List Entry) → none_same es ≡ true → first_equal key es ≡ Err NoTerm
  unfolding none_same first_equal
  first_none [] h = refl
  first_none (e ∷ es) h =
      let q = both (not (same key e.key)) (none_same es) h in
      rw (not-true (same key e.key) q.0) (first_none es q.1)

  first_skip : (xs ys : List Entry) → none_same xs ≡ true → first_equal key (xs ++ ys) ≡ first_equal key ys
  unfolding none_same first_equal
  first_skip [] ys h = refl
  first_skip (e ∷ es) ys h =
      let q = both (not (same key e.key)) (none_same es) h in
      rw (not-true (same key e.key) q.0) (first_skip es ys q.1)

  first_stay : (xs ys : List Entry) → none_same ys ≡ true → first_equal key (xs ++ ys) ≡ first_equal key xs
  unfolding first_equal
  first_stay [] ys h = first_none ys h
  first_stay (e ∷ es) ys h = ap (λ (r : Found). cond (same key e.key) (at e.block e.word) r) (first_stay es ys h)

  not_same : (x : List ℕ) → (key ≡ x → ⊥) → not (same key x) ≡ true
  not_same x h = go (same key x) refl
    where
      go : (b : Bool) → same key x ≡ b → not b ≡ true
      go true e = absurd (h (same_is key x e))
      go false e = refl

  above_none : (es : List Entry) → above key (keys_in es) ≡ true → none_same es ≡ true
  unfolding none_same above keys_in
  above_none [] h = refl
  above_none (e ∷ es) h =
      let q = both (below key e.key) (above key (keys_in es)) h in
      join (not (same key e.key)) (none_same es)
      (not_same e.key (λ z. never q.0 (rw z (below_irrefl e.key)))) (above_none es q.1)

  under_none : (k : List ℕ) (es : List Entry) → below key k ≡ false → under k (keys_in es) ≡ true → none_same es ≡ true
  unfolding none_same under keys_in
  under_none k [] g h = refl
  under_none k (e ∷ es) g h =
      let q = both (below e.key k) (under k (keys_in es)) h in
      join (not (same key e.key)) (none_same es)
      (not_same e.key (λ z. never (rw (← z) at q.0) g)) (under_none k es g q.1)

-- ---- what is met, in two parts

pub leaves_append : (xs ys : List Met) → leaves_among (xs ++ ys) ≡ leaves_among xs ++ leaves_among ys
unfolding leaves_among
leaves_append [] ys = refl
leaves_append (Node n ∷ xs) ys = leaves_append xs ys
leaves_append (Leaf n ∷ xs) ys = ap (λ (l : List ℕ). n ∷ l) (leaves_append xs ys)
leaves_append (TooDeep ∷ xs) ys = leaves_append xs ys

pub entries_append : (f : List ℕ) (s : Shape) (xs ys : List ℕ) → entries_along f s (xs ++ ys) ≡ entries_along f s xs ++ entries_along f s ys
unfolding entries_along
entries_append f s [] ys = refl
entries_append f s (n ∷ ns) ys =
    ap (λ (l : List Entry). entries_of f s n ++ l) (entries_append f s ns ys)
    ∙ sym (append_assoc (entries_of f s n) (entries_along f s ns) (entries_along f s ys))

pub all_append : (p : Met → Bool) (xs ys : List Met) → all p (xs ++ ys) ≡ true → (all p xs ≡ true) × (all p ys ≡ true)
unfolding all
all_append p [] ys e = (refl, e)
all_append p (x ∷ xs) ys e =
    let q = both (p x) (all p (xs ++ ys)) e in
    let r = all_append p xs ys q.1 in
    (join (p x) (all p xs) q.0 r.0, r.1)

module _ (nodes leaves : List ℕ) (t : Tree) (key : List ℕ) where
  -- all entries of the leaves among what is met
  abbrev pub held : List Met → List Entry
  held ms = entries_along leaves t.leaves (leaves_among ms)

  held_append : (xs ys : List Met) → held (xs ++ ys) ≡ held xs ++ held ys
  held_append xs ys = ap (entries_along leaves t.leaves) (leaves_append xs ys) ∙ entries_append leaves t.leaves (leaves_among xs) (leaves_among ys)

  -- ---- what one step of the way answers, and where its keys begin

  pub record Judged (ms : List Met) (answer : Found) (first : List ℕ) : Type 0 where
    pub answers : answer ≡ first_equal key (held ms)
    pub rest : List (List ℕ)
    pub begins : keys_in (held ms) ≡ first ∷ rest

  held_leaf : (n : ℕ) → held (Leaf n ∷ []) ≡ entries_of leaves t.leaves n
  unfolding leaves_among entries_along
  held_leaf n = append-nil (entries_of leaves t.leaves n)

  leaf_judged : (n : ℕ) → record_right leaves t.leaves n ≡ true → Judged (Leaf n ∷ []) (leaf_answer leaves t.leaves key n) (key_at leaves t.leaves n 0)
  unfolding leaf_answer
  leaf_judged n e =
      record {
        answers = rw (e, held_leaf n);
        rest = keys_from leaves t.leaves n (ock_at leaves t.leaves n - 1) 1;
        begins = ap keys_in (held_leaf n) ∙ keys_in_from leaves t.leaves n (ock_at leaves t.leaves n) 0 ∙ keys_cons leaves t.leaves n e;
      }

  -- the same under an equal answer and an equal first key
  judged_as : (ms ns : List Met) (a b : Found) (x y : List ℕ) → ms ≡ ns → b ≡ a → y ≡ x → Judged ns a x → Judged ms b y
  judged_as ms ns a b x y p q r j =
      record {
        answers = q ∙ j.answers ∙ ap (λ (l : List Met). first_equal key (held l)) (sym p);
        rest = j.rest;
        begins = ap (λ (l : List Met). keys_in (held l)) p ∙ j.begins ∙ ap (λ (k : List ℕ). k ∷ j.rest) (sym r);
      }

  -- where `from` gives what is met behind a node, and `down` what it answers
  module _ (from : ℕ → List Met) (down : ℕ → Found)
      (known : (m : ℕ) → all (keeps nodes leaves t) (from m) ≡ true → ascending (keys_in (held (from m))) ≡ true
      → Judged (from m) (down m) (key_at nodes t.nodes m 0)) where
    pointer_first : (n i : ℕ) (b : Bool) → is_node (punt_at nodes t.nodes n i) ≡ b → pointer_right nodes leaves t n i ≡ true
        → key_at nodes t.nodes n i
        ≡ cond b (key_at nodes t.nodes (punt_at nodes t.nodes n i) 0) (key_at leaves t.leaves (leaf_number (punt_at nodes t.nodes n i)) 0)
    unfolding pointer_right
    pointer_first n i true z e = same_is _ _ (both (record_there nodes t.nodes (punt_at nodes t.nodes n i)) _ (rw z at e)).1
    pointer_first n i false z e = same_is _ _ (both (record_there leaves t.leaves (leaf_number (punt_at nodes t.nodes n i))) _ (rw z at e)).1

    onward_is : (punt : ℕ) (b : Bool) → is_node punt ≡ b → onward down (leaf_answer leaves t.leaves key) (Some punt) ≡ cond b (down punt) (leaf_answer leaves t.leaves key (leaf_number punt))
    unfolding onward
    onward_is punt b z = rw z

    behind_is : (punt : ℕ) (b : Bool) → is_node punt ≡ b → behind from punt ≡ cond b (from punt) (Leaf (leaf_number punt) ∷ [])
    behind_is punt b z = rw z

    child : (n i : ℕ) (b : Bool) → is_node (punt_at nodes t.nodes n i) ≡ b → pointer_right nodes leaves t n i ≡ true
        → all (keeps nodes leaves t) (behind from (punt_at nodes t.nodes n i)) ≡ true
        → ascending (keys_in (held (behind from (punt_at nodes t.nodes n i)))) ≡ true
        → Judged (behind from (punt_at nodes t.nodes n i)) (onward down (leaf_answer leaves t.leaves key) (Some (punt_at nodes t.nodes n i))) (key_at nodes t.nodes n i)
    unfolding all
    child n i true z p a k =
        let q = behind_is (punt_at nodes t.nodes n i) true z in
        judged_as _ _ _ _ _ _ q (onward_is (punt_at nodes t.nodes n i) true z) (pointer_first n i true z p)
        (known (punt_at nodes t.nodes n i) (ap (all (keeps nodes leaves t)) (sym q) ∙ a) (ap (λ (l : List Met). ascending (keys_in (held l))) (sym q) ∙ k))
    child n i false z p a k =
        let q = behind_is (punt_at nodes t.nodes n i) false z in
        let m : ℕ = leaf_number (punt_at nodes t.nodes n i) in
        let r : (record_right leaves t.leaves m && true) ≡ true = ap (all (keeps nodes leaves t)) (sym q) ∙ a in
        judged_as _ _ _ _ _ _ q (onward_is (punt_at nodes t.nodes n i) false z) (pointer_first n i false z p)
        (leaf_judged m (both (record_right leaves t.leaves m) true r).0)

    -- ---- the first entries of a node

    module _ (n : ℕ) where
      record Entered (i : ℕ) : Type 0 where
        pointers : pointers_right nodes leaves t n i ≡ true
        kept : all (keeps nodes leaves t) (behind_first from nodes t.nodes n i) ≡ true
        ascent : ascending (keys_in (held (behind_first from nodes t.nodes n i))) ≡ true

      split : (i : ℕ) → keys_in (held (behind_first from nodes t.nodes n (suc i)))
          ≡ keys_in (held (behind_first from nodes t.nodes n i)) ++ keys_in (held (behind from (punt_at nodes t.nodes n i)))
      unfolding behind_first
      split i =
          ap keys_in (held_append (behind_first from nodes t.nodes n i) (behind from (punt_at nodes t.nodes n i)))
          ∙ keys_in_append (held (behind_first from nodes t.nodes n i)) (held (behind from (punt_at nodes t.nodes n i)))

      before_it : (i : ℕ) → Entered (suc i) → Entered i
      unfolding pointers_right behind_first
      before_it i e =
          record {
            pointers = (both (pointers_right nodes leaves t n i) (pointer_right nodes leaves t n i) e.pointers).0;
            kept = (all_append (keeps nodes leaves t) (behind_first from nodes t.nodes n i) (behind from (punt_at nodes t.nodes n i)) e.kept).0;
            ascent = ascent_left _ (keys_in (held (behind from (punt_at nodes t.nodes n i)))) (ap ascending (sym (split i)) ∙ e.ascent);
          }

      last_one : (i : ℕ) → Entered (suc i)
          → Judged (behind from (punt_at nodes t.nodes n i)) (onward down (leaf_answer leaves t.leaves key) (Some (punt_at nodes t.nodes n i))) (key_at nodes t.nodes n i)
      unfolding pointers_right behind_first
      last_one i e =
          child n i (is_node (punt_at nodes t.nodes n i)) refl
          (both (pointers_right nodes leaves t n i) (pointer_right nodes leaves t n i) e.pointers).1
          (all_append (keeps nodes leaves t) (behind_first from nodes t.nodes n i) (behind from (punt_at nodes t.nodes n i)) e.kept).1
          (ascent_right (keys_in (held (behind_first from nodes t.nodes n i))) _ (ap ascending (sym (split i)) ∙ e.ascent))

      -- the last key is above the term: what is behind it cannot hold it
      above_behind : (k : List ℕ) (ks : List (List ℕ)) (es : List Entry) → keys_in es ≡ k ∷ ks → ascending (keys_in es) ≡ true → below key k ≡ true
          → none_same key es ≡ true
      unfolding ascending above
      above_behind k ks es b a g =
          above_none key es
          (rw b (join (below key k) (above key ks) g (above_lower key k ks g (ascent_above k ks (rw b at a)))))

      -- it is not: what is behind those before it cannot hold it
      under_before : (k : List ℕ) (ks xs : List (List ℕ)) (es : List Entry) → keys_in es ≡ xs → ascending (xs ++ (k ∷ ks)) ≡ true → below key k ≡ false
          → none_same key es ≡ true
      under_before k ks xs es b a g = under_none key k es g (rw b (ascent_under k xs ks a))

      step_above : (i : ℕ) → Entered (suc i) → below key (key_at nodes t.nodes n i) ≡ true
          → first_equal key (held (behind_first from nodes t.nodes n (suc i))) ≡ first_equal key (held (behind_first from nodes t.nodes n i))
      unfolding behind_first
      step_above i e g =
          let j = last_one i e in
          let a = ascent_right (keys_in (held (behind_first from nodes t.nodes n i))) (keys_in (held (behind from (punt_at nodes t.nodes n i))))
          (ap ascending (sym (split i)) ∙ e.ascent) in
          ap (first_equal key) (held_append (behind_first from nodes t.nodes n i) (behind from (punt_at nodes t.nodes n i)))
          ∙ first_stay key (held (behind_first from nodes t.nodes n i)) (held (behind from (punt_at nodes t.nodes n i)))
          (above_behind (key_at nodes t.nodes n i) j.rest (held (behind from (punt_at nodes t.nodes n i))) j.begins a g)

      step_here : (i : ℕ) → Entered (suc i) → below key (key_at nodes t.nodes n i) ≡ false
          → first_equal key (held (behind_first from nodes t.nodes n (suc i))) ≡ first_equal key (held (behind from (punt_at nodes t.nodes n i)))
      unfolding behind_first
      step_here i e g =
          let j = last_one i e in
          let a : ascending (keys_in (held (behind_first from nodes t.nodes n i)) ++ (key_at nodes t.nodes n i ∷ j.rest)) ≡ true =
          ap (λ (l : List (List ℕ)). ascending (keys_in (held (behind_first from nodes t.nodes n i)) ++ l)) (sym j.begins) ∙ ap ascending (sym (split i)) ∙ e.ascent in
          ap (first_equal key) (held_append (behind_first from nodes t.nodes n i) (behind from (punt_at nodes t.nodes n i)))
          ∙ first_skip key (held (behind_first from nodes t.nodes n i)) (held (behind from (punt_at nodes t.nodes n i)))
          (under_before (key_at nodes t.nodes n i) j.rest (keys_in (held (behind_first from nodes t.nodes n i))) (held (behind_first from nodes t.nodes n i)) refl a g)

      last_above : (i : ℕ) → below key (key_at nodes t.nodes n i) ≡ true → last_punt nodes t.nodes key n (suc i) ≡ last_punt nodes t.nodes key n i
      unfolding last_punt
      last_above i g = rw g

      last_here : (i : ℕ) → below key (key_at nodes t.nodes n i) ≡ false → last_punt nodes t.nodes key n (suc i) ≡ Some (punt_at nodes t.nodes n i)
      unfolding last_punt
      last_here i g = rw g

      no_entry : onward down (leaf_answer leaves t.leaves key) (last_punt nodes t.nodes key n 0) ≡ first_equal key (held (behind_first from nodes t.nodes n 0))
      unfolding onward last_punt behind_first leaves_among entries_along first_equal
      no_entry = refl

      -- by the last key not above the term
      choose : (i : ℕ) → Entered (suc i)
          → onward down (leaf_answer leaves t.leaves key) (last_punt nodes t.nodes key n i) ≡ first_equal key (held (behind_first from nodes t.nodes n i))
          → onward down (leaf_answer leaves t.leaves key) (last_punt nodes t.nodes key n (suc i)) ≡ first_equal key (held (behind_first from nodes t.nodes n (suc i)))
      choose i e so_far =
          by_cases (below key (key_at nodes t.nodes n i))
          (λ g. ap (onward down (leaf_answer leaves t.leaves key)) (last_above i g) ∙ so_far ∙ sym (step_above i e g))
          (λ g. ap (onward down (leaf_answer leaves t.leaves key)) (last_here i g) ∙ (last_one i e).answers ∙ sym (step_here i e g))

      first_answers : (i : ℕ) → Entered i
          → onward down (leaf_answer leaves t.leaves key) (last_punt nodes t.nodes key n i) ≡ first_equal key (held (behind_first from nodes t.nodes n i))
      first_answers zero e = no_entry
      first_answers (suc i) e = choose i e (first_answers i (before_it i e))

      -- the keys behind the first entries begin with the node's first key
      record Begun (i : ℕ) : Type 0 where
        more : List (List ℕ)
        starts : keys_in (held (behind_first from nodes t.nodes n i)) ≡ key_at nodes t.nodes n 0 ∷ more

      none_held : keys_in (held (behind_first from nodes t.nodes n 0)) ≡ []
      unfolding behind_first leaves_among entries_along keys_in
      none_held = refl

      begun_first : Entered 1 → Begun 1
      begun_first e =
          let j = last_one 0 e in
          record { more = j.rest; starts = split 0 ∙ no_keys (keys_in (held (behind from (punt_at nodes t.nodes n 0)))) ∙ j.begins }
        where
          no_keys : (l : List (List ℕ)) → keys_in (held (behind_first from nodes t.nodes n 0)) ++ l ≡ l
          no_keys l = ap (λ (x : List (List ℕ)). x ++ l) none_held

      begun_more : (i : ℕ) → Begun i → Begun (suc i)
      begun_more i b =
          record {
            more = b.more ++ keys_in (held (behind from (punt_at nodes t.nodes n i)));
            starts = split i ∙ ap (λ (x : List (List ℕ)). x ++ keys_in (held (behind from (punt_at nodes t.nodes n i)))) b.starts;
          }

      begun : (i : ℕ) → Entered (suc i) → Begun (suc i)
      begun zero e = begun_first e
      begun (suc i) e = begun_more (suc i) (begun i (before_it (suc i) e))

  -- ---- the way down from a node

  node_all : (n left : ℕ) → all (keeps nodes leaves t) (walk nodes t.nodes (suc left) n) ≡ true → node_sound nodes leaves t n ≡ true
  unfolding all walk
  node_all n left e = (both (node_sound nodes leaves t n) _ e).0

  module _ (n left : ℕ) (e : node_right nodes t.nodes n ≡ true) where
    walk_is : walk nodes t.nodes (suc left) n ≡ Node n ∷ behind_first (λ m. walk nodes t.nodes left m) nodes t.nodes n (ock_at nodes t.nodes n)
    unfolding walk node_right
    walk_is = rw (both (record_right nodes t.nodes n) (punts_right nodes t.nodes n (ock_at nodes t.nodes n)) e).0

    held_walk : held (walk nodes t.nodes (suc left) n) ≡ held (behind_first (λ m. walk nodes t.nodes left m) nodes t.nodes n (ock_at nodes t.nodes n))
    unfolding leaves_among
    held_walk = ap held walk_is

    kept_walk : all (keeps nodes leaves t) (walk nodes t.nodes (suc left) n) ≡ true
        → all (keeps nodes leaves t) (behind_first (λ m. walk nodes t.nodes left m) nodes t.nodes n (ock_at nodes t.nodes n)) ≡ true
    unfolding all
    kept_walk a = (both (node_sound nodes leaves t n) _ (ap (all (keeps nodes leaves t)) (sym walk_is) ∙ a)).1

    descend_is : descend nodes leaves t key (suc left) n
        ≡ onward (λ m. descend nodes leaves t key left m) (leaf_answer leaves t.leaves key) (last_punt nodes t.nodes key n (ock_at nodes t.nodes n))
    unfolding descend
    descend_is = rw e

  record NodeFacts (n : ℕ) : Type 0 where
    right : node_right nodes t.nodes n ≡ true
    points : pointers_right nodes leaves t n (ock_at nodes t.nodes n) ≡ true
    counted : 1 ≤ ock_at nodes t.nodes n

  node_facts : (n : ℕ) → node_sound nodes leaves t n ≡ true → NodeFacts n
  unfolding node_sound node_right
  node_facts n e =
      let q = both (node_right nodes t.nodes n && ascending (keys_of nodes t.nodes n)) (pointers_right nodes leaves t n (ock_at nodes t.nodes n)) e in
      let r = both (node_right nodes t.nodes n) (ascending (keys_of nodes t.nodes n)) q.0 in
      let u = both (record_right nodes t.nodes n) (punts_right nodes t.nodes n (ock_at nodes t.nodes n)) r.0 in
      record { right = r.0; points = q.1; counted = (right_facts nodes t.nodes n u.0).count_low }

  too_deep : (n : ℕ) → all (keeps nodes leaves t) (walk nodes t.nodes 0 n) ≡ true → false ≡ true
  unfolding all walk
  too_deep n a = a

  one_more : (left n : ℕ)
      → ((m : ℕ) → all (keeps nodes leaves t) (walk nodes t.nodes left m) ≡ true → ascending (keys_in (held (walk nodes t.nodes left m))) ≡ true
      → Judged (walk nodes t.nodes left m) (descend nodes leaves t key left m) (key_at nodes t.nodes m 0))
      → all (keeps nodes leaves t) (walk nodes t.nodes (suc left) n) ≡ true → ascending (keys_in (held (walk nodes t.nodes (suc left) n))) ≡ true
      → Judged (walk nodes t.nodes (suc left) n) (descend nodes leaves t key (suc left) n) (key_at nodes t.nodes n 0)
  one_more left n known a k =
      let f = node_facts n (node_all n left a) in
      let count : ℕ = ock_at nodes t.nodes n in
      let from : ℕ → List Met = λ m. walk nodes t.nodes left m in
      let down : ℕ → Found = λ m. descend nodes leaves t key left m in
      let h = held_walk n left f.right in
      let e : Entered from down known n count =
      record { pointers = f.points; kept = kept_walk n left f.right a; ascent = ap (λ (l : List Entry). ascending (keys_in l)) (sym h) ∙ k } in
      let z : suc (count - 1) ≡ count = omega arith in
      let b : Begun from down known n count = rw z at (begun from down known n (count - 1) (rw (← z) at e)) in
      record {
        answers = descend_is n left f.right ∙ first_answers from down known n count e ∙ ap (first_equal key) (sym h);
        rest = b.more;
        begins = ap keys_in h ∙ b.starts;
      }

  pub way_judged : (left n : ℕ) → all (keeps nodes leaves t) (walk nodes t.nodes left n) ≡ true
      → ascending (keys_in (held (walk nodes t.nodes left n))) ≡ true
      → Judged (walk nodes t.nodes left n) (descend nodes leaves t key left n) (key_at nodes t.nodes n 0)
  way_judged zero n a k = absurd (false_true (too_deep n a))
  way_judged (suc left) n a k = one_more left n (λ m x y. way_judged left m x y) a k
