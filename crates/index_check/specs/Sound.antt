-- The sound index, sentence by sentence. Document 02, C-11: "in both trees no rule of 21 is broken, keys ascend strictly in nodes and along the leaves, each
-- pointer's key is its target's first, and the walk from each root meets no leaf twice, in successor order, the last one's successor 0".
use Rattle.std.specs.Prelude.{ℕ, zero, suc, Bool, true, false, not, ◌&&◌, cond, List, [], ◌∷◌, eqb, Option, Some, None, Result, Ok, Err}
use Rattle.terms.specs.Key.{same, ascending}
use Rattle.terms.specs.declared.term.Kind.{Kind}
use Rattle.terms.specs.declared.term.Kind.TheVariants.{Short, Long}
use Rattle.index.specs.Files.{Index, nodes_in, leaves_in}
use Rattle.index.specs.Layout.{ock_at, key_at, punt_at, ps_at, keys_of}
use Rattle.index.specs.Rules.{record_there, record_right, node_right, part_of}
use Rattle.index.specs.Lookup.{is_node, leaf_number}
use Rattle.index.specs.Reading.{Met, Node, Leaf, TooDeep, leaves_among}
use Rattle.index.specs.Shape.{Shape}
use Rattle.index.specs.declared.layout.Tree.{Tree}
use Rattle.index_check.specs.Walk.{met, keys_along}
use Rattle.index_check.specs.declared.check.BadIndex.{BadIndex}

-- ---- of each that is met

unfoldable pub all : (Met → Bool) → List Met → Bool
all p [] = true
all p (m ∷ ms) = p m && all p ms

-- a record is there, and this is its first key
abbrev pub begins : List ℕ → List ℕ → Shape → ℕ → Bool
begins key f s n = record_there f s n && same key (key_at f s n 0)

module _ (nodes leaves : List ℕ) (t : Tree) where
  -- no rule of 21 is broken
  abbrev pub keeps_rules : Met → Bool
  keeps_rules (Node n) = node_right nodes t.nodes n
  keeps_rules (Leaf n) = record_right leaves t.leaves n
  keeps_rules TooDeep = false

  -- keys ascend strictly in nodes
  abbrev pub node_ascends : Met → Bool
  node_ascends (Node n) = ascending (keys_of nodes t.nodes n)
  node_ascends (Leaf n) = true
  node_ascends TooDeep = true

  -- a pointer's target begins with the pointer's key
  unfoldable pub pointer_right : ℕ → ℕ → Bool
  pointer_right n i =
      cond (is_node (punt_at nodes t.nodes n i))
      (begins (key_at nodes t.nodes n i) nodes t.nodes (punt_at nodes t.nodes n i))
      (begins (key_at nodes t.nodes n i) leaves t.leaves (leaf_number (punt_at nodes t.nodes n i)))

  -- of the first k entries
  unfoldable pub pointers_right : ℕ → ℕ → Bool
  pointers_right n zero = true
  pointers_right n (suc i) = pointers_right n i && pointer_right n i

  -- each pointer's key is its target's first
  abbrev pub points_to_first : Met → Bool
  points_to_first (Node n) = pointers_right n (ock_at nodes t.nodes n)
  points_to_first (Leaf n) = true
  points_to_first TooDeep = true

-- ---- of the leaves met, in order

-- is not among
unfoldable pub not_in : ℕ → List ℕ → Bool
not_in n [] = true
not_in n (m ∷ ms) = not (eqb n m) && not_in n ms

-- no leaf is met twice
unfoldable pub none_twice : List ℕ → Bool
none_twice [] = true
none_twice (n ∷ ns) = not_in n ns && none_twice ns

-- in successor order, the last one's successor 0
unfoldable pub successors_after : List ℕ → Shape → ℕ → List ℕ → Bool
successors_after f s n [] = eqb (ps_at f s n) 0
successors_after f s n (m ∷ ms) = eqb (ps_at f s n) m && successors_after f s m ms

unfoldable pub successors_right : List ℕ → Shape → List ℕ → Bool
successors_right f s [] = true
successors_right f s (n ∷ ns) = successors_after f s n ns

-- ---- the sound index

-- what is met keeps every sentence
unfoldable pub met_sound : List ℕ → List ℕ → Tree → List Met → Bool
met_sound nodes leaves t ms =
    all (keeps_rules nodes leaves t) ms
    && all (node_ascends nodes leaves t) ms
    && all (points_to_first nodes leaves t) ms
    && ascending (keys_along leaves t.leaves (leaves_among ms))
    && none_twice (leaves_among ms)
    && successors_right leaves t.leaves (leaves_among ms)

-- a tree: CNT's part is right, and all that is met from its root keeps every sentence
unfoldable pub tree_sound : List ℕ → List ℕ → Option Tree → Bool
tree_sound nodes leaves None = false
tree_sound nodes leaves (Some t) = met_sound nodes leaves t (met nodes t)

abbrev pub sound_in : Index → Kind → Bool
sound_in x kind = tree_sound (nodes_in x kind) (leaves_in x kind) (part_of x.cnt kind)

-- both trees
unfoldable pub sound_of : Index → Bool
sound_of x = sound_in x Short && sound_in x Long

-- what the check gives: nothing, or that a rule is broken
abbrev pub broken : BadIndex
broken = record {}

abbrev pub verdict : Bool → Result Unit BadIndex
verdict b = cond b (Ok tt) (Err broken)

abbrev pub check_of : Index → Result Unit BadIndex
check_of x = verdict (sound_of x)

-- its number: 0, or 21
abbrev pub index_answer : Index → ℕ
index_answer x = cond (sound_of x) 0 21
