-- The walk from a tree's root: what is met, in order. Document 02, C-11.
use Rattle.std.specs.Prelude.{ℕ, zero, suc, cond, List, [], ◌∷◌, ◌++◌}
use Rattle.index.specs.Layout.{nodes_most, ock_at, punt_at, keys_of}
use Rattle.index.specs.Rules.{record_right}
use Rattle.index.specs.Lookup.{is_node, leaf_number}
use Rattle.index.specs.Reading.{Met, Node, Leaf, TooDeep}
use Rattle.index.specs.Shape.{Shape}
use Rattle.index.specs.declared.layout.Tree.{Tree}

-- by a PUNT: what the walk from that node meets, or that leaf
abbrev pub behind : (ℕ → List Met) → ℕ → List Met
behind from punt = cond (is_node punt) (from punt) (Leaf (leaf_number punt) ∷ [])

-- behind the first k entries of node n
unfoldable pub behind_first : (ℕ → List Met) → List ℕ → Shape → ℕ → ℕ → List Met
behind_first from f s n zero = []
behind_first from f s n (suc i) = behind_first from f s n i ++ behind from (punt_at f s n i)

-- from node n, with so many nodes left on the way: the node, and what is met behind its active entries; where it breaks a rule of every record it has none to read
unfoldable pub walk : List ℕ → Shape → ℕ → ℕ → List Met
walk f s zero n = TooDeep ∷ []
walk f s (suc left) n = Node n ∷ cond (record_right f s n) (behind_first (λ m. walk f s left m) f s n (ock_at f s n)) []

-- from a tree's root
abbrev pub met : List ℕ → Tree → List Met
met nodes t = walk nodes t.nodes nodes_most t.root

-- ---- the keys of leaves, one leaf after the other

-- the active keys along leaves
unfoldable pub keys_along : List ℕ → Shape → List ℕ → List (List ℕ)
keys_along f s [] = []
keys_along f s (n ∷ ns) = keys_of f s n ++ keys_along f s ns
