-- What a lookup reads: the records on its way down, and nothing else of the two files. Document 02, C-11: descent over at most 16 nodes to one leaf.
use Rattle.std.specs.Prelude.{ℕ, zero, suc, ◌≤◌, ◌≡◌, ◌↔◌, Bool, true, ◌&&◌, cond, List, [], ◌∷◌, length, Option, Some, None}
use Rattle.word.specs.Overwrite.{part}
use Rattle.terms.specs.Key.{below}
use Rattle.terms.specs.declared.term.Kind.{Kind}
use Rattle.index.specs.Layout.{nodes_most, size_of, place_of, keys_of}
use Rattle.index.specs.Rules.{record_there, node_right, part_of}
use Rattle.index.specs.Lookup.{punt_for, is_node, leaf_number, search_tree}
use Rattle.index.specs.Shape.{Shape}
use Rattle.index.specs.declared.layout.Tree.{Tree}

-- ---- what is met

pub data Met : Type 0 where
  Node : ℕ → Met
  Leaf : ℕ → Met
  TooDeep : Met

-- how many nodes, and which leaves
unfoldable pub nodes_among : List Met → ℕ
nodes_among [] = 0
nodes_among (Node n ∷ ms) = suc (nodes_among ms)
nodes_among (Leaf n ∷ ms) = nodes_among ms
nodes_among (TooDeep ∷ ms) = nodes_among ms

unfoldable pub leaves_among : List Met → List ℕ
leaves_among [] = []
leaves_among (Node n ∷ ms) = leaves_among ms
leaves_among (Leaf n ∷ ms) = n ∷ leaves_among ms
leaves_among (TooDeep ∷ ms) = leaves_among ms

-- ---- the way down

-- by a PUNT, where there is one: what is met from that node on, or that leaf
unfoldable pub met_by : (ℕ → List Met) → Option ℕ → List Met
met_by node None = []
met_by node (Some punt) = cond (is_node punt) (node punt) (Leaf (leaf_number punt) ∷ [])

-- the records on the way from node n, with so many nodes left
unfoldable pub way_of : List ℕ → Shape → List ℕ → ℕ → ℕ → List Met
way_of f s key zero n = []
way_of f s key (suc left) n =
    Node n ∷ cond (node_right f s n)
    (met_by (λ m. way_of f s key left m) (punt_for f s key n))
    []

-- two files have the same record n: it is there in both or in neither, with the same bytes
pub record SameRecord (f g : List ℕ) (s : Shape) (n : ℕ) : Type 0 where
  pub there : record_there f s n ≡ record_there g s n
  pub bytes : part f (place_of s n) (size_of s) ≡ part g (place_of s n) (size_of s)

-- two pairs of files have the same records among what is met
unfoldable pub SameAlong : List ℕ → List ℕ → List ℕ → List ℕ → Tree → List Met → Type 0
SameAlong nodes leaves nodes' leaves' t [] = Unit {0}
SameAlong nodes leaves nodes' leaves' t (Node n ∷ ms) = SameRecord nodes nodes' t.nodes n × SameAlong nodes leaves nodes' leaves' t ms
SameAlong nodes leaves nodes' leaves' t (Leaf n ∷ ms) = SameRecord leaves leaves' t.leaves n × SameAlong nodes leaves nodes' leaves' t ms
SameAlong nodes leaves nodes' leaves' t (TooDeep ∷ ms) = SameAlong nodes leaves nodes' leaves' t ms

-- ---- the theorems

-- a lookup reads at most 16 nodes and one leaf: what it answers depends on no other byte of the two files
unfoldable pub ReadsFew : Type 0
ReadsFew =
    (cnt nodes leaves key : List ℕ) (kind : Kind) (t : Tree) → part_of cnt kind ≡ Some t
    → (nodes_among (way_of nodes t.nodes key nodes_most t.root) ≤ nodes_most)
    × (length (leaves_among (way_of nodes t.nodes key nodes_most t.root)) ≤ 1)
    × ((nodes' leaves' : List ℕ) → SameAlong nodes leaves nodes' leaves' t (way_of nodes t.nodes key nodes_most t.root)
    → search_tree nodes leaves key (Some t) ≡ search_tree nodes' leaves' key (Some t))

-- a term is below every key of these
unfoldable pub below_all : List ℕ → List (List ℕ) → Bool
below_all key [] = true
below_all key (k ∷ ks) = below key k && below_all key ks

-- in a node that keeps its rules no PUNT is found exactly if the term is below every active key
unfoldable pub NoneMeansBelow : Type 0
NoneMeansBelow =
    (nodes key : List ℕ) (s : Shape) (n : ℕ) → node_right nodes s n ≡ true
    → (punt_for nodes s key n ≡ None) ↔ (below_all key (keys_of nodes s n) ≡ true)
