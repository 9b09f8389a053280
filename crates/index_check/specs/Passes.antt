-- Inner: the sentences of a sound index asked in one pass over what is met. Of the leaves met only the last one's last key and successor are remembered. The pass
-- ends well exactly if every sentence holds (proofs/Sound).
use Rattle.std.specs.Prelude.{ℕ, ◌+◌, ◌-◌, ◌≤◌, Bool, true, false, ◌&&◌, cond, List, [], ◌∷◌, eqb, length, Option, Some, None, Result, Ok, Err}
use Rattle.word.specs.Overwrite.{part}
use Rattle.terms.specs.Key.{below, ascending}
use Rattle.index.specs.Shape.{Shape}
use Rattle.index.specs.Layout.{ock_at, key_place, key_at, ps_at, keys_of}
use Rattle.index.specs.Rules.{record_right, node_right}
use Rattle.index.specs.Reading.{Met, Node, Leaf, TooDeep}
use Rattle.index.specs.declared.layout.Tree.{Tree}
use Rattle.index_check.specs.Sound.{pointers_right, broken}
use Rattle.index_check.specs.declared.check.After.{After}
use Rattle.index_check.specs.declared.check.BadIndex.{BadIndex}

-- how far a pass is: stopped at a broken rule, before the first leaf, or after a leaf
abbrev pub Progress : Type 0
Progress = Result (Option After) BadIndex

abbrev pub stopped : Progress
stopped = Err broken

module _ (nodes leaves : List ℕ) (t : Tree) where
  -- the three sentences of a node
  unfoldable pub node_sound : ℕ → Bool
  node_sound n = (node_right nodes t.nodes n && ascending (keys_of nodes t.nodes n)) && pointers_right nodes leaves t n (ock_at nodes t.nodes n)

module _ (leaves : List ℕ) (s : Shape) where
  -- where the last key of a leaf is
  abbrev pub last_place : ℕ → ℕ
  last_place m = key_place s m (ock_at leaves s m - 1)

  -- leaf n is the last one's successor and begins above its last key
  unfoldable pub follows : Option After → ℕ → Bool
  follows None n = true
  follows (Some a) n = eqb a.next n && below (part leaves a.key s.width) (key_at leaves s n 0)

  unfoldable pub leaf_sound : Option After → ℕ → Bool
  leaf_sound w n = record_right leaves s n && ascending (keys_of leaves s n) && follows w n

  unfoldable pub leaf_step : ℕ → Option After → Progress
  leaf_step n w = cond (leaf_sound w n) (Ok (Some (record { key = last_place n; next = ps_at leaves s n }))) stopped

  -- the last leaf's last key is in the file
  unfoldable pub Reached : Option After → Type 0
  Reached None = Unit {0}
  Reached (Some a) = a.key + s.width ≤ length leaves

-- the last leaf's successor is 0
unfoldable pub ended : Progress → Bool
ended (Err e) = false
ended (Ok None) = true
ended (Ok (Some a)) = eqb a.next 0

module _ (nodes leaves : List ℕ) (t : Tree) where
  unfoldable pub pass_one : Met → Option After → Progress
  pass_one (Node n) w = cond (node_sound nodes leaves t n) (Ok w) stopped
  pass_one (Leaf n) w = leaf_step leaves t.leaves n w
  pass_one TooDeep w = stopped

  -- a pass that is stopped stays so
  unfoldable pub pass : List Met → Progress → Progress
  pass [] w = w
  pass (m ∷ ms) (Ok w) = pass ms (pass_one m w)
  pass (m ∷ ms) (Err e) = pass ms (Err e)

-- the tree of two files' records; its root is of no account to a pass
abbrev pub tree_with : Shape → Shape → Tree
tree_with nodes leaves = record { nodes = nodes; leaves = leaves; root = 0 }
