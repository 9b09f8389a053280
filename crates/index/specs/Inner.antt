-- Inner: serves functions of this crate, no part of what is promised.
use Rattle.std.specs.Prelude.{ℕ, zero, suc, cond, List, Option, Some, None, Result, Ok, Err}
use Rattle.index.specs.Shape.{Shape}
use Rattle.index.specs.Rules.{node_right}
use Rattle.index.specs.Lookup.{punt_for, is_node, leaf_number}
use Rattle.index.specs.declared.rules.Child.{Child}
use Rattle.index.specs.declared.rules.Child.TheVariants.{Node, Leaf}
use Rattle.index.specs.declared.lookup.Refusal.{Refusal}
use Rattle.index.specs.declared.lookup.Refusal.TheVariants.{BadIndex, NoTerm}

-- what a PUNT points to
abbrev pub child_of : ℕ → Child
child_of punt = cond (is_node punt) (Node punt) (Leaf (leaf_number punt))

-- how a way down ends: the leaf that it leads to, or why it leads to none

-- one level down by a PUNT, where there is one: by `node` where it is a node; a leaf's ends the way
unfoldable pub way_on : (ℕ → Result ℕ Refusal) → Option ℕ → Result ℕ Refusal
way_on node None = Err NoTerm
way_on node (Some punt) = cond (is_node punt) (node punt) (Ok (leaf_number punt))

-- from node n on, with so many nodes left on the way
unfoldable pub way_end : List ℕ → Shape → List ℕ → ℕ → ℕ → Result ℕ Refusal
way_end f s key zero n = Err BadIndex
way_end f s key (suc left) n = cond (node_right f s n) (way_on (λ m. way_end f s key left m) (punt_for f s key n)) (Err BadIndex)
