-- After i entries the walk is where the pass over what is behind them is, and their pointers are right.
use Prim.Native.Nat.{◌-◌}
use mathlib.Core.Path.{◌≡◌}
use mathlib.Core.Bool.{true}
use Rattle.std.proofs.Common.{Ok}
use Rattle.index_check.specs.Walk.{walk, behind_first}
use Rattle.index_check.specs.Sound.{pointers_right}
use Rattle.index_check.specs.Passes.{pass, tree_with, Reached}
use Rattle.index_check.proofs.check.+over_node.Given as goal

abbrev pub decreases-over_node : goal.decreases-over_node
decreases-over_node l = l.left

abbrev pub invariant-loop-i : goal.invariant-loop-i
invariant-loop-i l =
    (Ok l.after ≡ pass l.nodes.file.now l.leaves.file.now (tree_with l.nodes.shape l.leaves.shape) (behind_first (λ m. walk l.nodes.file.now l.nodes.shape (l.left - 1) m) l.nodes.file.now l.nodes.shape l.n l.i) (Ok l.initial.after)) ×
    (pointers_right l.nodes.file.now l.leaves.file.now (tree_with l.nodes.shape l.leaves.shape) l.n l.i ≡ true) ×
    Reached l.leaves.file.now l.leaves.shape l.after
