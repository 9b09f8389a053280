-- `leaf_for`: the nodes that are left fall at each level.
use Rattle.index.proofs.lookup.+leaf_for.Given as goal

abbrev pub decreases-leaf_for : goal.decreases-leaf_for
decreases-leaf_for l = l.left
