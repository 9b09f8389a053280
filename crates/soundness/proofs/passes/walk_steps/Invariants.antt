-- `walk_steps`: the steps before the address are walked, and the hits among them are counted.
use Prim.Native.Nat.{◌-◌}
use Rattle.soundness.proofs.PassAnswers.{Walked}
use Rattle.soundness.proofs.passes.walk_steps.Given as goal

abbrev pub invariant-loop-at : goal.invariant-loop-at
invariant-loop-at l = Walked l.opened.mst.now l.opened.xrf.now l.opened.control.end l.hits l.at

abbrev pub decreases-loop-at : goal.decreases-loop-at
decreases-loop-at l = l.opened.control.end - l.at
