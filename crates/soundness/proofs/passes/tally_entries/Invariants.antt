-- `tally_entries`: the entries before m are fine, the places that they name are counted, and so are those that are live.
use Prim.Native.Nat.{◌≤◌}
use Rattle.soundness.proofs.PassAnswers.{Tallied}
use Rattle.soundness.proofs.passes.tally_entries.Given as goal

abbrev pub invariant-loop-m : goal.invariant-loop-m
invariant-loop-m l = (1 ≤ l.m) × Tallied l.opened.mst.now l.opened.xrf.now l.m l.named l.live
