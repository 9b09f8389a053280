-- `settle_list`: after i turns the first i MFNs of the list are settled and answered (`Settled`).
use Rattle.store.specs.Store.{store}
use Rattle.settling.proofs.Folding.{Settled}
use Rattle.settling.proofs.settle_list.settle_list.Given as goal

abbrev pub invariant-loop-i : goal.invariant-loop-i
invariant-loop-i l = Settled (store l.initial.mst l.initial.xrf) l.mfns l.initial.answers l.mst l.xrf l.answers l.i
