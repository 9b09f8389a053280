-- `run`: what is reported and left so far is the first part of what the whole list gives (`Going`), and the lengths stay.
use Prim.Native.Nat.{◌-◌}
use mathlib.Core.Path.{◌≡◌}
use lib.ListN.{length}
use Rattle.store.specs.Store.{store}
use Rattle.replay.proofs.Running.{Going}
use Rattle.replay.proofs.run.run.Given as goal

abbrev pub invariant-loop-next : goal.invariant-loop-next
invariant-loop-next l =
    Going l.list.ops.now l.list.mfns.now l.list.tags.now l.list.lens.now l.list.bytes.now (store l.initial.mst l.initial.xrf) l.initial.answers l.initial.shown (store l.mst l.xrf) l.answers l.shown l.at × (length l.mst ≡ length l.initial.mst) × (length l.xrf ≡ length l.initial.xrf)

abbrev pub decreases-loop-next : goal.decreases-loop-next
decreases-loop-next l = length l.list.ops.now - l.at.calls
