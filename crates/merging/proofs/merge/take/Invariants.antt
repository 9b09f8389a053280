-- What is taken and what the two heads stand for are the merged MFNs, after each turn.
use Prim.Native.Nat.{◌+◌}
use Rattle.merging.specs.Heads.{head_size}
use Rattle.merging.specs.Calls.{both_of}
use Rattle.merging.proofs.Stepping.{items, Standing, Turning}
use Rattle.merging.proofs.merge.take.Given as goal

abbrev pub invariant-loop-out : goal.invariant-loop-out
invariant-loop-out l = Turning l.ifp (both_of l.which) l.put l.initial.x l.initial.y l.initial.last l.initial.out l.initial.i l.out l.x l.y l.last l.i

abbrev pub decreases-loop-out : goal.decreases-loop-out
decreases-loop-out l = head_size l.ifp l.x + head_size l.ifp l.y

abbrev pub invariant-loop-x : goal.invariant-loop-x
invariant-loop-x l = Standing l.ifp (both_of l.which) l.put (items (both_of l.which) l.ifp l.initial.last l.initial.x l.initial.y) l.initial.out l.out l.x l.y l.last l.i

abbrev pub decreases-loop-x : goal.decreases-loop-x
decreases-loop-x l = head_size l.ifp l.x + head_size l.ifp l.y
