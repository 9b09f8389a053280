use Rattle.postings.proofs.Cursors.{Moved}
use Rattle.postings.proofs.cursor.settle.Given as goal

abbrev pub invariant-loop-c : goal.invariant-loop-c
invariant-loop-c l = Moved l.ifp l.initial.c l.c

abbrev pub decreases-loop-c : goal.decreases-loop-c
decreases-loop-c l = l.c.fuel
