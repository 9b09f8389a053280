-- What is given and what is still to come are the postings, after each run.
use mathlib.Core.Path.{◌≡◌}
use mathlib.Core.Bool.{true}
use lib.ListN.{length}
use Rattle.postings.specs.Cursor.{InBlock, rest_of, stands_right}
use Rattle.postings.proofs.Steps.{Gave}
use Rattle.postings.proofs.list.give.Given as goal

abbrev pub invariant-loop-d : goal.invariant-loop-d
invariant-loop-d l = InBlock l.ifp l.c × (stands_right l.ifp l.c ≡ true) × Gave (rest_of l.ifp l.initial.c) (rest_of l.ifp l.c) l.initial.out l.out l.i

abbrev pub decreases-loop-d : goal.decreases-loop-d
decreases-loop-d l = length (rest_of l.ifp l.c)
