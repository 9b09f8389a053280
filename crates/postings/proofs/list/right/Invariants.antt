-- What is still to come keeps the rules exactly if the whole list does, from behind each run on.
use mathlib.Core.Path.{◌≡◌}
use lib.ListN.{length}
use Rattle.postings.specs.Cursor.{InBlock, rest_of, keeps_rules, floor_of}
use Rattle.postings.proofs.list.right.Given as goal

abbrev pub invariant-loop-reached : goal.invariant-loop-reached
invariant-loop-reached l = InBlock l.ifp l.c × (keeps_rules l.ifp l.c l.due (floor_of l.last) ≡ keeps_rules l.ifp l.initial.c l.initial.due 0)

abbrev pub decreases-loop-reached : goal.decreases-loop-reached
decreases-loop-reached l = length (rest_of l.ifp l.c)
