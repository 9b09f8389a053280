-- After k turns the first k postings are written.
use mathlib.Core.Path.{◌≡◌}
use Rattle.word.specs.Overwrite.{overwrite}
use Rattle.postings.specs.Cursor.{row}
use Rattle.postings.proofs.list.copy_run.Given as goal

abbrev pub invariant-loop-k : goal.invariant-loop-k
invariant-loop-k l = l.out ≡ overwrite l.initial.out l.i (row l.ifp l.k l.at)
