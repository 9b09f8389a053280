-- `put_heads`: after k turns the first integers of the first k blocks are written.
use mathlib.Core.Path.{◌≡◌}
use lib.ListN.{length}
use Rattle.files.specs.CrossReference.{with_heads}
use Rattle.files.proofs.cross_reference.put_heads.Given as goal

abbrev pub invariant-loop-k : goal.invariant-loop-k
invariant-loop-k l = (length l.xrf ≡ length l.initial.xrf) × (l.xrf ≡ with_heads l.n l.k l.initial.xrf)
