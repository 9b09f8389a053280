-- After i turns the first i bytes of src are written.
use mathlib.Core.Path.{◌≡◌}
use lib.ListN.{length, take}
use Rattle.word.specs.Overwrite.{overwrite}
use Rattle.word.proofs.bytes.copy_to.Given as goal

abbrev pub invariant-loop-i : goal.invariant-loop-i
invariant-loop-i l = (length l.to ≡ length l.src) × (l.to ≡ overwrite l.initial.to 0 (take l.i l.src))
