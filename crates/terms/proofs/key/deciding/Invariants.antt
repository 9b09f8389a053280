-- Before turn i the first 8 * i bytes agree, and in any case the first 8.
use Prim.Native.Nat.{◌*◌}
use Rattle.terms.proofs.Chunks.{Agree}
use Rattle.terms.proofs.key.deciding.Given as goal

abbrev pub invariant-loop-i : goal.invariant-loop-i
invariant-loop-i l = Agree l.a l.b (8 * l.i)
