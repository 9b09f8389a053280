-- After i postings the first i ascend, and what is left to ask is of the others.
use Prim.Native.Nat.{suc, ◌+◌, ◌*◌, ◌-◌}
use mathlib.Core.Path.{◌≡◌}
use Rattle.postings.specs.Rules.{above}
use Rattle.postings.specs.Cursor.{row}
use Rattle.postings.proofs.list.climbs.Given as goal

abbrev pub invariant-loop-k : goal.invariant-loop-k
invariant-loop-k l = above (suc l.first) (row l.ifp l.n l.start) ≡ above (suc l.last) (row l.ifp (l.n - 4 * l.k) (l.start + 8 * (4 * l.k)))

abbrev pub invariant-loop-i : goal.invariant-loop-i
invariant-loop-i l = above (suc l.first) (row l.ifp l.n l.start) ≡ above (suc l.last) (row l.ifp (l.n - l.i) (l.start + 8 * l.i))
