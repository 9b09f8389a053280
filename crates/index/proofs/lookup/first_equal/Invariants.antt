-- Before turn i what all entries answer is what those from i on do.
use Prim.Native.Nat.{◌-◌}
use mathlib.Core.Path.{◌≡◌}
use Rattle.index.specs.Layout.{ock_at}
use Rattle.index.specs.Lookup.{first_equal, entries_of, entries_from}
use Rattle.index.proofs.lookup.first_equal.Given as goal

abbrev pub invariant-loop-i : goal.invariant-loop-i
invariant-loop-i l =
    first_equal l.key (entries_of l.leaves.file.now l.leaves.shape l.n)
    ≡ first_equal l.key (entries_from l.leaves.file.now l.leaves.shape l.n (ock_at l.leaves.file.now l.leaves.shape l.n - l.i) l.i)
