-- `total`: the lengths before i are summed.
use Prim.Native.Nat.{◌*◌, ◌≤◌}
use mathlib.Core.Path.{◌≡◌}
use lib.ListN.{take}
use Rattle.drafts.specs.Draft.{sum}
use Rattle.drafts.proofs.draft.total.Given as goal

abbrev pub invariant-loop-i : goal.invariant-loop-i
invariant-loop-i l = (l.total ≡ sum (take l.i l.lens)) × (l.total ≤ 65535 * l.i)
