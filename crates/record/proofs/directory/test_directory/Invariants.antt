-- `test_directory`: the entries so far are past, and the others are asked after the sum of their lengths.
use Rattle.std.proofs.Common.{◌≡◌, ◌≤◌, ◌-◌, ◌*◌}
use Rattle.record.specs.Directory.{isis}
use Rattle.record.specs.Inner.{past}
use Rattle.record.proofs.directory.test_directory.Given as goal

abbrev pub invariant-loop-k : goal.invariant-loop-k
invariant-loop-k l = (l.pos ≤ l.room) × (past isis l.rec l.room l.nvf 0 0 ≡ past isis l.rec l.room (l.nvf - 4 * l.k) (4 * l.k) l.pos)

abbrev pub invariant-loop-i : goal.invariant-loop-i
invariant-loop-i l = (l.pos ≤ l.room) × (past isis l.rec l.room l.nvf 0 0 ≡ past isis l.rec l.room (l.nvf - l.i) l.i l.pos)
