-- `read`: what is left of the text is no longer than it was.
use Rattle.std.proofs.Common.{◌≤◌, length}
use Rattle.lists.proofs.numbers.Numbers.read.Given as goal

abbrev pub invariant-loop-x : goal.invariant-loop-x
invariant-loop-x g l = length l.self.text.now ≤ length l.initial.self.text.now
