-- `replay_lists`: each turn reads a number or more.
use Rattle.std.proofs.Common.{length}
use Rattle.replay_run.proofs.replay_lists.Given as goal

abbrev pub decreases-loop-first : goal.decreases-loop-first
decreases-loop-first g l = length l.numbers.text.now
