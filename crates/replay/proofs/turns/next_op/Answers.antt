use Rattle.replay.proofs.Turning.{first_ops}
use Rattle.replay.proofs.turns.next_op.Goals as goal

pub returns-then-is_empty : goal.returns-then-is_empty
returns-then-is_empty c = search first_ops

pub returns-in_default : goal.returns-in_default
returns-in_default c = let chunk = c.in_default.ensures.cases in search first_ops

pub returns : goal.returns
returns c = let chunk = c.in-Some.ensures.cases in search first_ops
