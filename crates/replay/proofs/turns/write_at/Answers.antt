use Rattle.replay.proofs.Turning.{written_at}
use Rattle.replay.proofs.turns.write_at.Goals as goal

pub returns : goal.returns
returns c = written_at _ _ _ _ _ _ _ _ _ c.write.ensures
