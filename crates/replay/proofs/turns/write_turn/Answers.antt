use Rattle.replay.proofs.Turning.{written_turns}
use Rattle.replay.proofs.turns.write_turn.Goals as goal

pub returns : goal.returns
returns c = search written_turns
