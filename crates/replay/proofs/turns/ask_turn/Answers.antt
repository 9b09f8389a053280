use Rattle.replay.proofs.Turning.{spot_is, asked_turns}
use Rattle.replay.proofs.turns.ask_turn.Goals as goal

pub returns : goal.returns
returns c = let spot = spot_is c.ask-found.result c.unwrap_or_default-start.result c.unwrap_or_default-start.ensures in search asked_turns
