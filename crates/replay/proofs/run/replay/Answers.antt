use Rattle.replay.proofs.Telling.{replays}
use Rattle.replay.proofs.run.replay.Goals as goal

pub returns-then-is_err : goal.returns-then-is_err
returns-then-is_err c = search replays

pub run-requires : goal.run-requires
run-requires c = search replays

pub returns : goal.returns
returns c = search replays
