use Rattle.store.proofs.GateAnswers.{gate_answers}
use Rattle.store.proofs.gate.settled_fine.Goals as goal

pub returns-in_default : goal.returns-in_default
returns-in_default c = search gate_answers

pub returns : goal.returns
returns c = search gate_answers
