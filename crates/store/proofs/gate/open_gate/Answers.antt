use Rattle.store.proofs.GateAnswers.{gate_answers}
use Rattle.store.proofs.gate.open_gate.Goals as goal

pub returns-then-not-lengths_permitted : goal.returns-then-not-lengths_permitted
returns-then-not-lengths_permitted c = search gate_answers

pub returns : goal.returns
returns c = rw c.ok_or.ensures.value (search gate_answers)
