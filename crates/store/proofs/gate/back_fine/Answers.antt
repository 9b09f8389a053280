use Rattle.store.proofs.GateAnswers.{gate_answers}
use Rattle.store.proofs.gate.back_fine.Goals as goal

pub returns-then-not-back_right : goal.returns-then-not-back_right
returns-then-not-back_right c = search gate_answers

pub address-requires : goal.address-requires
address-requires c = search gate_answers

pub returns-then-ne : goal.returns-then-ne
returns-then-ne c = rw c.if-ne.true (search gate_answers)

pub returns-else-ne : goal.returns-else-ne
returns-else-ne c = search gate_answers
