use Rattle.std.proofs.lemmas.Result.{err_from_is_err_and}
use Rattle.store.proofs.GateAnswers.{gate_answers}
use Rattle.store.proofs.gate.OpenStore.find_both.Goals as goal

pub returns-in_err-record : goal.returns-in_err-record
returns-in_err-record c =
    let p = err_from_is_err_and c.from_residual.result c.from_residual.ensures.1 in
    rw (p.1, p.2) (search (gate_answers, c.in_err-record.was))

pub returns-then-ne : goal.returns-then-ne
returns-then-ne c = search (gate_answers, c.in_ok-record.was)

pub address-at-requires : goal.address-at-requires
address-at-requires c = search (gate_answers, c.in_ok-record.was)

pub settled_fine-requires : goal.settled_fine-requires
settled_fine-requires c = search (gate_answers, c.in_ok-record.was)

pub returns-then-not-settled_fine : goal.returns-then-not-settled_fine
returns-then-not-settled_fine c = search (gate_answers, c.in_ok-record.was)

pub returns : goal.returns
returns c = search (gate_answers, c.in_ok-record.was)
