use Rattle.std.proofs.lemmas.Result.{err_from_is_err_and}
use Rattle.store.proofs.GateAnswers.{gate_answers}
use Rattle.store.proofs.gate.OpenStore.find_record.Goals as goal

pub returns-then-m-lt1 : goal.returns-then-m-lt1
returns-then-m-lt1 c = search gate_answers

pub entry_at-entry-requires : goal.entry_at-entry-requires
entry_at-entry-requires c = search gate_answers

pub returns-in_err-place_of : goal.returns-in_err-place_of
returns-in_err-place_of c =
    let p = err_from_is_err_and c.from_residual.result c.from_residual.ensures.1 in
    rw (p.1, p.2) (search (gate_answers, c.in_err-place_of.was))

pub test_place-requires : goal.test_place-requires
test_place-requires c = search (gate_answers, c.in_ok-place_of.was)

pub returns : goal.returns
returns c = search (gate_answers, c.in_ok-place_of.was)
