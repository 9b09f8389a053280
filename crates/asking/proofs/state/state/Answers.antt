use Rattle.std.proofs.lemmas.Result.{err_from_is_err_and}
use Rattle.asking.proofs.StateAnswers.{state_answers}
use Rattle.asking.proofs.state.state.Goals as goal

pub returns-in_err-place : goal.returns-in_err-place
returns-in_err-place c =
    let p = err_from_is_err_and c.from_residual.result c.from_residual.ensures.1 in
    rw (p.1, p.2) (search (state_answers, c.in_err-place.was))

pub returns : goal.returns
returns c = search (state_answers, c.in_ok-place.was)
