use Rattle.std.proofs.lemmas.Result.{err_from_is_err_and}
use Rattle.replay.proofs.Turning.{written_answers}
use Rattle.replay.proofs.turns.write.Goals as goal

pub returns-in-Format : goal.returns-in-Format
returns-in-Format c = search written_answers

pub returns-in-Update : goal.returns-in-Update
returns-in-Update c = search written_answers

pub returns-in-Delete : goal.returns-in-Delete
returns-in-Delete c = search written_answers

pub returns-in-Settle : goal.returns-in-Settle
returns-in-Settle c = search written_answers

pub returns-in-Revert : goal.returns-in-Revert
returns-in-Revert c = search written_answers

pub returns-in-Migrate : goal.returns-in-Migrate
returns-in-Migrate c = search written_answers

pub returns-in-Recount : goal.returns-in-Recount
returns-in-Recount c = search written_answers

pub returns-in_err-mfn-in-Create : goal.returns-in_err-mfn-in-Create
returns-in_err-mfn-in-Create c =
    let p = err_from_is_err_and c.from_residual.result c.from_residual.ensures.1 in
    rw (p.1, p.2) (search (written_answers, c.in_err-mfn-in-Create.ensures))

pub returns-in_ok-mfn-in-Create : goal.returns-in_ok-mfn-in-Create
returns-in_ok-mfn-in-Create c = search (written_answers, c.in_ok-mfn-in-Create.ensures)
