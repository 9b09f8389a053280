-- `test_record`: each `return` by its law, so that what is told stands in the goal.
use Rattle.std.proofs.Common.{◌≡◌, Some, None, sym, ◌∙◌, arith}
use Rattle.std.proofs.lemmas.Result.{err_from_is_err_and}
use Rattle.record.specs.declared.test.Broken.TheVariants.{Leader as BadLeader}
use Rattle.record.proofs.RecordTest.{answer_leader, answer_right, answer_wrong, need_room, need_directory}
use Rattle.record.proofs.test.test_record.Goals as goal
use Rattle.record.proofs.test.test_record.Goals.{In_ok-l}

-- the leader is right
passed : (c : In_ok-l) → c.right_leader.result ≡ Some c.in_ok-l.l
passed c = grind arith

pub returns-in_err-l : goal.returns-in_err-l
returns-in_err-l c =
    let p = err_from_is_err_and c.from_residual.result c.from_residual.ensures.1 in
    let n : c.right_leader.result ≡ None = grind arith in
    let b : c.in_err-l.field-0.0 ≡ BadLeader = grind arith in
    rw (p.1, p.2, b) (answer_leader _ _ _ (sym n ∙ c.right_leader.ensures))

pub overflow_sub-l : goal.overflow_sub-l
overflow_sub-l c = need_room _ _ _ _ (sym (passed (goal.at.overflow_sub-l c).In_ok-l) ∙ c.right_leader.ensures)

pub test_directory-requires : goal.test_directory-requires
test_directory-requires c =
    let q = need_directory _ _ _ _ (sym (passed (goal.at.test_directory-requires c).In_ok-l) ∙ c.right_leader.ensures) in
    omega arith

pub returns-in-Ok : goal.returns-in-Ok
returns-in-Ok c =
    let e = c.from-room.ensures in
    let f = c.from.ensures in
    answer_right _ _ _ _ (sym (passed (goal.at.returns-in-Ok c).In_ok-l) ∙ c.right_leader.ensures) (rw (e, f) at c.in-Ok.ensures)

pub returns-in-Err : goal.returns-in-Err
returns-in-Err c =
    let e = c.from-room.ensures in
    let f = c.from.ensures in
    answer_wrong _ _ _ _ (sym (passed (goal.at.returns-in-Err c).In_ok-l) ∙ c.right_leader.ensures) _ (rw (e, f) at c.in-Err.ensures)
