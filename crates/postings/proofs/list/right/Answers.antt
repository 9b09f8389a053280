-- What is still to come keeps the rules exactly if the whole list does, from behind each run on.
use Rattle.postings.proofs.Cursors.{past_in_block}
use Rattle.postings.proofs.Ascent.{right_over, right_unread, right_short, right_wrong, right_inside, right_again, right_less}
use Rattle.postings.proofs.list.right.Goals as goal

pub returns-in_default : goal.returns-in_default
returns-in_default c = right_unread _ _ _ _ _ c.loop-reached.invariant.1 c.in_default.ensures

pub returns-in_default-reached : goal.returns-in_default-reached
returns-in_default-reached c = right_over _ _ _ _ _ c.loop-reached.invariant.1 (rw c.in_default-reached.is at c.in-Ok.ensures)

pub returns-then-due-n : goal.returns-then-due-n
returns-then-due-n c =
    right_short _ _ _ (rw c.in-Some.is at c.in-Ok.ensures) _ _ _ c.loop-reached.invariant.1 _ c.run_size-n.ensures.0 c.if-due-n.true

pub returns-then-not-run_right : goal.returns-then-not-run_right
returns-then-not-run_right c =
    right_wrong _ _ _ (rw c.in-Some.is at c.in-Ok.ensures) _ _ _ c.loop-reached.invariant.1 _ c.run_size-n.ensures.0 _ c.run_right.ensures
    c.if-not-run_right.true

pub loop-reached-smaller : goal.loop-reached-smaller
loop-reached-smaller c =
    rw c.past-c.ensures
    (right_less _ _ _ (rw c.in-Some.is at c.in-Ok.ensures) c.loop-reached.due _ _ c.loop-reached.invariant.1 _ c.run_size-n.ensures.0)

pub loop-reached-preserved : goal.loop-reached-preserved
loop-reached-preserved c =
    let i = rw c.in-Some.is at c.in-Ok.ensures in
    let n = c.run_size-n.ensures.0 in
    let r = c.run_right.ensures in
    let t = c.if-not-run_right.false in
    let b = c.loop-reached.invariant.1 in (
      rw c.past-c.ensures (past_in_block c.args.ifp.now c.in-Some.d c.run_size-n.result (right_inside _ _ _ i c.loop-reached.due _ _ b _ n _ r t)),
      rw c.past-c.ensures (right_again _ _ _ i _ _ _ b _ n _ r t c.if-due-n.false _ c.posting_at-end.ensures),
    )
