use Rattle.std.proofs.lemmas.Result.{err_from_is_err_and}
use Rattle.postings.proofs.Answers.{answered_broken}
use Rattle.postings.proofs.Opening.{sound_yes, sound_not}
use Rattle.postings.proofs.Giving.{postings_full, postings_asked, postings_done}
use Rattle.postings.proofs.list.postings.Goals as goal

pub returns-in_err-list : goal.returns-in_err-list
returns-in_err-list c =
    let e = err_from_is_err_and c.from_residual.result c.from_residual.ensures.1 in
    let b = c.in_err-list.ensures.broken in
    let p = answered_broken _ _ c.args.out.now b.1 in
    record { answers = rw (e.1, e.2, b.0) p.answers; writes = p.writes }

pub returns-then-not-right : goal.returns-then-not-right
returns-then-not-right c =
    let p = answered_broken _ _ c.args.out.now (sound_not _ _ _ c.in_ok-list.ensures.opens _ c.right.ensures c.if-not-right.true) in
    record { answers = p.answers; writes = p.writes }

pub returns-then-out-count : goal.returns-then-out-count
returns-then-out-count c =
    let s = sound_yes _ _ _ c.in_ok-list.ensures.opens _ c.right.ensures c.if-not-right.false in
    let p = postings_full _ _ _ s _ c.if-out-count.true in
    record { answers = p.answers; writes = p.writes }

pub give-requires : goal.give-requires
give-requires c =
    let s = sound_yes _ _ _ c.in_ok-list.ensures.opens _ c.right.ensures c.if-not-right.false in
    (s.in_block, s.stands, postings_asked _ _ _ s _ c.if-out-count.false)

pub returns : goal.returns
returns c =
    let s = sound_yes _ _ _ c.in_ok-list.ensures.opens _ c.right.ensures c.if-not-right.false in
    let p = postings_done _ _ _ s _ c.if-out-count.false _ c.give.ensures in
    record { answers = p.answers; writes = p.writes }
