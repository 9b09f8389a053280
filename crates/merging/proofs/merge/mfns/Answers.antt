use Rattle.std.proofs.lemmas.Result.{err_from_is_err_and}
use Rattle.postings.proofs.Answers.{Answered}
use Rattle.postings.proofs.Opening.{sound_yes, sound_not}
use Rattle.merging.specs.Calls.{both_of, both_right, merged_of}
use Rattle.posting.specs.declared.answer.Refusal.TheVariants.{Broken}
use Rattle.std.proofs.Common.{Err}
use Rattle.merging.proofs.Both.{sound_reads, mfns_first, mfns_second, mfns_most, mfns_given}
use Rattle.merging.proofs.merge.mfns.Goals.{then-not-right-via-then-not-right, then-not-right-via-else-not-right+then-not-right-2, Joined-then-not-right}
use Rattle.merging.proofs.merge.mfns.Goals as goal

pub returns-in_err-x : goal.returns-in_err-x
returns-in_err-x c =
    let e = err_from_is_err_and c.from_residual.result c.from_residual.ensures.1 in
    let b = c.in_err-x.ensures.broken in
    let p = mfns_first c.args.ifp.now c.args.a c.args.b (both_of c.args.which) c.args.out.now b.1 in
    record { answers = rw (e.1, e.2, b.0) p.answers; writes = p.writes }

pub returns-in_err-y : goal.returns-in_err-y
returns-in_err-y c =
    let e = err_from_is_err_and c.from_residual-in_err-y.result c.from_residual-in_err-y.ensures.1 in
    let b = c.in_err-y.ensures.broken in
    let p = mfns_second c.args.ifp.now c.args.a c.args.b (both_of c.args.which) c.args.out.now b.1 in
    record { answers = rw (e.1, e.2, b.0) p.answers; writes = p.writes }

-- one of the two lists breaks a rule
broken : (c : Joined-then-not-right)
    → Answered (both_right c.args.ifp.now c.args.a c.args.b) (merged_of (both_of c.args.which) c.args.ifp.now c.args.a c.args.b) c.args.out.now (Err Broken) c.args.out.now
broken c =
    elim c.then-not-right.branch [
      | then-not-right-via-then-not-right w ↦ mfns_first _ _ _ _ _ (sound_not _ _ _ c.in_ok-x.ensures.opens _ c.right.ensures w.if-not-right.true)
      | then-not-right-via-else-not-right+then-not-right-2 w ↦ mfns_second _ _ _ _ _ (sound_not _ _ _ c.in_ok-y.ensures.opens _ w.right-else-not-right.ensures w.if-not-right-2.true)
    ]

pub returns-then-not-right : goal.returns-then-not-right
returns-then-not-right c = let p = broken c in record { answers = p.answers; writes = p.writes }

pub merge-requires : goal.merge-requires
merge-requires c =
    let s = sound_yes _ _ _ c.in_ok-x.ensures.opens _ c.right.ensures c.if-not-right.false in
    let t = sound_yes _ _ _ c.in_ok-y.ensures.opens _ c.right-else-not-right.ensures c.if-not-right-2.false in
    let m = c.most.ensures in
    (sound_reads _ _ _ s, sound_reads _ _ _ t, mfns_most _ _ _ _ c.args.out.now _ _ s t _ m.0, m.1)

pub returns : goal.returns
returns c =
    let s = sound_yes _ _ _ c.in_ok-x.ensures.opens _ c.right.ensures c.if-not-right.false in
    let t = sound_yes _ _ _ c.in_ok-y.ensures.opens _ c.right-else-not-right.ensures c.if-not-right-2.false in
    let m = c.merge.ensures in
    let p = mfns_given _ _ _ _ c.args.out.now _ _ s t _ _ (record { answers = m.answers; writes = m.writes }) in
    record { answers = p.answers; writes = p.writes }
