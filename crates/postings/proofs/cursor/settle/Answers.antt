use Rattle.postings.proofs.Cursors.{settle_over, settle_none, settle_bad, settle_enter, settle_on}
use Rattle.postings.proofs.cursor.settle.Goals as goal

pub returns-then-is_end : goal.returns-then-is_end
returns-then-is_end c =
    settle_over _ _ _ c.loop-c.invariant c.loop-c-test.true _ c.is_end.ensures c.if-is_end.true

pub returns-then-c-eq0 : goal.returns-then-c-eq0
returns-then-c-eq0 c =
    settle_none _ _ _ c.loop-c.invariant c.loop-c-test.true _ c.is_end.ensures c.if-is_end.false c.if-c-eq0.true

pub returns-in_default : goal.returns-in_default
returns-in_default c =
    settle_bad _ _ _ c.loop-c.invariant c.loop-c-test.true _ c.is_end.ensures c.if-is_end.false c.if-c-eq0.false _
    c.read_header.ensures c.in_default.is

pub loop-c-preserved : goal.loop-c-preserved
loop-c-preserved c =
    settle_enter _ _ _ c.loop-c.invariant c.loop-c-test.true _ c.is_end.ensures c.if-is_end.false c.if-c-eq0.false _
    c.read_header.ensures _ c.in-Some.is

pub returns : goal.returns
returns c = settle_on _ _ _ c.loop-c.invariant c.loop-c-test.false
