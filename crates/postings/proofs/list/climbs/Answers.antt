-- After i postings the first i ascend, and what is left to ask is of the others.
use native.Mathlib.Omega.{arith}
use Rattle.postings.proofs.Ascent.{climb_four_falls, climb_four, climb_falls, climb_more, climb_done}
use Rattle.postings.proofs.list.climbs.Goals as goal

pub returns-then-not-four_climb : goal.returns-then-not-four_climb
returns-then-not-four_climb c =
    let l = c.loop-k in
    climb_four_falls _ _ _ _ l.last l.k c.loop-k-test.true l.invariant _ c.four_climb.ensures c.if-not-four_climb.true

pub loop-k-preserved : goal.loop-k-preserved
loop-k-preserved c =
    let l = c.loop-k in
    climb_four _ _ _ _ l.last l.k c.loop-k-test.true l.invariant _ c.four_climb.ensures c.if-not-four_climb.false _ c.posting_at-last.ensures

pub returns-then-p-last : goal.returns-then-p-last
returns-then-p-last c =
    let l = c.loop-i in
    climb_falls _ _ _ _ l.last l.i c.loop-i-test.true l.invariant _ c.posting_at-p.ensures c.if-p-last.true

pub loop-i-preserved : goal.loop-i-preserved
loop-i-preserved c =
    let l = c.loop-i in
    climb_more _ _ _ _ l.last l.i c.loop-i-test.true l.invariant _ c.posting_at-p.ensures (omega (arith, c.if-p-last.false))

pub returns : goal.returns
returns c = climb_done _ _ _ _ c.loop-i.last c.loop-i.i c.loop-i-test.false c.loop-i.invariant
