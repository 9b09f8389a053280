-- `settle_list`: after i turns the first i MFNs of the list are settled and answered (`Settled`).
use mathlib.Core.Bool.{not}
use mathlib.Core.Path.{ap}
use borrow.Author.Rules.{rules}
use native.Mathlib.Omega.{arith}
use Rattle.settling.proofs.Folding.{settled_none, list_refused, settled_more, settled_all}
use Rattle.settling.proofs.settle_list.settle_list.Goals as goal

pub returns-then-not-lists_right : goal.returns-then-not-lists_right
returns-then-not-lists_right c =
    let h = list_refused _ _ _ _ _ c.lists_right.ensures (ap not c.if-not-lists_right.true) in
    record { answers = h.0; left = h.1.0; told = h.1.1 }

pub loop-i-init : goal.loop-i-init
loop-i-init c = settled_none _ _ _ _ _ c.lists_right.ensures (ap not c.if-not-lists_right.false)

pub loop-i-preserved : goal.loop-i-preserved
loop-i-preserved c =
    let e = c.settle-answer.ensures in
    settled_more c.loop-i.invariant _ _ _ _ (omega arith) e.answers e.left (search rules) (search rules) c.number.ensures

pub returns : goal.returns
returns c =
    let h = settled_all c.loop-i.invariant (omega arith) in
    record { answers = h.0; left = h.1.0; told = h.1.1 }
