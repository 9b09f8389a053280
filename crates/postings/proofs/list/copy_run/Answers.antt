-- After k turns the first k postings are written.
use native.Mathlib.Omega.{arith}
use Rattle.postings.proofs.Giving.{copied_none, copied_more}
use Rattle.postings.proofs.list.copy_run.Goals as goal

pub loop-k-init : goal.loop-k-init
loop-k-init c = copied_none _ _ _ _

pub loop-k-preserved : goal.loop-k-preserved
loop-k-preserved c =
    copied_more _ c.args.at _ _ c.loop-k.k _ _ c.loop-k.invariant (omega arith) c.posting_at.ensures
