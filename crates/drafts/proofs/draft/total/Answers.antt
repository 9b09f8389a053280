use native.Mathlib.Omega.{arith}
use Rattle.drafts.proofs.DraftFields.{sum_none}
use Rattle.drafts.proofs.draft.total.Goals as goal

pub loop-i-init : goal.loop-i-init
loop-i-init c = (sum_none, omega arith)
