use native.Mathlib.Omega.{arith}
use mathlib.Core.Path.{sym, ◌∙◌}
use Rattle.index.proofs.Nodes.{punts_zero}
use Rattle.index.proofs.rules.punts_right.Goals as goal

pub returns-then-punt_at-eq0 : goal.returns-then-punt_at-eq0
returns-then-punt_at-eq0 c = sym (punts_zero _ _ _ _ _ (sym c.punt_at.ensures ∙ c.if-punt_at-eq0.true) (omega arith))
