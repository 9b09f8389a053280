use native.Mathlib.Omega.{arith}
use mathlib.Core.Path.{sym, ◌∙◌}
use Rattle.index.proofs.Shapes.{there_facts}
use Rattle.index.proofs.rules.record_right.Goals as goal

pub place-at-requires : goal.place-at-requires
place-at-requires c = (c.requires, (there_facts _ _ _ (sym c.record_there.ensures ∙ c.if-not-record_there.false)).number_low)

pub u32_at-number-requires : goal.u32_at-number-requires
u32_at-number-requires c = let t = there_facts _ _ _ (sym c.record_there.ensures ∙ c.if-not-record_there.false) in omega arith

pub u16_at-kind-requires : goal.u16_at-kind-requires
u16_at-kind-requires c = let t = there_facts _ _ _ (sym c.record_there.ensures ∙ c.if-not-record_there.false) in omega arith
