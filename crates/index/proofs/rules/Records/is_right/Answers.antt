use native.Mathlib.Omega.{arith}
use Rattle.index.proofs.Shapes.{there_facts}
use Rattle.index.proofs.rules.Records.is_right.Goals as goal

pub place-at-requires : goal.place-at-requires
place-at-requires g c = (omega arith, (there_facts _ _ _ c.requires).number_low)

pub u32_at-number-requires : goal.u32_at-number-requires
u32_at-number-requires g c = let t = there_facts _ _ _ c.requires in omega arith

pub u16_at-kind-requires : goal.u16_at-kind-requires
u16_at-kind-requires g c = let t = there_facts _ _ _ c.requires in omega arith
