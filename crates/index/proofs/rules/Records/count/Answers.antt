use native.Mathlib.Omega.{arith}
use Rattle.index.proofs.Shapes.{there_facts}
use Rattle.index.proofs.rules.Records.count.Goals as goal

pub place-requires : goal.place-requires
place-requires g c = (omega arith, (there_facts _ _ _ c.requires).number_low)

pub u16_at-requires : goal.u16_at-requires
u16_at-requires g c = let t = there_facts _ _ _ c.requires in omega arith
