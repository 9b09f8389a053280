use native.Mathlib.Omega.{arith}
use Rattle.index.proofs.Shapes.{there_facts}
use Rattle.index.proofs.rules.count_at.Goals as goal

pub place-requires : goal.place-requires
place-requires c = (c.requires.0, (there_facts _ _ _ c.requires.1).number_low)

pub u16_at-requires : goal.u16_at-requires
u16_at-requires c = let t = there_facts _ _ _ c.requires.1 in omega arith
