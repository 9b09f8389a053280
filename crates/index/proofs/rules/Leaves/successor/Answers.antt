use native.Mathlib.Omega.{arith}
use Rattle.index.proofs.Shapes.{there_facts}
use Rattle.index.proofs.rules.Leaves.successor.Goals as goal

pub place-requires : goal.place-requires
place-requires c = (omega arith, (there_facts _ _ _ c.requires).number_low)

pub u32_at-requires : goal.u32_at-requires
u32_at-requires c = let t = there_facts _ _ _ c.requires in omega arith
