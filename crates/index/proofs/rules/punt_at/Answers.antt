use native.Mathlib.Omega.{arith}
use Rattle.index.proofs.Shapes.{any_facts, any_in}
use Rattle.index.proofs.rules.punt_at.Goals as goal

pub key_place-requires : goal.key_place-requires
key_place-requires c = let r = any_facts _ _ _ c.requires.1 in let m = c.requires.0.most_high in (c.requires.0, r.place_low, omega arith)

pub overflow_add-key_place : goal.overflow_add-key_place
overflow_add-key_place c = let h = any_in _ _ _ _ c.requires.1 c.requires.2 in let w = c.requires.0.step_low in omega arith

pub u32_at-requires : goal.u32_at-requires
u32_at-requires c = let h = any_in _ _ _ _ c.requires.1 c.requires.2 in let w = c.requires.0.step_low in omega arith
