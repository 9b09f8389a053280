use native.Mathlib.Omega.{arith}
use Rattle.index.proofs.Shapes.{right_facts, active_in}
use Rattle.index.proofs.rules.Records.behind_key.Goals as goal

pub key_place-requires : goal.key_place-requires
key_place-requires g c = let r = right_facts _ _ _ c.requires.0 in let m = c.width-width.ensures.fits.most_high in (omega arith, (r.place_low, omega arith))

pub overflow_add-result : goal.overflow_add-result
overflow_add-result g c = let h = active_in _ _ _ _ c.requires.0 c.requires.1 in omega arith

pub returns-clause-inside : goal.returns-clause-inside
returns-clause-inside g c = let h = active_in _ _ _ _ c.requires.0 c.requires.1 in omega arith
