use native.Mathlib.Omega.{arith}
use Rattle.index.proofs.Shapes.{there_facts, first_in}
use Rattle.index.proofs.rules.Records.first_key.Goals as goal

pub key_place-requires : goal.key_place-requires
key_place-requires g c = (omega arith, ((there_facts _ _ _ c.requires).number_low, omega arith))

pub part-requires : goal.part-requires
part-requires g c = let h = first_in _ _ _ c.width-width.ensures.fits.most_low c.requires in omega arith
