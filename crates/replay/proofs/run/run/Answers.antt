use native.Mathlib.Omega.{arith}
use mathlib.Core.Path.{refl}
use Rattle.replay.proofs.Running.{goings}
use Rattle.replay.proofs.Telling.{runs}
use Rattle.replay.proofs.run.run.Goals as goal

pub loop-next-init : goal.loop-next-init
loop-next-init c = (search goings, refl, refl)

pub one_turn-requires : goal.one_turn-requires
one_turn-requires c = c.loop-next.invariant.0.within

pub loop-next-smaller : goal.loop-next-smaller
loop-next-smaller c = search goings

pub loop-next-preserved : goal.loop-next-preserved
loop-next-preserved c = (search goings, omega arith, omega arith)

pub returns-in-Err : goal.returns-in-Err
returns-in-Err c = runs (search goings)
