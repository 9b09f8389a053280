-- `walk_steps`: the steps before the address are walked, and the hits among them are counted.
use native.Mathlib.Omega.{arith}
use Rattle.soundness.proofs.PassAnswers.{walk_rises, walk_answers, open_mst}
use Rattle.store.proofs.Gates.{open_end_in}
use Rattle.soundness.proofs.passes.walk_steps.Goals as goal

pub loop-at-init : goal.loop-at-init
loop-at-init c = search walk_answers

pub overflow_add-at : goal.overflow_add-at
overflow_add-at c = omega (arith, open_end_in, open_mst)

pub next_step-requires : goal.next_step-requires
next_step-requires c = search walk_answers

pub returns-in_default : goal.returns-in_default
returns-in_default c = search walk_answers

pub loop-at-smaller : goal.loop-at-smaller
loop-at-smaller c =
    omega (arith, walk_rises _ _ _ _ _ c.loop-at.invariant c.loop-at-test.true _ c.next_step.ensures _ c.in-Some.is)

pub loop-at-preserved : goal.loop-at-preserved
loop-at-preserved c = search walk_answers

pub returns-then-at-opened : goal.returns-then-at-opened
returns-then-at-opened c = search walk_answers

pub returns-else-at-opened : goal.returns-else-at-opened
returns-else-at-opened c = search walk_answers
