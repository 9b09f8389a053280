use native.Mathlib.Omega.{arith}
use mathlib.Core.Path.{refl}
use Rattle.soundness.proofs.PassAnswers.{next_on}
use Rattle.soundness.proofs.steps.next_step.Goals as goal

pub returns : goal.returns
returns c =
    next_on _ _ _ c.requires.1 _ c.read_leader-mfrl.ensures _ refl _ c.record_length.ensures c.if-not-record_length.false (omega arith) _ c.end_moved.ensures
