use Rattle.std.proofs.Common.{◌≡◌, arith}
use Rattle.std.specs.Option.{ok_or}
use Rattle.store.specs.declared.answer.Refusal.TheVariants.{NotSound}
use Rattle.soundness.proofs.CheckAnswers.{counted_live}
use Rattle.soundness.proofs.check.count_live.Goals as goal

pub returns : goal.returns
returns c =
    let e : c.ok_or.result ≡ ok_or c.sound_apart.result NotSound = grind arith in
    rw e (counted_live _ _ _ c.in_ok-opened.ensures.lent _ c.in_ok-opened.opened.open _ c.sound_apart.ensures)
