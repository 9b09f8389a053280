use Rattle.soundness.proofs.CheckAnswers.{body_answers}
use Rattle.soundness.proofs.check.sound_apart.Goals.{then-not-heads_right-via-then-not-heads_right, then-not-heads_right-via-else-not-heads_right+then-not-rest_free}
use Rattle.soundness.proofs.check.sound_apart.Goals as goal

pub returns-then-not-heads_right : goal.returns-then-not-heads_right
returns-then-not-heads_right c =
    elim c.then-not-heads_right.branch [
      | then-not-heads_right-via-then-not-heads_right w ↦ search body_answers
      | then-not-heads_right-via-else-not-heads_right+then-not-rest_free w ↦ search body_answers
    ]

pub returns-then-not-walk_steps : goal.returns-then-not-walk_steps
returns-then-not-walk_steps c = search (body_answers, c.in_ok-named.was)
