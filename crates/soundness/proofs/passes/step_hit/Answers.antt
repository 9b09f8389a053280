use Rattle.soundness.proofs.PassAnswers.{hit_answers}
use Rattle.soundness.proofs.passes.step_hit.Goals.{then-m-lt1-via-then-m-lt1, then-m-lt1-via-else-m-lt1+then-opened-m}
use Rattle.soundness.proofs.passes.step_hit.Goals as goal

pub slice_bounds-read_leader-end : goal.slice_bounds-read_leader-end
slice_bounds-read_leader-end c = search hit_answers

pub returns-then-m-lt1 : goal.returns-then-m-lt1
returns-then-m-lt1 c =
    elim c.then-m-lt1.branch [
      | then-m-lt1-via-then-m-lt1 w ↦ search hit_answers
      | then-m-lt1-via-else-m-lt1+then-opened-m w ↦ search hit_answers
    ]

pub entry_at-requires : goal.entry_at-requires
entry_at-requires c = search hit_answers

pub returns-in_default : goal.returns-in_default
returns-in_default c = search hit_answers

pub place_hit-requires : goal.place_hit-requires
place_hit-requires c = search hit_answers

pub returns : goal.returns
returns c = search hit_answers
