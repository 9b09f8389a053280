use Rattle.writing.proofs.Plans.{slot_answers}
use Rattle.writing.proofs.create.create_slot.Goals as goal

pub returns-then-next-capacity : goal.returns-then-next-capacity
returns-then-next-capacity c = search slot_answers

pub returns-then-not-head_right : goal.returns-then-not-head_right
returns-then-not-head_right c = search slot_answers

pub returns-then-not-slot_free : goal.returns-then-not-slot_free
returns-then-not-slot_free c = search slot_answers

pub returns-then-mst-control : goal.returns-then-mst-control
returns-then-mst-control c = search slot_answers

pub returns : goal.returns
returns c = search slot_answers
