use Rattle.store.proofs.GateAnswers.{gate_answers}
use Rattle.store.proofs.gate.test_place.Goals as goal

pub place_address-at-requires : goal.place_address-at-requires
place_address-at-requires c = search gate_answers

pub slice_bounds-test_record-count : goal.slice_bounds-test_record-count
slice_bounds-test_record-count c = search gate_answers

pub slice_bounds-test_record-start : goal.slice_bounds-test_record-start
slice_bounds-test_record-start c = search gate_answers

pub returns-in_default : goal.returns-in_default
returns-in_default c = search gate_answers

pub back_fine-requires : goal.back_fine-requires
back_fine-requires c = search gate_answers

pub returns-then-not-back_fine : goal.returns-then-not-back_fine
returns-then-not-back_fine c = search gate_answers

pub returns : goal.returns
returns c = search gate_answers
