-- `tally_entries`: the entries before m are fine, the places that they name are counted, and so are those that are live.
use native.Mathlib.Omega.{arith}
use Rattle.soundness.proofs.PassAnswers.{tally_few, live_few, tally_answers, open_few}
use Rattle.soundness.proofs.passes.tally_entries.Goals as goal

pub loop-m-init : goal.loop-m-init
loop-m-init c = search tally_answers

pub returns-in_err-one : goal.returns-in_err-one
returns-in_err-one c = rw c.from_residual.ensures (search (tally_answers, c.in_err-one.was))

pub overflow_add-named : goal.overflow_add-named
overflow_add-named c = omega (arith, open_few, tally_few _ _ _ _ c.tally_entry.ensures _ c.in_ok-one.was)

pub overflow_add-live : goal.overflow_add-live
overflow_add-live c = omega (arith, open_few, live_few _ _ _ _ c.tally_entry.ensures _ c.in_ok-one.was)

pub loop-m-preserved : goal.loop-m-preserved
loop-m-preserved c = search (tally_answers, c.in_ok-one.was)

pub returns : goal.returns
returns c = search tally_answers
