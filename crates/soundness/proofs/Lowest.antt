-- The check's table ascends, so its answer is the lowest that applies.
use mathlib.Core.Path.{refl}
use mathlib.Core.Bool.{not}
use mathlib.Core.List.{[], ◌∷◌}
use Rattle.store.specs.Store.{Store}
use Rattle.store.specs.Answer.{number_of, refuse}
use Rattle.store.specs.Refusals.{gated}
use Rattle.store.specs.declared.answer.Refusal.TheVariants.{NotSound}
use Rattle.store.proofs.Lowest.{above, IsLowest, lowest_is_lowest}
use Rattle.soundness.specs.Sound.{body_sound, check_answer}
use Rattle.soundness.specs.Recount.{recount_refusals, recount_answer}

pub check_lowest : (s : Store) → IsLowest (gated s (refuse NotSound (not (body_sound s)) ∷ [])) (check_answer s)
unfolding check_answer above number_of
check_lowest s = lowest_is_lowest (gated s (refuse NotSound (not (body_sound s)) ∷ [])) refl

pub recount_lowest : (s : Store) → IsLowest (recount_refusals s) (recount_answer s)
unfolding recount_answer above number_of
recount_lowest s = lowest_is_lowest (recount_refusals s) refl
