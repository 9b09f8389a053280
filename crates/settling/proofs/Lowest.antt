-- The table of the call ascends, so its answer is the lowest that applies.
use Prim.Native.Nat.{ℕ}
use mathlib.Core.Path.{refl}
use Rattle.store.specs.Answer.{number_of}
use Rattle.store.proofs.Lowest.{above, IsLowest, lowest_is_lowest}
use Rattle.settling.specs.SettleList.{settle_list_refusals, settle_list_answer}

pub settle_list_lowest : (mfns answers : ℕ) → IsLowest (settle_list_refusals mfns answers) (settle_list_answer mfns answers)
unfolding settle_list_answer above number_of
settle_list_lowest mfns answers = lowest_is_lowest (settle_list_refusals mfns answers) refl
