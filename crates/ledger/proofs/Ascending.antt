-- The ledger's table of each call ascends, as the store's do, so that the first that applies is the lowest.
use mathlib.Core.Path.{◌≡◌, refl}
use mathlib.Core.Bool.{true}
use Rattle.store.specs.Answer.{number_of}
use Rattle.store.proofs.Lowest.{above, ascends, IsLowest, lowest_is_lowest}
use Rattle.ledger.specs.Call.{Call, format, view, view_settled, create, update, delete, settle, revert, check, migrate, settle_list, recount}
use Rattle.ledger.specs.Ledger.{Ledger}
use Rattle.ledger.specs.LedgerAnswers.{refusals_l, number_l, reply_l}

pub tables_ascend : (L : Ledger) (c : Call) → ascends (refusals_l L c) ≡ true
unfolding refusals_l above number_of reply_l
tables_ascend L format = refl
tables_ascend L (view m tag occ) = refl
tables_ascend L (view_settled m tag occ) = refl
tables_ascend L (create d) = refl
tables_ascend L (update m d) = refl
tables_ascend L (delete m) = refl
tables_ascend L (settle m) = refl
tables_ascend L (revert m) = refl
tables_ascend L check = refl
tables_ascend L migrate = refl
tables_ascend L (settle_list ms lent) = refl
tables_ascend L recount = refl

-- THE ANSWER IS THE LOWEST that applies
pub number_lowest : (L : Ledger) (c : Call) → IsLowest (refusals_l L c) (number_l L c)
unfolding number_l
number_lowest L c = lowest_is_lowest (refusals_l L c) (tables_ascend L c)
