-- The table of each of these calls ascends, so its answer is the lowest that applies.
use mathlib.Core.Path.{refl}
use Prim.Native.Nat.{ℕ}
use Rattle.store.specs.Store.{Store}
use Rattle.store.specs.Answer.{number_of}
use Rattle.store.proofs.Lowest.{above, IsLowest, lowest_is_lowest}
use Rattle.asking.specs.Listing.{Lists, all_fields_refusals, all_fields_answer, settled_all_fields_refusals, settled_all_fields_answer}
use Rattle.asking.specs.State.{next_free_refusals, next_free_answer, state_refusals, state_answer}

module _ (s : Store) (m : ℕ) where
  pub all_fields_lowest : (l : Lists) → IsLowest (all_fields_refusals s m l) (all_fields_answer s m l)
  unfolding all_fields_answer above number_of
  all_fields_lowest l = lowest_is_lowest (all_fields_refusals s m l) refl

  pub settled_all_fields_lowest : (l : Lists) → IsLowest (settled_all_fields_refusals s m l) (settled_all_fields_answer s m l)
  unfolding settled_all_fields_answer above number_of
  settled_all_fields_lowest l = lowest_is_lowest (settled_all_fields_refusals s m l) refl

  pub state_lowest : IsLowest (state_refusals s m) (state_answer s m)
  unfolding state_answer above number_of
  state_lowest = lowest_is_lowest (state_refusals s m) refl

pub next_free_lowest : (s : Store) → IsLowest (next_free_refusals s) (next_free_answer s)
unfolding next_free_answer above number_of
next_free_lowest s = lowest_is_lowest (next_free_refusals s) refl
