-- The table of each call that may write ascends, so its answer is the lowest that applies.
use mathlib.Core.Path.{refl}
use Prim.Native.Nat.{ℕ}
use Rattle.store.specs.Store.{Store}
use Rattle.drafts.specs.Draft.{Draft}
use Rattle.store.specs.Answer.{number_of}
use Rattle.store.proofs.Lowest.{above, IsLowest, lowest_is_lowest}
use Rattle.writing.specs.Refusals.{format_refusals, format_answer, create_refusals, create_answer, update_refusals, update_answer, delete_refusals, delete_answer, settle_refusals, settle_answer, revert_refusals, revert_answer}

module _ (s : Store) where
  pub format_lowest : IsLowest (format_refusals s) (format_answer s)
  unfolding format_answer above number_of
  format_lowest = lowest_is_lowest (format_refusals s) refl

  pub create_lowest : (d : Draft) → IsLowest (create_refusals s d) (create_answer s d)
  unfolding create_answer above number_of
  create_lowest d = lowest_is_lowest (create_refusals s d) refl

  pub update_lowest : (m : ℕ) (d : Draft) → IsLowest (update_refusals s m d) (update_answer s m d)
  unfolding update_answer above number_of
  update_lowest m d = lowest_is_lowest (update_refusals s m d) refl

  pub delete_lowest : (m : ℕ) → IsLowest (delete_refusals s m) (delete_answer s m)
  unfolding delete_answer above number_of
  delete_lowest m = lowest_is_lowest (delete_refusals s m) refl

  pub settle_lowest : (m : ℕ) → IsLowest (settle_refusals s m) (settle_answer s m)
  unfolding settle_answer above number_of
  settle_lowest m = lowest_is_lowest (settle_refusals s m) refl

  pub revert_lowest : (m : ℕ) → IsLowest (revert_refusals s m) (revert_answer s m)
  unfolding revert_answer above number_of
  revert_lowest m = lowest_is_lowest (revert_refusals s m) refl
