-- The table of each call that only reads ascends, so its answer is the lowest that applies.
use mathlib.Core.Path.{refl}
use Prim.Native.Nat.{ℕ}
use Rattle.store.specs.Store.{Store}
use Rattle.store.specs.Answer.{number_of}
use Rattle.store.proofs.Lowest.{above, IsLowest, lowest_is_lowest}
use Rattle.views.specs.Views.{view_refusals, view_answer, settled_view_refusals, settled_view_answer}
use Rattle.views.specs.Fields.{field_refusals, field_answer, settled_field_refusals, settled_field_answer}

module _ (s : Store) (m : ℕ) where
  pub view_lowest : (tag occ : ℕ) → IsLowest (view_refusals s m tag occ) (view_answer s m tag occ)
  unfolding view_answer above number_of
  view_lowest tag occ = lowest_is_lowest (view_refusals s m tag occ) refl

  pub settled_view_lowest : (tag occ : ℕ) → IsLowest (settled_view_refusals s m tag occ) (settled_view_answer s m tag occ)
  unfolding settled_view_answer above number_of
  settled_view_lowest tag occ = lowest_is_lowest (settled_view_refusals s m tag occ) refl

  pub field_lowest : (i : ℕ) → IsLowest (field_refusals s m i) (field_answer s m i)
  unfolding field_answer above number_of
  field_lowest i = lowest_is_lowest (field_refusals s m i) refl

  pub settled_field_lowest : (i : ℕ) → IsLowest (settled_field_refusals s m i) (settled_field_answer s m i)
  unfolding settled_field_answer above number_of
  settled_field_lowest i = lowest_is_lowest (settled_field_refusals s m i) refl
