-- What holds of the two views on any store besides, as statements: which field is shown, and which
-- kind of missing 12 and 15 say, by the fields of the version that is read. Document 01, "Records";
-- request C-15. Proved in proofs/Theorems.
use Rattle.std.specs.Prelude.{Ok, Err}
use Rattle.std.specs.Prelude.{ℕ, ◌≤◌, ◌<◌, ◌≡◌, ◌↔◌, ◌⊎◌, List, []}
use Rattle.std.proofs.Math.Option.{some}
use Rattle.record.specs.Fields.{Field, fields_of, field_named, occurrences_of}
use Rattle.store.specs.Store.{Store}
use Rattle.store.specs.Answer.{lowest, Answer}
use Rattle.store.specs.Reading.{place_for, record_at, shown_settled}
use Rattle.store.specs.declared.answer.Refusal.TheVariants.{NoField, FewerFields}
use Rattle.views.specs.Views.{on_current, on_settled, Shown, view_of, settled_view_of, shown_bytes}

-- a view of a tag and an occurrence, among the fields of a version of which the refusals before
-- these answer `before`
pub record SaysWhich (before : Answer) (mst : List ℕ) (fs : List Field) (tag occ : ℕ) (r : Shown) : Type 0 where
  -- 12 exactly if the tag does not occur, or occurrence 0 is asked
  pub missing : (r.answer ≡ Err NoField) ↔ ((before ≡ Ok tt) × ((occurrences_of fs tag ≡ 0) ⊎ (occ ≡ 0)))
  -- 15 with n exactly if the tag occurs n times, 1 ≤ n < occurrence
  pub fewer : (n : ℕ) → ((r.answer ≡ Err (FewerFields n)) × (r.occurrences ≡ n)) ↔ ((before ≡ Ok tt) × ((occurrences_of fs tag ≡ n) × ((1 ≤ n) × (n < occ))))
  -- the number that answer 15 carries is the one that is handed out
  pub told : (n : ℕ) → r.answer ≡ Err (FewerFields n) → r.occurrences ≡ n
  -- 0 exactly if the occurrence is at least 1, and at most the number of occurrences
  pub done : (r.answer ≡ Ok tt) ↔ ((before ≡ Ok tt) × ((1 ≤ occ) × (occ ≤ occurrences_of fs tag)))
  -- and the bytes shown are those of the field that is asked for
  pub shows : r.answer ≡ Ok tt → field_named fs tag occ ≡ some (shown_bytes mst r)
  -- the number is 0 with every other answer
  pub other : ((n : ℕ) → r.answer ≡ Err (FewerFields n) → ⊥) → r.occurrences ≡ 0

-- THE CLAIM, of both views
pub record WhichMissing (s : Store) (m tag occ : ℕ) : Type 0 where
  pub current : SaysWhich (lowest (on_current s m [])) s.mst (fields_of (record_at s.mst (place_for s m))) tag occ (view_of s m tag occ)
  pub settled : SaysWhich (lowest (on_settled s m [])) s.mst (fields_of (shown_settled s.mst (place_for s m))) tag occ (settled_view_of s m tag occ)
