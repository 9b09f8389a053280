-- What the ledger answers of a record whose mark is known: a live one shows its fields, one under changed shows its settled fields to the settled
-- view and can be reverted to them, and one under new is refused by 11.
use Rattle.std.specs.Prelude.{Ok, Err}
use Prim.Native.Nat.{ℕ}
use native.Mathlib.Omega.{arith}
use mathlib.Core.Path.{◌≡◌, refl, ap}
use mathlib.Core.Bool.{Bool, true, false, ◌&&◌, cond}
use mathlib.Core.List.{List}
use Rattle.record.specs.Fields.{Field, field_named, occurrences_of}
use Rattle.drafts.specs.Bytes.{need_for}
use Rattle.store.specs.Answer.{number_of, lowest, after}
use Rattle.store.specs.declared.answer.Refusal.TheVariants.{Deleted, NeverSettled}
use Rattle.store.proofs.Gates.{after_done}
use Rattle.drafts.specs.Draft.{Draft, fields_in}
use Rattle.views.specs.Views.{among_fields, occurrences_with}
use Rattle.ledger.specs.Call.{Call, view, view_settled, create, update, delete, revert, Outcome, plain}
use Rattle.ledger.specs.Ledger.{Marking, settled, new, changed, Item, held, Ledger, next_mfn, lengths_fine, item_of, settled_fields}
use Rattle.ledger.specs.LedgerAnswers.{bytes_of, appends, refusals_l, number_l, the_field, gives_l, outcome_of, answer_l, reply_l}
use Rattle.ledger.specs.LedgerSteps.{applied, end_with, effect_of, next_l}
use Rattle.ledger.specs.History.{UpdatesOrDeletes, updates, deletes}
use Rattle.ledger.proofs.Effects.{Known, known_in, create_lengths, set_own, added_long, added_own}
use Rattle.ledger.proofs.Between.{Marked, Over, Fresh, marked_own}

-- a field of these fields, or 12 or 15
abbrev pub field_shown : List Field → ℕ → ℕ → Outcome
field_shown fs tag occ = outcome_of (lowest (among_fields fs tag occ)) (the_field (bytes_of (field_named fs tag occ)) (occurrences_of fs tag))

module _ (L : Ledger) (m : ℕ) (k : Known L m) where
  pub live_view : (fs : List Field) (s : Marking) → item_of L m ≡ held fs false s → (tag occ : ℕ) → answer_l L (view m tag occ) ≡ field_shown fs tag occ
  unfolding answer_l number_l gives_l refusals_l reply_l
  live_view fs s i tag occ = rw (k.lengths, known_in k, i)

  pub settled_view : (fs : List Field) → item_of L m ≡ held fs false settled → (tag occ : ℕ) → answer_l L (view_settled m tag occ) ≡ field_shown fs tag occ
  unfolding answer_l number_l gives_l refusals_l reply_l
  settled_view fs i tag occ = rw (k.lengths, known_in k, i)

  -- an update or a delete of a settled record that is done is a change over the fields that it had
  pub change_pends : (fs : List Field) → item_of L m ≡ held fs false settled → (c : Call) → UpdatesOrDeletes m c → number_l L c ≡ Ok tt → Marked (Over fs) m (next_l L c)
  unfolding next_l effect_of appends
  change_pends fs i _ (updates d) e =
      rw (after_done (number_l L (update m d)) (applied L (effect_of L (update m d))) L e, i)
      (marked_own (Over fs) m L k (fields_in d) false (changed (need_for (fields_in d)) fs) (record { size = need_for (fields_in d); is = refl }) (end_with L true (need_for (fields_in d))))
  change_pends fs i _ deletes e =
      rw (after_done (number_l L (delete m)) (applied L (effect_of L (delete m))) L e, i)
      (marked_own (Over fs) m L k fs true (changed (need_for fs) fs) (record { size = need_for fs; is = refl }) (end_with L true (need_for fs)))

-- ---- changed

module _ (old : List Field) (m : ℕ) (L : Ledger) (w : Marked (Over old) m L) where
  -- the settled view shows the settled fields, deleted or live
  pub over_view : (tag occ : ℕ) → answer_l L (view_settled m tag occ) ≡ field_shown old tag occ
  unfolding answer_l number_l gives_l refusals_l reply_l
  over_view tag occ = rw (w.known.lengths, known_in w.known, w.item, w.kind.is) (go w.flag)
    where
      go : (b : Bool)
          → outcome_of (cond (b && false) (Err Deleted) (lowest (among_fields old tag occ))) (the_field (bytes_of (field_named old tag occ)) (occurrences_of old tag)) ≡ field_shown old tag occ
      go true = refl
      go false = refl

  -- revert is done, and makes exactly them current, live and settled
  over_reverts : number_l L (revert m) ≡ Ok tt
  unfolding number_l refusals_l reply_l
  over_reverts = rw (w.known.lengths, known_in w.known, w.item, w.kind.is)

  pub over_reverted : answer_l L (revert m) ≡ plain (Ok tt)
  unfolding answer_l gives_l reply_l
  over_reverted = ap plain over_reverts

  pub over_restored : Marked (λ k. k ≡ settled) m (next_l L (revert m))
  unfolding next_l effect_of
  over_restored =
      rw (after_done (number_l L (revert m)) (applied L (effect_of L (revert m))) L over_reverts)
      (marked_own (λ k. k ≡ settled) m L w.known (settled_fields (item_of L m)) false settled refl L.end)

  pub over_item : item_of (next_l L (revert m)) m ≡ held old false settled
  unfolding next_l effect_of
  over_item =
      rw (after_done (number_l L (revert m)) (applied L (effect_of L (revert m))) L over_reverts, w.item, w.kind.is)
      (set_own L m (held old false settled) L.end w.known.low w.known.high)

-- ---- new

module _ (m : ℕ) (L : Ledger) (w : Marked Fresh m L) where
  pub fresh_reverts : answer_l L (revert m) ≡ plain (Err NeverSettled)
  unfolding answer_l number_l gives_l refusals_l reply_l
  fresh_reverts = rw (w.known.lengths, known_in w.known, w.item, w.kind.is)

  pub fresh_view : (tag occ : ℕ) → answer_l L (view_settled m tag occ) ≡ plain (Err NeverSettled)
  unfolding answer_l number_l gives_l refusals_l after number_of occurrences_with reply_l
  fresh_view tag occ = rw (w.known.lengths, known_in w.known, w.item, w.kind.is) (go w.flag)
    where
      go : (b : Bool) → outcome_of (cond (b && false) (Err Deleted) (Err NeverSettled)) (the_field (bytes_of (field_named w.fields tag occ)) (occurrences_of w.fields tag)) ≡ plain (Err NeverSettled)
      go true = refl
      go false = refl

-- a create that is done returns the next MFN and makes such a record
pub create_returns : (L : Ledger) (d : Draft) → number_l L (create d) ≡ Ok tt → (answer_l L (create d)).mfn ≡ next_mfn L
unfolding answer_l gives_l reply_l
create_returns L d e = after_done (number_l L (create d)) (next_mfn L) 0 e

pub create_fresh : (L : Ledger) (d : Draft) → number_l L (create d) ≡ Ok tt → Marked Fresh (next_mfn L) (next_l L (create d))
unfolding next_l effect_of lengths_fine
create_fresh L d e =
    let i : Item = held (fields_in d) false (new (need_for (fields_in d))) in
    rw (after_done (number_l L (create d)) (applied L (effect_of L (create d))) L e)
    (record {
      known = record { lengths = create_lengths L d e; low = omega arith; high = rw (added_long L i L.end) (omega arith) };
      fields = fields_in d;
      flag = false;
      mark = new (need_for (fields_in d));
      item = added_own L i L.end;
      kind = record { size = need_for (fields_in d); is = refl };
    })
