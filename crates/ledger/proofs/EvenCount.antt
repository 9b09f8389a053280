-- AN EVEN NXTMFP IS REFUSED: it is not right by the rule of today, and 2 stands behind 1 in every table.
use Rattle.std.specs.Prelude.{Err}
use Prim.Native.Nat.{ℕ}
use mathlib.Core.Path.{◌≡◌, refl}
use mathlib.Core.Bool.{true, false}
use mathlib.Core.List.{List}
use lib.ListN.{length}
use Rattle.soundness.specs.Recount.{recount_answer, recount_leaves}
use Rattle.layout.specs.Sizes.{capacity_of}
use Rattle.files.proofs.ControlRecord.{even_wrong}
use Rattle.store.specs.Store.{Store}
use Rattle.store.specs.Answer.{number_of, after}
use Rattle.store.specs.Reading.{lengths_permitted, control_fine}
use Rattle.views.specs.Views.{view_answer, settled_view_answer, occurrences_with, shown_at, view_of, settled_view_of}
use Rattle.views.specs.Fields.{field_answer, field_of, settled_field_answer, settled_field_of, handed_out}
use Rattle.asking.specs.Listing.{all_fields_answer, all_fields_of, all_fields_leaves, settled_all_fields_answer, settled_all_fields_of, settled_all_fields_leaves}
use Rattle.asking.specs.State.{next_free_answer, next_free_of, state_answer, state_of}
use Rattle.writing.specs.Refusals.{create_answer, update_answer, delete_answer, settle_answer, revert_answer}
use Rattle.writing.specs.Calls.{create_of, create_leaves, update_leaves, delete_leaves, settle_leaves, revert_leaves}
use Rattle.soundness.specs.Sound.{check_answer}
use Rattle.store.specs.declared.answer.Refusal.TheVariants.{BadControl}
use Rattle.settling.proofs.Theorems.{each_answers}
use Rattle.ledger.specs.Call.{Call, format, view, view_settled, create, update, delete, settle, revert, check, migrate, settle_list, recount}
use Rattle.ledger.specs.StoreRun.{answer_s, next_s, result_s}
use Rattle.ledger.specs.EvenCount.{Refused2, ShowsNothing, EvenIsRefused}

module _ (s : Store) (l : lengths_permitted s ≡ true) (c : control_fine s ≡ false) where
  refused : (call : Call) → (call ≡ format → ⊥) → (call ≡ migrate → ⊥) → ((ms : List ℕ) (lent : ℕ) → call ≡ settle_list ms lent → ⊥) → Refused2 s call
  unfolding answer_s next_s result_s view_of view_answer settled_view_of settled_view_answer shown_at occurrences_with create_of create_answer update_answer delete_answer settle_answer revert_answer check_answer recount_answer recount_leaves create_leaves update_leaves delete_leaves settle_leaves revert_leaves after number_of
  refused format no_format no-migrate no_list = absurd (no_format refl)
  refused (view m tag occ) no_format no-migrate no_list = record { answer = rw (l, c); nothing = refl }
  refused (view_settled m tag occ) no_format no-migrate no_list = record { answer = rw (l, c); nothing = refl }
  refused (create d) no_format no-migrate no_list = record { answer = rw (l, c); nothing = rw (l, c) }
  refused (update m d) no_format no-migrate no_list = record { answer = rw (l, c); nothing = rw (l, c) }
  refused (delete m) no_format no-migrate no_list = record { answer = rw (l, c); nothing = rw (l, c) }
  refused (settle m) no_format no-migrate no_list = record { answer = rw (l, c); nothing = rw (l, c) }
  refused (revert m) no_format no-migrate no_list = record { answer = rw (l, c); nothing = rw (l, c) }
  refused check no_format no-migrate no_list = record { answer = rw (l, c); nothing = refl }
  refused migrate no_format no-migrate no_list = absurd (no-migrate refl)
  refused (settle_list ms lent) no_format no-migrate no_list = absurd (no_list ms lent refl)
  refused recount no_format no-migrate no_list = record { answer = rw (l, c); nothing = rw (l, c) }

  one_refused : (m : ℕ) → (settle_answer s m ≡ Err BadControl) × (settle_leaves s m ≡ s)
  unfolding settle_answer settle_leaves after number_of
  one_refused m = (rw (l, c), rw (l, c))

  shows_nothing : ShowsNothing s
  unfolding field_of field_answer settled_field_of settled_field_answer handed_out all_fields_of all_fields_leaves all_fields_answer settled_all_fields_of settled_all_fields_leaves settled_all_fields_answer next_free_of next_free_answer state_of state_answer after number_of
  shows_nothing =
      record {
        field = λ m i. rw (l, c);
        settled_field = λ m i. rw (l, c);
        fields = λ m k. (rw (l, c), rw (l, c));
        settled_all = λ m k. (rw (l, c), rw (l, c));
        next = rw (l, c);
        state = λ m. rw (l, c);
      }

pub even_refused : EvenIsRefused
even_refused s l even =
    let c = even_wrong s.mst (capacity_of (length s.xrf)) even in
    record { listed = refused s l c; each = each_answers s (Err BadControl) (one_refused s l c); beside = shows_nothing s l c }
