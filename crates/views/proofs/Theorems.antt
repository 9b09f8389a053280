-- WHICH FIELD a view shows and WHICH KIND OF MISSING it says, on any store: what is asked of the
-- fields comes behind the refusals below 12, and each of the three ways in which it comes out is
-- one answer.
use Rattle.std.specs.Prelude.{Result, Ok, Err}
use Prim.Native.Nat.{ℕ, ◌+◌, ◌-◌, ◌<◌}
use native.Mathlib.Omega.{arith}
use mathlib.Core.Path.{◌≡◌, refl, sym, ap, ◌∙◌}
use mathlib.Core.Logic.{⊎_elim}
use mathlib.Core.Bool.{Bool, true, false}
use mathlib.Core.List.{List, []}
use mathlib.Core.Option.{some}
use Rattle.word.specs.Overwrite.{part}
use Rattle.word.proofs.Tests.{false_true}
use Rattle.layout.specs.Entry.{place_address}
use Rattle.layout.specs.declared.entry.Place.{Place}
use Rattle.files.specs.Control.{end_of}
use Rattle.record.specs.Fields.{fields_of, field_named, occurrences_of, is_missing, is_fewer, find_of}
use Rattle.record.specs.declared.fields.Span.{Span}
use Rattle.record.specs.declared.fields.NotFound.{NotFound}
use Rattle.record.proofs.Search.{missing_facts, present_facts, fewer_facts, enough_facts, FoundBy, by_missing, by_fewer, by_span, found_by}
use Rattle.record.proofs.Find.{found_there}
use Rattle.store.specs.Store.{Store}
use Rattle.store.specs.Answer.{number_of, lowest, after, Answer}
use Rattle.store.specs.Reading.{place_for, record_from, record_at}
use Rattle.store.specs.declared.answer.Refusal.TheVariants.{NoField, FewerFields}
use Rattle.store.proofs.Gates.{Refusing, refusing_not_done, after_cases}
use Rattle.views.specs.Views.{on_current, on_settled, among_fields, view_answer, settled_view_answer, found_start, found_length, occurrences_told, occurrences_with, shown_at, view_of, settled_address, settled_view_of, shown_bytes}
use Rattle.views.specs.Versions.{ReadableAt}
use Rattle.views.specs.Theorems.{SaysWhich, WhichMissing}
use Rattle.views.proofs.VersionAnswers.{current_then, settled_then, current_low, settled_low, current_readable, settled_readable, settled_from}
use Rattle.views.proofs.ViewAnswers.{uncounted}

-- two answers with different numbers
apart : {a b : Answer} → (number_of a ≡ number_of b → ⊥) → a ≡ b → ⊥
apart h e = h (ap number_of e)

-- the number that an answer carries
abbrev told_by : Answer → ℕ
told_by (Ok done) = 0
told_by (Err refusal) = occurrences_told refusal

-- where the field is among the fields, what the search finds of it in the record at an address are
-- its bytes
shown_field : (mst : List ℕ) (at end tag occ : ℕ) → ReadableAt mst at end
    → is_missing (fields_of (part mst at (end - at))) tag occ ≡ false → is_fewer (fields_of (part mst at (end - at))) tag occ ≡ false
    → field_named (fields_of (part mst at (end - at))) tag occ ≡ some (shown_bytes mst (shown_at (Ok tt) at (part mst at (end - at)) tag occ))
unfolding shown_at after number_of
shown_field mst at end tag occ r m f = go (find_of rec tag occ) (found_by rec tag occ) refl
  where
    rec : List ℕ
    rec = part mst at (end - at)

    go : (x : Result Span NotFound) → FoundBy (fields_of rec) tag occ x → find_of rec tag occ ≡ x
        → field_named (fields_of rec) tag occ ≡ some (part mst (at + found_start x) (found_length x))
    go _ (by_missing e) q = absurd (false_true (sym m ∙ e))
    go _ (by_fewer m e) q = absurd (false_true (sym f ∙ e))
    go _ (by_span s m f) q = found_there mst at (end - at) r.readable tag occ s q

module _ (mst : List ℕ) (before : Answer) (at end tag occ : ℕ) (readable : before ≡ Ok tt → ReadableAt mst at end) where
  abbrev rec : List ℕ
  rec = part mst at (end - at)

  abbrev Says : Answer → Type 0
  Says a = SaysWhich before mst (fields_of rec) tag occ (shown_at a at rec tag occ)

  before_which : Refusing before → number_of before < 12 → Says before
  unfolding shown_at number_of
  before_which h low =
      let no = refusing_not_done before h in
      record {
        missing = ((λ e. absurd (apart (λ z. omega arith) e)), (λ q. absurd (no q.0)));
        fewer = λ n. ((λ e. absurd (apart (λ z. omega arith) e.0)), (λ q. absurd (no q.0)));
        told = λ n e. absurd (apart (λ z. omega arith) e);
        done = ((λ e. absurd (no e)), (λ q. absurd (no q.0)));
        shows = λ e. absurd (no e);
        other = λ e. uncounted before (occurrences_of (fields_of rec) tag) low;
      }

  module _ (d : before ≡ Ok tt) where
    missing_which : is_missing (fields_of rec) tag occ ≡ true → Says (Err NoField)
    unfolding shown_at occurrences_with number_of
    missing_which m =
        let f = missing_facts (fields_of rec) tag occ m in
        record {
          missing = ((λ e. (d, f)), (λ q. refl));
          fewer = λ n. ((λ e. absurd (apart (λ z. omega arith) e.0)), (λ q. absurd (⊎_elim (λ z. omega arith) (λ z. omega arith) f)));
          told = λ n e. absurd (apart (λ z. omega arith) e);
          done = ((λ e. absurd (apart (λ z. omega arith) e)), (λ q. absurd (⊎_elim (λ z. omega arith) (λ z. omega arith) f)));
          shows = λ e. absurd (apart (λ z. omega arith) e);
          other = λ e. refl;
        }

    module _ (p : is_missing (fields_of rec) tag occ ≡ false) where
      fewer_which : is_fewer (fields_of rec) tag occ ≡ true → Says (Err (FewerFields (occurrences_of (fields_of rec) tag)))
      unfolding shown_at occurrences_with number_of
      fewer_which f =
          let some = present_facts (fields_of rec) tag occ p in
          let less = fewer_facts (fields_of rec) tag occ f in
          record {
            missing = ((λ e. absurd (apart (λ z. omega arith) e)), (λ q. absurd (⊎_elim (λ z. omega arith) (λ z. omega arith) q.1)));
            fewer = λ n. ((λ e. (d, (e.1, (omega (arith, e.1), omega (arith, e.1))))), (λ q. (rw q.1.0 refl, q.1.0)));
            told = λ n e. ap told_by e;
            done = ((λ e. absurd (apart (λ z. omega arith) e)), (λ q. absurd (omega arith)));
            shows = λ e. absurd (apart (λ z. omega arith) e);
            other = λ e. absurd (e (occurrences_of (fields_of rec) tag) refl);
          }

      done_which : is_fewer (fields_of rec) tag occ ≡ false → Says (Ok tt)
      unfolding shown_at occurrences_with number_of
      done_which f =
          let some = present_facts (fields_of rec) tag occ p in
          let enough = enough_facts (fields_of rec) tag occ f in
          record {
            missing = ((λ e. absurd (apart (λ z. omega arith) e)), (λ q. absurd (⊎_elim (λ z. omega arith) (λ z. omega arith) q.1)));
            fewer = λ n. ((λ e. absurd (apart (λ z. omega arith) e.0)), (λ q. absurd (omega arith)));
            told = λ n e. absurd (apart (λ z. omega arith) e);
            done = ((λ e. (d, (some.1, enough))), (λ q. refl));
            shows = λ e. shown_field mst at end tag occ (readable d) p f;
            other = λ e. refl;
          }

    among_which : Says (lowest (among_fields (fields_of rec) tag occ))
    among_which = by (is_missing (fields_of rec) tag occ) refl (is_fewer (fields_of rec) tag occ) refl
      where
        by : (m : Bool) → is_missing (fields_of rec) tag occ ≡ m → (f : Bool) → is_fewer (fields_of rec) tag occ ≡ f → Says (lowest (among_fields (fields_of rec) tag occ))
        by true p f q = rw p (missing_which p)
        by false p true q = rw (p, q) (fewer_which p q)
        by false p false q = rw (p, q) (done_which p q)

  says_which : (a : Answer) → number_of before < 12 → a ≡ after before (lowest (among_fields (fields_of rec) tag occ)) before → Says a
  says_which a low e =
      ⊎_elim
      (λ d. rw (e, d.1) (among_which d.0))
      (λ r. rw (e, r.1) (before_which r.0 low))
      (after_cases before (lowest (among_fields (fields_of rec) tag occ)) before)

pub which_missing : (s : Store) (m tag occ : ℕ) → WhichMissing s m tag occ
unfolding view_of view_answer settled_view_of settled_view_answer
which_missing s m tag occ =
    let p : Place = place_for s m in
    let at : ℕ = settled_address s.mst p in
    record {
      current =
          says_which s.mst (lowest (on_current s m [])) (place_address p) (end_of s.mst) tag occ (current_readable s.mst s.xrf m) _
          (current_low s.mst s.xrf m)
          (current_then s.mst s.xrf m (among_fields (fields_of (record_at s.mst p)) tag occ));
      settled =
          rw (← settled_from s.mst p)
          (says_which s.mst (lowest (on_settled s m [])) at (end_of s.mst) tag occ (settled_readable s.mst s.xrf m) _
          (settled_low s.mst s.xrf m)
          (settled_then s.mst s.xrf m (among_fields (fields_of (record_from s.mst at)) tag occ)));
    }
