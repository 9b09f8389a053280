-- What the two views answer, show and count on a sound store is what the ledger answers, shows and counts.
use Rattle.std.specs.Prelude.{Ok, Err}
use Prim.Native.Nat.{ℕ, ◌+◌, ◌-◌, ◌<◌}
use mathlib.Core.Path.{◌≡◌, refl, sym, ap, ◌∙◌}
use mathlib.Core.Bool.{true, false, cond}
use mathlib.Core.List.{List, []}
use native.Mathlib.Omega.{arith}
use Rattle.word.specs.Overwrite.{part}
use Rattle.files.specs.Control.{end_of}
use Rattle.layout.specs.Entry.{place_address}
use Rattle.layout.specs.declared.entry.Mark.{Mark}
use Rattle.layout.specs.declared.entry.Mark.TheVariants.{Settled, Changed, New}
use Rattle.layout.specs.declared.entry.Place.{Place}
use Rattle.layout.specs.declared.entry.Entry.TheVariants.{Gone}
use Rattle.word.proofs.Tests.{cond_holds}
use Rattle.record.specs.Fields.{fields_of, field_named, occurrences_of, find_of}
use Rattle.store.specs.Answer.{after, number_of, Answer}
use Rattle.store.specs.Reading.{mfn_in_range, entry_for, place_for, is_changed, record_at, leader_at, back_address, record_fine, settled_record, settled_fine, version_fine, shown_settled}
use Rattle.views.specs.Views.{view_answer, settled_view_answer, found_start, found_length, occurrences_with, shown_at, view_of, settled_address, settled_view_of, shown_bytes}
use Rattle.store.specs.declared.answer.Refusal.TheVariants.{NoMfn, Gone as GoneAnswer}
use Rattle.store.proofs.Gates.{Refusing, after_refused, fine_reads, settled_fine_reads}
use Rattle.views.proofs.ViewAnswers.{uncounted}
use Rattle.ledger.specs.Call.{viewed, view, view_settled}
use Rattle.ledger.specs.Ledger.{item_of, kept_fields, settled_fields}
use Rattle.ledger.specs.LedgerAnswers.{bytes_of, gives_l, answer_l, reply_l}
use Rattle.store.specs.Store.{Store}
use Rattle.ledger.specs.StoreRun.{answer_s, result_s}
use Rattle.ledger.specs.LedgerOf.{ledger_of}
use Rattle.ledger.proofs.Reading.{Opened, Seen, absent, physically, present}
use Rattle.ledger.proofs.Showing.{shown_done}
use Rattle.ledger.proofs.Answering.{item_at, view_answer_lem, settled_view_answer_lem, settled_all}

-- what is shown, by the answer
shown_after : (d : List ℕ) (a : Answer) (at : ℕ) (rec : List ℕ) (tag occ : ℕ)
    → shown_bytes d (shown_at a at rec tag occ) ≡ after a (part d (at + found_start (find_of rec tag occ)) (found_length (find_of rec tag occ))) []
unfolding shown_at after
shown_after d (Ok u) at rec tag occ = refl
shown_after d (Err r) at rec tag occ = refl

-- a refused view shows nothing, whatever the ledger's field
shown_none : (d : List ℕ) (a : Answer) (at : ℕ) (rec : List ℕ) (tag occ : ℕ) (b : List ℕ) → Refusing a → shown_bytes d (shown_at a at rec tag occ) ≡ after a b []
shown_none d a at rec tag occ b h = shown_after d a at rec tag occ ∙ after_refused a _ [] h ∙ sym (after_refused a b [] h)

-- and counts nothing
counted_none : (a b : Answer) (x y : ℕ) → a ≡ b → number_of b < 12 → occurrences_with a x ≡ occurrences_with a y
counted_none a b x y e l = rw e (uncounted b x l ∙ sym (uncounted b y l))

refusing_absent : (a : Answer) → a ≡ Err NoMfn → Refusing a
unfolding number_of
refusing_absent a e z = let y : ◌≡◌ {A = ℕ} 4 0 = sym (ap number_of e) ∙ z in omega arith

refusing_gone : (a : Answer) → a ≡ Err GoneAnswer → Refusing a
unfolding number_of
refusing_gone a e z = let y : ◌≡◌ {A = ℕ} 7 0 = sym (ap number_of e) ∙ z in omega arith

-- two outcomes are equal by their parts
same_outcome : (a b : Answer) (x y : List ℕ) (n k : ℕ) → a ≡ b → x ≡ y → n ≡ k → viewed a x n ≡ viewed b y k
same_outcome a b x y n k p q r = rw (p, q, r)

module _ (s : Store) (o : Opened s) where
  view_absent : (m tag occ : ℕ) → mfn_in_range s.mst m ≡ false → view_answer s m tag occ ≡ Err NoMfn
  unfolding view_answer
  view_absent m tag occ k = rw (o.lengths, o.control, k)

  view_gone : (m tag occ : ℕ) → mfn_in_range s.mst m ≡ true → entry_for s m ≡ Gone → view_answer s m tag occ ≡ Err GoneAnswer
  unfolding view_answer
  view_gone m tag occ k e = rw (o.lengths, o.control, k, e)

  view_shown : (m tag occ : ℕ) → Seen s m
      → shown_bytes s.mst (view_of s m tag occ) ≡ after (view_answer s m tag occ) (bytes_of (field_named (kept_fields (item_of (ledger_of s) m)) tag occ)) []
  unfolding view_of
  view_shown m tag occ (absent k) = shown_none s.mst (view_answer s m tag occ) _ _ _ _ _ (refusing_absent _ (view_absent m tag occ k))
  view_shown m tag occ (physically k e) = shown_none s.mst (view_answer s m tag occ) _ _ _ _ _ (refusing_gone _ (view_gone m tag occ k e))
  view_shown m tag occ (present p k e f v) =
      rw (
        shown_after s.mst (view_answer s m tag occ) (place_address (place_for s m)) (record_at s.mst (place_for s m)) tag occ,
        e,
        item_at s o m p k e,
        shown_done s.mst (place_address p) (end_of s.mst - place_address p) (fine_reads s.mst m p f) tag occ,
      )

  view_counted : (m tag occ : ℕ) → Seen s m
      → occurrences_with (view_answer s m tag occ) (occurrences_of (fields_of (record_at s.mst (place_for s m))) tag)
      ≡ occurrences_with (view_answer s m tag occ) (occurrences_of (kept_fields (item_of (ledger_of s) m)) tag)
  unfolding number_of
  view_counted m tag occ (absent k) = counted_none _ (Err NoMfn) _ _ (view_absent m tag occ k) (omega arith)
  view_counted m tag occ (physically k e) = counted_none _ (Err GoneAnswer) _ _ (view_gone m tag occ k e) (omega arith)
  view_counted m tag occ (present p k e f v) = rw (e, item_at s o m p k e)

  pub view_outcome : (m tag occ : ℕ) → Seen s m → answer_s s (view m tag occ) ≡ answer_l (ledger_of s) (view m tag occ)
  unfolding answer_s answer_l gives_l view_of shown_at reply_l result_s
  view_outcome m tag occ w =
      let a = view_answer_lem s o m w tag occ in
      same_outcome _ _ _ _ _ _ a
      (view_shown m tag occ w ∙ ap (λ (a : Answer). after a (bytes_of (field_named (kept_fields (item_of (ledger_of s) m)) tag occ)) []) a)
      (view_counted m tag occ w ∙ ap (λ (a : Answer). occurrences_with a (occurrences_of (kept_fields (item_of (ledger_of s) m)) tag)) a)

  -- the record of the settled view, by the mark
  version_shown : (m tag occ : ℕ) (p : Place) → record_fine s.mst m p ≡ true → version_fine s.mst m p ≡ true → (k : Mark) → p.mark ≡ k
      → part s.mst (cond (is_changed k) (back_address (leader_at s.mst p)) (place_address p) + found_start (find_of (cond (is_changed k) (settled_record s.mst p) (record_at s.mst p)) tag occ))
      (found_length (find_of (cond (is_changed k) (settled_record s.mst p) (record_at s.mst p)) tag occ))
      ≡ bytes_of (field_named (fields_of (cond (is_changed k) (settled_record s.mst p) (record_at s.mst p))) tag occ)
  unfolding version_fine
  version_shown m tag occ p f v Settled q = shown_done s.mst (place_address p) (end_of s.mst - place_address p) (fine_reads s.mst m p f) tag occ
  version_shown m tag occ p f v Changed q =
      shown_done s.mst (back_address (leader_at s.mst p)) (end_of s.mst - back_address (leader_at s.mst p)) (settled_fine_reads s.mst m p (cond_holds (is_changed p.mark) (settled_fine s.mst m p) v (ap is_changed q))) tag occ
  version_shown m tag occ p f v New q = shown_done s.mst (place_address p) (end_of s.mst - place_address p) (fine_reads s.mst m p f) tag occ

  settled_absent : (m tag occ : ℕ) → mfn_in_range s.mst m ≡ false → settled_view_answer s m tag occ ≡ Err NoMfn
  unfolding settled_view_answer
  settled_absent m tag occ k = rw (o.lengths, o.control, k)

  settled_gone : (m tag occ : ℕ) → mfn_in_range s.mst m ≡ true → entry_for s m ≡ Gone → settled_view_answer s m tag occ ≡ Err GoneAnswer
  unfolding settled_view_answer
  settled_gone m tag occ k e = rw (o.lengths, o.control, k, e)

  settled_shown : (m tag occ : ℕ) → Seen s m
      → shown_bytes s.mst (settled_view_of s m tag occ)
      ≡ after (settled_view_answer s m tag occ) (bytes_of (field_named (settled_fields (item_of (ledger_of s) m)) tag occ)) []
  unfolding settled_view_of
  settled_shown m tag occ (absent k) = shown_none s.mst (settled_view_answer s m tag occ) _ _ _ _ _ (refusing_absent _ (settled_absent m tag occ k))
  settled_shown m tag occ (physically k e) = shown_none s.mst (settled_view_answer s m tag occ) _ _ _ _ _ (refusing_gone _ (settled_gone m tag occ k e))
  settled_shown m tag occ (present p k e f v) =
      rw (
        shown_after s.mst (settled_view_answer s m tag occ) (settled_address s.mst (place_for s m)) (shown_settled s.mst (place_for s m)) tag occ,
        e,
        item_at s o m p k e,
        settled_all s.mst p p.mark,
        version_shown m tag occ p f v p.mark refl,
      )

  settled_counted : (m tag occ : ℕ) → Seen s m
      → occurrences_with (settled_view_answer s m tag occ) (occurrences_of (fields_of (shown_settled s.mst (place_for s m))) tag)
      ≡ occurrences_with (settled_view_answer s m tag occ) (occurrences_of (settled_fields (item_of (ledger_of s) m)) tag)
  unfolding number_of
  settled_counted m tag occ (absent k) = counted_none _ (Err NoMfn) _ _ (settled_absent m tag occ k) (omega arith)
  settled_counted m tag occ (physically k e) = counted_none _ (Err GoneAnswer) _ _ (settled_gone m tag occ k e) (omega arith)
  settled_counted m tag occ (present p k e f v) = rw (e, item_at s o m p k e, settled_all s.mst p p.mark)

  pub settled_view_outcome : (m tag occ : ℕ) → Seen s m → answer_s s (view_settled m tag occ) ≡ answer_l (ledger_of s) (view_settled m tag occ)
  unfolding answer_s answer_l gives_l settled_view_of shown_at reply_l result_s
  settled_view_outcome m tag occ w =
      let a = settled_view_answer_lem s o m w tag occ in
      same_outcome _ _ _ _ _ _ a
      (settled_shown m tag occ w ∙ ap (λ (a : Answer). after a (bytes_of (field_named (settled_fields (item_of (ledger_of s) m)) tag occ)) []) a)
      (settled_counted m tag occ w ∙ ap (λ (a : Answer). occurrences_with a (occurrences_of (settled_fields (item_of (ledger_of s) m)) tag)) a)
