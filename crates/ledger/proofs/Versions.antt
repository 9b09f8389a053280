-- Update, delete, settle and revert that are done on a sound store, beside the ledger's steps.
use Prim.Native.Nat.{ℕ, ◌+◌, ◌≤◌}
use native.Mathlib.Omega.{arith}
use mathlib.Core.Path.{◌≡◌, refl, sym, ap, ◌∙◌}
use mathlib.Core.Bool.{Bool, true, false, ◌||◌, cond}
use mathlib.Core.List.{List}
use lib.Dec.{ltb}
use lib.ListN.{length}
use lib.IntN.{pos}
use Rattle.files.specs.Control.{next_of, end_of, count_of}
use Rattle.soundness.specs.Sound.{live_count}
use Rattle.soundness.proofs.Live.{same_counts, update_kept, settle_kept, deleted_counts, reverted_counts}
use Rattle.layout.specs.declared.entry.Mark.{Mark}
use Rattle.layout.specs.declared.entry.Mark.TheVariants.{Settled, Changed, New}
use Rattle.layout.specs.declared.entry.Place.{Place}
use Rattle.layout.specs.declared.leader.Leader.{Leader}
use Rattle.word.proofs.Tests.{false_true}
use Rattle.record.specs.Fields.{Field, fields_of}
use Rattle.drafts.specs.Bytes.{need_for}
use Rattle.drafts.proofs.Draftable.{Draftable}
use Rattle.store.specs.Reading.{place_for, is_settled, is_changed, record_at, leader_at, settled_record, current_fields}
use Rattle.versions.specs.Written.{update_appends, pending_mark, updated_mst, updated_xrf, deleted_mst, deleted_xrf, settled_mst, settled_xrf, reverted_mst, reverted_xrf}
use Rattle.store.proofs.Gates.{MfnFacts, mfn_facts}
use Rattle.soundness.proofs.SoundEntries.{Sound, sound}
use Rattle.soundness.proofs.Leaving.{Leaves}
use Rattle.soundness.proofs.Asked.{There}
use Rattle.soundness.proofs.Writes.{update_appends_lem, update_stays, delete_appends, delete_stays, settled_leaves, reverted_leaves}
use Rattle.ledger.specs.Call.{update, delete, settle, revert}
use Rattle.ledger.specs.Ledger.{settled, changed, held, Ledger, item_of, kept_length, settled_or, settled_fields}
use Rattle.ledger.specs.LedgerAnswers.{appends}
use Rattle.ledger.specs.LedgerSteps.{Effect, item_set, applied, version_mark, effect_of}
use Rattle.store.specs.Store.{store}
use Rattle.drafts.specs.Draft.{Draft, fields_in}
use Rattle.ledger.specs.LedgerOf.{marking_at, ledger_of}
use Rattle.ledger.proofs.Reading.{Opened}
use Rattle.ledger.proofs.Answering.{settled_mark, appends_is, item_at}
use Rattle.ledger.proofs.Changing.{marking_for, ledger_set}
use Rattle.ledger.proofs.Either.{Left}

-- the mark of a new version at the end, and of one in place
changed_marking : (mst : List ℕ) (p : Place) (k : Mark) (need : ℕ)
    → marking_for (pending_mark k) need (fields_of (cond (is_changed k) (settled_record mst p) (record_at mst p))) ≡ version_mark (current_fields mst p) (marking_at mst p k) need
changed_marking mst p Settled need = refl
changed_marking mst p Changed need = refl
changed_marking mst p New need = refl

-- in place the record length stays
kept_marking : (mst : List ℕ) (p : Place) (k : Mark) → is_settled k ≡ false
    → marking_for k (leader_at mst p).mfrl (fields_of (settled_record mst p)) ≡ version_mark (current_fields mst p) (marking_at mst p k) (kept_length (marking_at mst p k))
kept_marking mst p Settled e = absurd (false_true (sym e))
kept_marking mst p Changed e = refl
kept_marking mst p New e = refl

-- a settled record's fields become the settled fields
settled_version : (mst : List ℕ) (p : Place) (k : Mark) (need : ℕ) → is_settled k ≡ true
    → changed need (current_fields mst p) ≡ version_mark (current_fields mst p) (marking_at mst p k) need
settled_version mst p Settled need e = refl
settled_version mst p Changed need e = absurd (false_true e)
settled_version mst p New need e = absurd (false_true e)

-- a record that is updated in place is pending
in_place : (p : Place) (l : Leader) (need : ℕ) → update_appends p l need ≡ false → is_settled p.mark ≡ false
unfolding update_appends
in_place p l need e = go (is_settled p.mark) (ltb l.mfrl need) e
  where
    go : (a b : Bool) → (a || b) ≡ false → a ≡ false
    go true b h = absurd (false_true (sym h))
    go false b h = refl

module _ (mst xrf : List ℕ) (s : Sound mst xrf) (c : count_of mst ≡ pos (live_count (store mst xrf))) (m : ℕ) (o : Opened (store mst xrf)) (t : There mst xrf m) where
  abbrev p : Place
  p = place_for (store mst xrf) m

  range : MfnFacts mst m
  range = mfn_facts mst m t.known

  item : item_of (ledger_of (store mst xrf)) m ≡ held (current_fields mst p) p.deleted (marking_at mst p p.mark)
  item = item_at (store mst xrf) o m p t.known t.entry

  abbrev L : Ledger
  L = ledger_of (store mst xrf)

  -- what a call leaves, with the item of m
  left_set : {mst' xrf' : List ℕ} {end mfrl : ℕ} {q : Place} {fs old : List Field} → Leaves mst xrf mst' xrf' m end (next_of mst) q mfrl fs old
      → count_of mst' ≡ pos (live_count (store mst' xrf')) → (e : Effect) → item_set m (held fs q.deleted (marking_for q.mark mfrl old)) end ≡ e → Left (store mst' xrf') (applied L e)
  left_set {mst'} {xrf'} l k e same =
      record { ledger = ledger_set s l refl range.low range.high ∙ ap (applied L) same; sound = sound mst' xrf' l.sound k }

  end_is : L.end ≡ end_of mst
  unfolding ledger_of
  end_is = refl

  updated : (d : Draft) → count_of (updated_mst mst m p (fields_in d)) ≡ count_of mst
  updated d = update_kept s c m p range.low range.high t.entry (fields_in d)

  -- ---- update, by whether it is appended

  module _ (d : Draft) (fits : Draftable (fields_in d)) (live : p.deleted ≡ false) where
    appends_same : appends (marking_at mst p p.mark) (need_for (fields_in d)) ≡ update_appends p (leader_at mst p) (need_for (fields_in d))
    unfolding update_appends
    appends_same = appends_is mst p p.mark (need_for (fields_in d))

    pub update_left : (update_appends p (leader_at mst p) (need_for (fields_in d)) ≡ true → end_of mst + need_for (fields_in d) ≤ length mst)
        → Left (store (updated_mst mst m p (fields_in d)) (updated_xrf mst xrf m p (fields_in d))) (applied L (effect_of L (update m d)))
    unfolding effect_of
    update_left room = go (update_appends p (leader_at mst p) (need_for (fields_in d))) refl
      where
        go : (b : Bool) → update_appends p (leader_at mst p) (need_for (fields_in d)) ≡ b
            → Left (store (updated_mst mst m p (fields_in d)) (updated_xrf mst xrf m p (fields_in d))) (applied L (effect_of L (update m d)))
        go true e =
            let l = update_appends_lem s m p range.low range.high t.entry live (fields_in d) fits e (room e) in
            left_set l (same_counts s c m p range.low range.high t.entry l (sym live) (updated d)) (effect_of L (update m d))
            (rw (item, appends_same ∙ e, live, end_is, changed_marking mst p p.mark (need_for (fields_in d))))
        go false e =
            let l = update_stays s m p range.low range.high t.entry live (fields_in d) fits e in
            left_set l (same_counts s c m p range.low range.high t.entry l refl (updated d)) (effect_of L (update m d))
            (rw (item, appends_same ∙ e, live, end_is, kept_marking mst p p.mark (in_place p (leader_at mst p) (need_for (fields_in d)) e)))

  -- ---- delete, by whether the record is settled

  module _ (live : p.deleted ≡ false) where
    pub delete_left : (is_settled p.mark ≡ true → end_of mst + need_for (current_fields mst p) ≤ length mst)
        → Left (store (deleted_mst mst m p (current_fields mst p)) (deleted_xrf mst xrf m p)) (applied L (effect_of L (delete m)))
    unfolding effect_of
    delete_left room = go (is_settled p.mark) refl
      where
        go : (b : Bool) → is_settled p.mark ≡ b
            → Left (store (deleted_mst mst m p (current_fields mst p)) (deleted_xrf mst xrf m p)) (applied L (effect_of L (delete m)))
        go true e =
            let l = delete_appends s m p range.low range.high t.entry live e (room e) in
            left_set l (deleted_counts s c m p range.low range.high t.entry (current_fields mst p) l live refl) (effect_of L (delete m))
            (rw (item, settled_mark mst p p.mark, e, end_is, settled_version mst p p.mark (need_for (current_fields mst p)) e))
        go false e =
            let l = delete_stays s m p range.low range.high t.entry live e in
            left_set l (deleted_counts s c m p range.low range.high t.entry (current_fields mst p) l live refl) (effect_of L (delete m))
            (rw (item, settled_mark mst p p.mark, e, end_is, kept_marking mst p p.mark e))

  -- ---- settle and revert

  pub settle_left : Left (store (settled_mst mst p) (settled_xrf xrf m p)) (applied L (effect_of L (settle m)))
  unfolding effect_of
  settle_left =
      let l = settled_leaves s m p range.low range.high t.entry in
      left_set l (same_counts s c m p range.low range.high t.entry l refl (settle_kept s c m p range.low range.high t.entry))
      (effect_of L (settle m)) (rw (item, end_is))

  abbrev settled_end : List Field → ℕ → Effect
  settled_end fs end = item_set m (held fs false settled) end

  changed_fields : (k : Mark) → k ≡ Changed → settled_or (current_fields mst p) (marking_at mst p k) ≡ fields_of (settled_record mst p)
  changed_fields Settled e = let z : ◌≡◌ {A = ℕ} 0 1 = cc in absurd (omega arith)
  changed_fields Changed e = refl
  changed_fields New e = let z : ◌≡◌ {A = ℕ} 0 1 = cc in absurd (omega arith)

  reverted_fields : p.mark ≡ Changed → fields_of (settled_record mst p) ≡ settled_fields (item_of L m)
  reverted_fields c = rw item (sym (changed_fields p.mark c))

  pub revert_left : p.mark ≡ Changed → Left (store (reverted_mst mst p) (reverted_xrf mst xrf m p)) (applied L (effect_of L (revert m)))
  unfolding effect_of
  revert_left k =
      let l = reverted_leaves s m p range.low range.high t.entry k in
      left_set l (reverted_counts s c m p range.low range.high t.entry l refl) (effect_of L (revert m))
      (ap (λ (fs : List Field). settled_end fs (end_of mst)) (reverted_fields k) ∙ ap (settled_end (settled_fields (item_of L m))) (sym end_is))
