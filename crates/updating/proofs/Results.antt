-- What update and delete return and leave, one law for each way that they return: its premises are
-- the plan and the promise of the write.
use Rattle.std.specs.Prelude.{Result, Ok, Err}
use Prim.Native.Nat.{ℕ, ◌+◌, ◌≤◌}
use native.Mathlib.Omega.{arith}
use mathlib.Core.Path.{◌≡◌, sym, ap, ◌∙◌}
use mathlib.Core.Bool.{Bool, true, false, not, ◌&&◌}
use mathlib.Core.List.{List}
use lib.ListN.{length}
use borrow.Author.Tests.{ltb-false, not-false}
use Rattle.layout.specs.Entry.{placed, place_address}
use Rattle.files.specs.Control.{end_of, count_none, counted_less}
use Rattle.files.specs.CrossReference.{with_entry}
use Rattle.layout.specs.declared.entry.Mark.TheVariants.{Changed}
use Rattle.layout.specs.declared.entry.Place.{Place}
use Rattle.layout.specs.declared.leader.Leader.{Leader}
use Rattle.word.proofs.Tests.{false_true, or_false}
use Rattle.drafts.specs.Draft.{need_of, draft_right, draft_fields, draft}
use Rattle.record.specs.Fields.{Field}
use Rattle.drafts.specs.Bytes.{need_for}
use Rattle.drafts.proofs.Draftable.{draft_need}
use Rattle.store.specs.Answer.{number_of, after, Answer}
use Rattle.store.specs.Reading.{place_for, is_settled, leader_at, current_fields}
use Rattle.store.specs.Refusals.{fine}
use Rattle.writing.specs.Refusals.{exceeds, update_answer, delete_answer}
use Rattle.versions.specs.Written.{update_appends, place_at_end, pending_mark, version_appended, version_in_place, updated_mst, updated_xrf, deleted_mst, deleted_xrf}
use Rattle.writing.specs.Calls.{update_leaves, delete_leaves}
use Rattle.updating.specs.Plans.{plan_if, update_plan, delete_plan}
use Rattle.versions.specs.Asked.{HasSlot, AtEnd, DraftFits, RecordRead}
use Rattle.store.specs.declared.answer.Refusal.TheVariants.{BadControl, BadDraft, Deleted, NoRoom}
use Rattle.updating.specs.declared.changes.NewVersion.{NewVersion}
use Rattle.store.specs.declared.answer.Refusal.{Refusal}
use Rattle.writing.proofs.Counted.{delete_late}
use Rattle.store.proofs.Gates.{given_refused, given_done, passed, gate_done, named_done, Planned, planned_at}
use Rattle.versions.proofs.Told.{need_low, draft_fits, is_at_end, slot_known, read_known}
use Rattle.store.specs.Store.{store}

and_true_false : (a b : Bool) → a && b ≡ false → a ≡ true → b ≡ false
and_true_false true b e h = e
and_true_false false b e h = absurd (false_true h)

-- ---- plans of a new version

module _ (a : Answer) (appends : Bool) (mst xrf : List ℕ) (m : ℕ) where
  plan_writes : (v : NewVersion) → plan_if a appends (store mst xrf) m ≡ Ok v
      → (a ≡ Ok tt) × (appends ≡ v.appends) × (v.was.end ≡ end_of mst) × (place_for (store mst xrf) m ≡ v.was.place)
      × (leader_at mst (place_for (store mst xrf) m) ≡ v.was.leader)
  unfolding plan_if
  plan_writes v e =
      let h = given_done a _ v e in (
        h.0,
        ap (λ (x : NewVersion). x.appends) h.1,
        ap (λ (x : NewVersion). x.was.end) (sym h.1),
        ap (λ (x : NewVersion). x.was.place) h.1,
        ap (λ (x : NewVersion). x.was.leader) h.1,
      )

  plan_refuses : (r : Refusal) → plan_if a appends (store mst xrf) m ≡ Err r → a ≡ Err r
  unfolding plan_if
  plan_refuses r e = given_refused a _ r e

-- ---- update

module _ (mst xrf : List ℕ) (m : ℕ) (tags lens bytes : List ℕ) where
  abbrev drafted : List Field
  drafted = draft_fields tags lens bytes

  update_passed : (p : Place) (l : Leader) → update_answer (store mst xrf) m (draft tags lens bytes) ≡ Ok tt → place_for (store mst xrf) m ≡ p → leader_at mst (place_for (store mst xrf) m) ≡ l
      → Planned mst xrf m p l × (draft_right tags lens bytes ≡ true)
      × (update_appends (place_for (store mst xrf) m) (leader_at mst (place_for (store mst xrf) m)) (need_for drafted) && exceeds mst (need_for drafted) ≡ false)
  unfolding update_answer number_of
  update_passed p l e f h =
      let g = gate_done mst xrf _ e in
      let d = passed (not (draft_right tags lens bytes)) (Err BadDraft) _ (λ z. omega arith) g.2 in
      let k = named_done mst xrf m (fine (store mst xrf) m) _ d.1 in
      let x = passed (place_for (store mst xrf) m).deleted (Err Deleted) _ (λ z. omega arith) k.3 in
      let y =
      passed (update_appends (place_for (store mst xrf) m) (leader_at mst (place_for (store mst xrf) m)) (need_for drafted) && exceeds mst (need_for drafted)) (Err NoRoom) (Ok tt)
      (λ z. omega arith) x.1 in
      (planned_at mst xrf m p l g.0 g.1 k.0 k.1 k.2 f h, not-false _ d.0, y.0)

  module _ (plan : Result NewVersion Refusal) (u : plan ≡ update_plan (store mst xrf) m (draft tags lens bytes)) where
    pub update_refused : (r : Refusal) → plan ≡ Err r → (Err r ≡ update_answer (store mst xrf) m (draft tags lens bytes)) × (store mst xrf ≡ update_leaves (store mst xrf) m (draft tags lens bytes))
    unfolding update_plan update_leaves after
    update_refused r q =
        let h = plan_refuses (update_answer (store mst xrf) m (draft tags lens bytes)) _ mst xrf m r (sym u ∙ q) in
        (sym h, rw h)

    module _ (v : NewVersion) (q : plan ≡ Ok v) where
      versioning : (update_answer (store mst xrf) m (draft tags lens bytes) ≡ Ok tt)
          × (update_appends (place_for (store mst xrf) m) (leader_at mst (place_for (store mst xrf) m)) (need_for drafted) ≡ v.appends)
          × (v.was.end ≡ end_of mst) × (place_for (store mst xrf) m ≡ v.was.place) × (leader_at mst (place_for (store mst xrf) m) ≡ v.was.leader)
      unfolding update_plan
      versioning =
          plan_writes (update_answer (store mst xrf) m (draft tags lens bytes))
          (update_appends (place_for (store mst xrf) m) (leader_at mst (place_for (store mst xrf) m)) (need_for drafted)) mst xrf m v (sym u ∙ q)

      update_planned : Planned mst xrf m v.was.place v.was.leader × (draft_right tags lens bytes ≡ true)
          × (update_appends (place_for (store mst xrf) m) (leader_at mst (place_for (store mst xrf) m)) (need_for drafted) && exceeds mst (need_for drafted) ≡ false)
      update_planned = let w = versioning in update_passed v.was.place v.was.leader w.0 w.3 w.4

      module _ (h : v.appends ≡ true) where
        pub update_append_asks : HasSlot xrf m × (DraftFits tags lens bytes × AtEnd mst v.was.end (need_of (length tags) (length bytes)))
        unfolding exceeds
        update_append_asks =
            let w = versioning in
            let c = update_planned in
            let o = c.0.gate in
            let k = c.0.found in
            let room : end_of mst + need_for drafted ≤ length mst =
            ltb-false (length mst) (end_of mst + need_for drafted) (and_true_false _ _ c.2 (w.1 ∙ h)) in
            let size : ℕ = need_of (length tags) (length bytes) in (
              slot_known mst xrf m _ (end_of mst) o v.was.place v.was.leader k,
              (
                draft_fits tags lens bytes c.1,
                rw w.2
                    (is_at_end mst xrf m _ (end_of mst) o size (need_low (length tags) (length bytes)) (rw (draft_need tags lens bytes c.1) at room)),
              ),
            )

        pub update_appended : (last lastX : List ℕ) → last ≡ version_appended mst m v.was.place v.was.leader false (draft_fields tags lens bytes)
            → lastX ≡ with_entry xrf m (place_at_end mst false (pending_mark v.was.place.mark))
            → ((Ok tt) ≡ update_answer (store mst xrf) m (draft tags lens bytes)) × (store last lastX ≡ update_leaves (store mst xrf) m (draft tags lens bytes))
        unfolding update_leaves updated_mst updated_xrf after number_of
        update_appended last lastX s t = let w = versioning in (sym w.0, rw (w.0, w.1, h, w.4, w.3, s, t))

      module _ (h : v.appends ≡ false) where
        pub update_in_place_asks : ((1 ≤ v.was.place.block.0) × (place_address v.was.place + v.was.leader.mfrl ≤ length mst))
            × (DraftFits tags lens bytes × (need_of (length tags) (length bytes) ≤ v.was.leader.mfrl))
        unfolding update_appends
        update_in_place_asks =
            let w = versioning in
            let c = update_planned in
            let o = c.0.gate in
            let k = c.0.found in
            let n = draft_need tags lens bytes c.1 in (
              (k.place.block, omega arith),
              (
                draft_fits tags lens bytes c.1,
                rw (← n, ← w.4) (ltb-false _ _ (or_false (is_settled (place_for (store mst xrf) m).mark) _ (w.1 ∙ h)).1),
              ),
            )

        pub update_replaced : (last : List ℕ) → last ≡ version_in_place mst m v.was.place v.was.leader false (draft_fields tags lens bytes)
            → ((Ok tt) ≡ update_answer (store mst xrf) m (draft tags lens bytes)) × (store last xrf ≡ update_leaves (store mst xrf) m (draft tags lens bytes))
        unfolding update_leaves updated_mst updated_xrf after number_of
        update_replaced last s = let w = versioning in (sym w.0, rw (w.0, w.1, h, w.4, w.3, s))

-- ---- delete

module _ (mst xrf : List ℕ) (m : ℕ) where
  delete_passed : (p : Place) (l : Leader) → delete_answer (store mst xrf) m ≡ Ok tt → place_for (store mst xrf) m ≡ p → leader_at mst (place_for (store mst xrf) m) ≡ l
      → Planned mst xrf m p l
      × (is_settled (place_for (store mst xrf) m).mark && exceeds mst (need_for (current_fields mst (place_for (store mst xrf) m))) ≡ false)
  unfolding number_of
  delete_passed p l e f h =
      let g = gate_done mst xrf _ (sym (delete_late (store mst xrf) m) ∙ e) in
      let k = named_done mst xrf m (fine (store mst xrf) m) _ g.2 in
      let x = passed (place_for (store mst xrf) m).deleted (Err Deleted) _ (λ z. omega arith) k.3 in
      let c = passed (count_none mst) (Err BadControl) _ (λ z. omega arith) x.1 in
      let y =
      passed (is_settled (place_for (store mst xrf) m).mark && exceeds mst (need_for (current_fields mst (place_for (store mst xrf) m)))) (Err NoRoom) (Ok tt) (λ z. omega arith) c.1 in
      (planned_at mst xrf m p l g.0 g.1 k.0 k.1 k.2 f h, y.0)

  module _ (plan : Result NewVersion Refusal) (u : plan ≡ delete_plan (store mst xrf) m) where
    pub delete_refused : (r : Refusal) → plan ≡ Err r → (Err r ≡ delete_answer (store mst xrf) m) × (store mst xrf ≡ delete_leaves (store mst xrf) m)
    unfolding delete_plan delete_leaves after
    delete_refused r q =
        let h = plan_refuses (delete_answer (store mst xrf) m) _ mst xrf m r (sym u ∙ q) in
        (sym h, rw h)

    module _ (v : NewVersion) (q : plan ≡ Ok v) where
      deleting : (delete_answer (store mst xrf) m ≡ Ok tt) × (is_settled (place_for (store mst xrf) m).mark ≡ v.appends) × (v.was.end ≡ end_of mst)
          × (place_for (store mst xrf) m ≡ v.was.place) × (leader_at mst (place_for (store mst xrf) m) ≡ v.was.leader)
      unfolding delete_plan
      deleting = plan_writes (delete_answer (store mst xrf) m) (is_settled (place_for (store mst xrf) m).mark) mst xrf m v (sym u ∙ q)

      delete_planned : Planned mst xrf m v.was.place v.was.leader
          × (is_settled (place_for (store mst xrf) m).mark && exceeds mst (need_for (current_fields mst (place_for (store mst xrf) m))) ≡ false)
      delete_planned = let w = deleting in delete_passed v.was.place v.was.leader w.0 w.3 w.4

      module _ (h : v.appends ≡ true) where
        pub delete_append_asks : HasSlot xrf m × (RecordRead mst v.was.end v.was.place v.was.leader × AtEnd mst v.was.end (need_for (current_fields mst v.was.place)))
        unfolding exceeds
        delete_append_asks =
            let w = deleting in
            let c = delete_planned in
            let o = c.0.gate in
            let k = c.0.found in
            let own : ℕ = need_for (current_fields mst (place_for (store mst xrf) m)) in
            let room : end_of mst + own ≤ length mst = ltb-false (length mst) (end_of mst + own) (and_true_false _ _ c.1 (w.1 ∙ h)) in (
              slot_known mst xrf m _ (end_of mst) o v.was.place v.was.leader k,
              rw w.2 (
                read_known mst xrf m _ (end_of mst) o v.was.place v.was.leader k,
                is_at_end mst xrf m _ (end_of mst) o (need_for (current_fields mst v.was.place)) (need_low _ _) (rw w.3 at room),
              ),
            )

        pub delete_copied : (last lastX : List ℕ) → last ≡ counted_less (version_appended mst m v.was.place v.was.leader true (current_fields mst v.was.place))
            → lastX ≡ with_entry xrf m (place_at_end mst true Changed)
            → ((Ok tt) ≡ delete_answer (store mst xrf) m) × (store last lastX ≡ delete_leaves (store mst xrf) m)
        unfolding delete_leaves deleted_mst deleted_xrf after number_of
        delete_copied last lastX s t = let w = deleting in (sym w.0, rw (w.0, w.1, h, w.4, w.3, s, t))

      module _ (h : v.appends ≡ false) where
        pub delete_in_place_asks : HasSlot xrf m × RecordRead mst (end_of mst) v.was.place v.was.leader
        delete_in_place_asks =
            let c = delete_planned in
            let o = c.0.gate in
            let k = c.0.found in
            (slot_known mst xrf m _ (end_of mst) o v.was.place v.was.leader k, read_known mst xrf m _ (end_of mst) o v.was.place v.was.leader k)

        pub delete_marked : (last lastX : List ℕ) → last ≡ counted_less (version_in_place mst m v.was.place v.was.leader true (current_fields mst v.was.place))
            → lastX ≡ with_entry xrf m (placed v.was.place.block.0 v.was.place.offset true v.was.place.mark)
            → ((Ok tt) ≡ delete_answer (store mst xrf) m) × (store last lastX ≡ delete_leaves (store mst xrf) m)
        unfolding delete_leaves deleted_mst deleted_xrf after number_of
        delete_marked last lastX s t = let w = deleting in (sym w.0, rw (w.0, w.1, h, w.4, w.3, s, t))
