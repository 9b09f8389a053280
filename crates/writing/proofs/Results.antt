-- What a plan tells the writing half, and what the call then returns. A plan that is not a refusal is made where the call's answer is done, so
-- none of the call's refusals applies; with what the writing half left, that gives the call's answer and both buffers.
use Rattle.std.specs.Prelude.{Result, Ok, Err}
use Prim.Native.Nat.{ℕ, ◌+◌, ◌≤◌}
use native.Mathlib.Omega.{arith}
use mathlib.Core.Path.{◌≡◌, refl, sym, ap, ◌∙◌}
use mathlib.Core.Bool.{Bool, true, false, not, ◌&&◌, cond}
use mathlib.Core.List.{List}
use lib.Dec.{eqb}
use lib.ListN.{length}
use borrow.Author.Tests.{eqb-false, ltb-false, not-false}
use Rattle.layout.specs.Sizes.{mfn_most, mst_blocks, mst_permitted, xrf_permitted, capacity_of}
use Rattle.layout.specs.Entry.{placed}
use Rattle.files.specs.Control.{next_of, end_of, formatted_mst, count_full, counted_more}
use Rattle.files.specs.CrossReference.{xrf_block, head_right, slot_free, with_entry, formatted_xrf}
use Rattle.layout.specs.declared.sizes.Mfn.{Mfn}
use Rattle.layout.specs.declared.entry.Mark.{Mark}
use Rattle.layout.specs.declared.entry.Mark.TheVariants.{Settled, Changed, New}
use Rattle.word.proofs.Tests.{false_true, and_left}
use Rattle.drafts.specs.Draft.{need_of, draft_right, draft_fields, draft}
use Rattle.drafts.specs.Bytes.{need_for}
use Rattle.drafts.proofs.Draftable.{draft_need}
use Rattle.store.specs.Answer.{number_of, after}
use Rattle.store.specs.Reading.{lengths_permitted, place_for, is_settled, is_new, leader_at}
use Rattle.store.specs.Refusals.{fine, both_fine}
use Rattle.writing.specs.Refusals.{exceeds, format_answer, create_answer, settle_answer, revert_answer}
use Rattle.versions.specs.Written.{created_mst, created_xrf, settled_mst, settled_xrf, reverted_mst, reverted_xrf}
use Rattle.writing.proofs.Counted.{create_through, revert_through}
use Rattle.writing.specs.Calls.{created, format_leaves, create_of, create_leaves, settle_leaves, revert_leaves}
use Rattle.files.specs.declared.control.Control.{Control}
use Rattle.store.specs.Gate.{gate_of, reached_if}
use Rattle.writing.proofs.Plans.{count_in, create_full}
use Rattle.writing.specs.Plans.{settle_plan, revert_plan, create_plan}
use Rattle.versions.specs.Asked.{HasSlot, AtEnd, DraftFits, RecordRead}
use Rattle.store.specs.declared.answer.Refusal.TheVariants.{BadLength, BadControl, BadDraft, NoSlot, BadEntry, NotPending, NeverSettled, NoRoom}
use Rattle.store.specs.declared.answer.Refusal.{Refusal}
use Rattle.writing.specs.declared.create.Creating.{Creating}
use Rattle.store.specs.declared.gate.Reached.{Reached}
use Rattle.store.proofs.Gates.{given_refused, given_done, passed, gate_done, named_done, lengths_both, OpenFacts, open_from, back_changed, Planned, planned_at}
use Rattle.versions.proofs.Told.{need_low, draft_fits, is_at_end, slot_known, read_known, read_own}
use Rattle.store.specs.Store.{store}

-- ---- format

module _ (mst xrf : List ℕ) (b : Bool) (e : b ≡ lengths_permitted (store mst xrf)) where
  pub format_refused : not b ≡ true → ((Err BadLength) ≡ format_answer (store mst xrf)) × (store mst xrf ≡ format_leaves (store mst xrf))
  unfolding format_answer format_leaves after number_of
  format_refused h = (rw (← e, h), rw (← e, h))

  module _ (h : not b ≡ false) where
    pub format_asks_mst : mst_permitted (length mst) ≡ true
    format_asks_mst = (lengths_both mst xrf (sym e ∙ not-false b h)).0

    pub format_asks_xrf : xrf_permitted (length xrf) ≡ true
    format_asks_xrf = (lengths_both mst xrf (sym e ∙ not-false b h)).1

    pub format_done : (m x : List ℕ) → m ≡ formatted_mst (length mst) → x ≡ formatted_xrf (length xrf)
        → ((Ok tt) ≡ format_answer (store mst xrf)) × (store m x ≡ format_leaves (store mst xrf))
    unfolding format_answer format_leaves after number_of
    format_done m x p q = (rw (← e, h), rw (← e, h, p, q))

-- ---- create

module _ (mst xrf tags lens bytes : List ℕ) (plan : Result Creating Refusal) (p : plan ≡ create_plan (store mst xrf) (draft tags lens bytes)) where
  pub create_refused : (r : Refusal) → plan ≡ Err r
      → (created (Err r) ≡ create_of (store mst xrf) (draft tags lens bytes))
      × (store mst xrf ≡ create_leaves (store mst xrf) (draft tags lens bytes))
  unfolding create_plan create_of create_leaves after
  create_refused r q =
      let h = given_refused (create_answer (store mst xrf) (draft tags lens bytes)) _ r (sym p ∙ q) in
      (rw h, rw h)

  module _ (k : Creating) (q : plan ≡ Ok k) where
    written : (create_answer (store mst xrf) (draft tags lens bytes) ≡ Ok tt) × (k.next ≡ record { 0 = next_of mst }) × (k.end ≡ end_of mst) × (k.need ≡ need_for (draft_fields tags lens bytes))
    unfolding create_plan
    written =
        let h = given_done (create_answer (store mst xrf) (draft tags lens bytes)) _ k (sym p ∙ q) in
        (h.0, ap (λ (c : Creating). c.next) (sym h.1), ap (λ (c : Creating). c.end) (sym h.1), ap (λ (c : Creating). c.need) (sym h.1))

    create_passed : OpenFacts mst xrf k.next k.end × (draft_right tags lens bytes ≡ true) × (eqb (next_of mst) (capacity_of (length xrf) + 1) ≡ false)
        × (exceeds mst (need_for (draft_fields tags lens bytes)) ≡ false)
    unfolding number_of
    create_passed =
        let w = written in
        let g = gate_done mst xrf _ (create_through (store mst xrf) (draft tags lens bytes) w.0) in
        let d = passed (not (draft_right tags lens bytes)) (Err BadDraft) _ (λ z. omega arith) g.2 in
        let f = passed (eqb (next_of mst) (capacity_of (length xrf) + 1)) (Err NoSlot) _ (λ z. omega arith) d.1 in
        let s = passed (not (head_right xrf (xrf_block (next_of mst)) && slot_free xrf (next_of mst))) (Err BadEntry) _ (λ z. omega arith) f.1 in
        let r = passed (exceeds mst (need_for (draft_fields tags lens bytes))) (Err NoRoom) (Ok tt) (λ z. omega arith) s.1 in
        (open_from mst xrf k.next k.end g.0 g.1 (ap (λ (n : Mfn). n.0) w.1) w.2, not-false _ d.0, f.0, r.0)

    pub create_asks : (HasSlot xrf k.next.0 × (k.next.0 ≡ next_of mst) × (k.next.0 ≤ mfn_most))
        × ((AtEnd mst k.end k.need × (k.need ≡ need_of (length tags) (length bytes))) × DraftFits tags lens bytes)
    unfolding exceeds
    create_asks =
        let c = create_passed in
        let o = c.0 in
        let f = eqb-false (next_of mst) (capacity_of (length xrf) + 1) c.2 in
        let n : k.need ≡ need_of (length tags) (length bytes) = written.3 ∙ draft_need tags lens bytes c.1 in
        let room : end_of mst + k.need ≤ length mst = rw written.3 (ltb-false (length mst) (end_of mst + need_for (draft_fields tags lens bytes)) c.3) in (
          (record { low = omega arith; high = omega arith }, o.next_is, omega arith),
          ((is_at_end mst xrf 0 k.next k.end o k.need (rw n (need_low (length tags) (length bytes))) room, n), draft_fits tags lens bytes c.1),
        )

    pub create_done : (m x : List ℕ) → m ≡ created_mst mst (draft_fields tags lens bytes) → x ≡ created_xrf mst xrf
        → (created (Ok k.next) ≡ create_of (store mst xrf) (draft tags lens bytes))
        × (store m x ≡ create_leaves (store mst xrf) (draft tags lens bytes))
    unfolding create_of create_leaves after number_of
    create_done m x s t = let w = written in (rw (w.0, w.1), rw (w.0, s, t))

-- what a create's plan tells a return beside those that it has: a need is above 0, its MFN is what the call gives, and RECCNT bars a call
module _ (mst xrf tags lens bytes : List ℕ) where
  pub create_needs : (plan : Result Creating Refusal) → plan ≡ create_plan (store mst xrf) (draft tags lens bytes) → (k : Creating) → plan ≡ Ok k → 18 ≤ k.need
  create_needs plan p k q = rw (create_asks mst xrf tags lens bytes plan p k q).1.0.1 (need_low (length tags) (length bytes))

  pub create_told : (plan : Result Creating Refusal) → plan ≡ create_plan (store mst xrf) (draft tags lens bytes) → (k : Creating) → plan ≡ Ok k
      → created (Ok k.next) ≡ create_of (store mst xrf) (draft tags lens bytes)
  create_told plan p k q = (create_done mst xrf tags lens bytes plan p k q _ _ refl refl).0

  module _ (g : Result Control Refusal) (p : g ≡ gate_of (store mst xrf)) (k : Control) (q : g ≡ Ok k) (full : Bool) (w : full ≡ count_full mst) (h : full ≡ true) where
    barred : (created (Err BadControl) ≡ create_of (store mst xrf) (draft tags lens bytes)) × (store mst xrf ≡ create_leaves (store mst xrf) (draft tags lens bytes))
    barred = create_refused mst xrf tags lens bytes (Err BadControl) (create_full mst xrf tags lens bytes g p k q full w h) BadControl refl

    pub create_barred : created (Err BadControl) ≡ create_of (store mst xrf) (draft tags lens bytes)
    create_barred = barred.0

    pub create_barred_left : store mst xrf ≡ create_leaves (store mst xrf) (draft tags lens bytes)
    create_barred_left = barred.1

pub ruleset create_returns = (count_in, create_needs, create_told, create_barred, create_barred_left)

-- ---- settle and revert

module _ (mst xrf : List ℕ) (m : ℕ) (k : Result Reached Refusal) (u : k ≡ settle_plan (store mst xrf) m) where
  pub settle_refused : (r : Refusal) → k ≡ Err r → (Err r ≡ settle_answer (store mst xrf) m) × (store mst xrf ≡ settle_leaves (store mst xrf) m)
  unfolding settle_plan reached_if settle_leaves after
  settle_refused r q =
      let h = given_refused (settle_answer (store mst xrf) m) _ r (sym u ∙ q) in
      (sym h, rw h)

  module _ (t : Reached) (q : k ≡ Ok t) where
    settling : (settle_answer (store mst xrf) m ≡ Ok tt) × (end_of mst ≡ t.end) × (place_for (store mst xrf) m ≡ t.place) × (leader_at mst (place_for (store mst xrf) m) ≡ t.leader)
    unfolding settle_plan reached_if
    settling =
        let h = given_done (settle_answer (store mst xrf) m) _ t (sym u ∙ q) in
        (h.0, ap (λ (x : Reached). x.end) h.1, ap (λ (x : Reached). x.place) h.1, ap (λ (x : Reached). x.leader) h.1)

    settle_passed : Planned mst xrf m t.place t.leader
    unfolding settle_answer
    settle_passed =
        let a = settling in
        let g = gate_done mst xrf _ a.0 in
        let n = named_done mst xrf m (fine (store mst xrf) m) _ g.2 in
        planned_at mst xrf m t.place t.leader g.0 g.1 n.0 n.1 n.2 a.2 a.3

    pub settle_asks : HasSlot xrf m × RecordRead mst (end_of mst) t.place (leader_at mst t.place)
    settle_asks =
        let c = settle_passed in
        let o = c.gate in
        let k = c.found in
        (slot_known mst xrf m _ (end_of mst) o t.place t.leader k, read_own mst (end_of mst) t.place t.leader (read_known mst xrf m _ (end_of mst) o t.place t.leader k))

    pub settle_done : (last lastX : List ℕ) → last ≡ settled_mst mst t.place → lastX ≡ settled_xrf xrf m t.place
        → ((Ok tt) ≡ settle_answer (store mst xrf) m) × (store last lastX ≡ settle_leaves (store mst xrf) m)
    unfolding settle_leaves after number_of
    settle_done last lastX s t = let a = settling in (sym a.0, rw (a.0, a.2, s, t))

-- neither settled nor new
pub only_changed : (k : Mark) → is_settled k ≡ false → is_new k ≡ false → k ≡ Changed
only_changed Settled h i = absurd (false_true (sym h))
only_changed Changed h i = refl
only_changed New h i = absurd (false_true (sym i))

module _ (mst xrf : List ℕ) (m : ℕ) (k : Result Reached Refusal) (u : k ≡ revert_plan (store mst xrf) m) where
  pub revert_refused : (r : Refusal) → k ≡ Err r → (Err r ≡ revert_answer (store mst xrf) m) × (store mst xrf ≡ revert_leaves (store mst xrf) m)
  unfolding revert_plan reached_if revert_leaves after
  revert_refused r q =
      let h = given_refused (revert_answer (store mst xrf) m) _ r (sym u ∙ q) in
      (sym h, rw h)

  module _ (t : Reached) (q : k ≡ Ok t) where
    reverting : (revert_answer (store mst xrf) m ≡ Ok tt) × (end_of mst ≡ t.end) × (place_for (store mst xrf) m ≡ t.place) × (leader_at mst (place_for (store mst xrf) m) ≡ t.leader)
    unfolding revert_plan reached_if
    reverting =
        let h = given_done (revert_answer (store mst xrf) m) _ t (sym u ∙ q) in
        (h.0, ap (λ (x : Reached). x.end) h.1, ap (λ (x : Reached). x.place) h.1, ap (λ (x : Reached). x.leader) h.1)

    revert_passed : Planned mst xrf m t.place t.leader × (t.place.mark ≡ Changed)
    unfolding number_of
    revert_passed =
        let a = reverting in
        let g = gate_done mst xrf _ (revert_through (store mst xrf) m a.0) in
        let n = named_done mst xrf m (both_fine (store mst xrf) m) _ g.2 in
        let x = passed (is_settled (place_for (store mst xrf) m).mark) (Err NotPending) _ (λ z. omega arith) n.3 in
        let y = passed (is_new (place_for (store mst xrf) m).mark) (Err NeverSettled) (Ok tt) (λ z. omega arith) x.1 in (
          planned_at mst xrf m t.place t.leader g.0 g.1 n.0 n.1 (and_left _ _ n.2) a.2 a.3,
          rw a.2 at (only_changed (place_for (store mst xrf) m).mark x.0 y.0),
        )

    pub revert_asks : ((1 ≤ m) × (m ≤ capacity_of (length xrf))) × ((1 ≤ t.leader.mfbwb.0) × (t.leader.mfbwb.0 ≤ mst_blocks) × (t.leader.mfbwp ≤ 498))
    revert_asks =
        let c = revert_passed in
        let o = c.0.gate in
        let k = c.0.found in
        let s = slot_known mst xrf m _ (end_of mst) o t.place t.leader k in
        let b = back_changed (end_of mst) t.place t.leader k.facts.back c.1 in
        ((s.low, s.high), (b.facts.block, omega arith, b.facts.offset))

    -- what the count asks, of the MST as it is lent again
    pub revert_long : 64 ≤ length mst
    revert_long = let o = revert_passed.0.gate in omega arith

    pub revert_done : (master last : List ℕ) → master ≡ cond t.place.deleted (counted_more mst) mst → last ≡ with_entry xrf m (placed t.leader.mfbwb.0 t.leader.mfbwp false Settled)
        → ((Ok tt) ≡ revert_answer (store mst xrf) m) × (store master last ≡ revert_leaves (store mst xrf) m)
    unfolding revert_leaves reverted_mst reverted_xrf after number_of
    revert_done master last w s = let a = reverting in (sym a.0, rw (a.0, a.3, a.2, w, s))
