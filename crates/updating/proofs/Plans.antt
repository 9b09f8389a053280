-- What update and delete decide before they write, one law for each way that the deciding functions
-- return.
use Rattle.std.specs.Prelude.{Result, Ok, Err}
use Prim.Native.Nat.{ℕ, ◌≤◌}
use native.Mathlib.Omega.{arith}
use mathlib.Core.Path.{◌≡◌, refl, sym, ap, ◌∙◌}
use mathlib.Core.Logic.{◌⊎◌, ⊎_elim}
use mathlib.Core.Bool.{Bool, true, false, not, ◌&&◌, cond}
use mathlib.Core.List.{List, [], ◌∷◌}
use lib.ListN.{length}
use borrow.Author.Tests.{not-false}
use Rattle.layout.specs.Sizes.{mst_most}
use Rattle.files.specs.Control.{end_of, count_none}
use Rattle.files.specs.declared.control.Control.{Control}
use Rattle.layout.specs.declared.entry.Mark.TheVariants.{Settled, Changed, New}
use Rattle.drafts.specs.Draft.{need_of, draft_right, draft_fields, draft}
use Rattle.drafts.specs.Bytes.{need_for}
use Rattle.drafts.proofs.Draftable.{draft_need}
use Rattle.store.specs.Answer.{refuse, Answer}
use Rattle.store.specs.Reading.{place_for, mfn_in_range, entry_for, is_malformed, is_gone, is_settled, leader_at, current_fields}
use Rattle.store.specs.Refusals.{fine}
use Rattle.writing.specs.Refusals.{exceeds, update_answer, delete_answer}
use Rattle.versions.specs.Written.{update_appends}
use Rattle.store.specs.Gate.{reached_at, gate_of, known_of, reached_of}
use Rattle.updating.specs.Plans.{version_of, plan_if, update_plan, delete_plan, room_plan}
use Rattle.versions.specs.Asked.{RecordRead}
use Rattle.store.specs.declared.answer.Refusal.{Refusal}
use Rattle.store.specs.declared.answer.Refusal.TheVariants.{BadControl, BadDraft, NoMfn, BadEntry, Gone as GoneAnswer, BadRecord, Deleted, NoRoom}
use Rattle.store.specs.declared.gate.Record.{Record}
use Rattle.store.specs.declared.gate.Reached.{Reached}
use Rattle.updating.specs.declared.changes.NewVersion.{NewVersion}
use Rattle.versions.proofs.Told.{draft_fits, read_known}
use Rattle.store.proofs.Gates.{refused_is, done_is, OpenFacts, gate_open, known_refused, KnownFacts, known_facts, Planned}
use Rattle.store.proofs.Reaching.{reach_refused, reached_facts}
use Rattle.store.specs.Store.{Store, store}
use Rattle.writing.proofs.Plans.{shut_answer}
use Rattle.writing.proofs.Counted.{room_row, delete_late}

-- the refusal of a record that was not found is the answer of a call, whatever follows
abbrev named_answer : List ℕ → List ℕ → ℕ → Bool → Answer → Answer
named_answer mst xrf m ok rest =
    cond (not (mfn_in_range mst m)) (Err NoMfn)
    (cond (is_malformed (entry_for (store mst xrf) m)) (Err BadEntry)
    (cond (is_gone (entry_for (store mst xrf) m)) (Err GoneAnswer)
    (cond (not ok) (Err BadRecord) rest)))

-- the plan of a call that is refused for want of room alone
module _ (mst xrf : List ℕ) (m need : ℕ) (t : Reached) (at : place_for (store mst xrf) m ≡ t.place) (is : t.leader ≡ leader_at mst t.place) (e : t.end ≡ end_of mst) where
  room_planned : (a : Answer) (appends full : Bool) → exceeds mst need ≡ full → a ≡ cond (appends && full) (Err NoRoom) (Ok tt)
      → room_plan (length mst) need t appends ≡ plan_if a appends (store mst xrf) m
  unfolding room_plan plan_if exceeds
  room_planned a true true x h = rw (e, x) (refused_is _ _ NoRoom h)
  room_planned a true false x h = rw (e, x) (done_is _ _ (version_of (reached_at (end_of mst) t.place t.leader) true) h (rw (at, ← is)))
  room_planned a false full x h = done_is _ _ (version_of t false) h (rw (at, ← is, ← e))

-- ---- update

-- a draft that was tested is small
pub draft_small : (tags lens bytes : List ℕ) (d : Bool) (need : ℕ) → d ≡ draft_right tags lens bytes → not d ≡ false → need ≡ need_of (length tags) (length bytes)
    → need ≤ 65536
draft_small tags lens bytes d need e h n = let f = draft_fits tags lens bytes (sym e ∙ not-false d h) in omega arith

module _ (mst xrf : List ℕ) (m : ℕ) (tags lens bytes : List ℕ) where
  update_refused : (r : Refusal) → update_answer (store mst xrf) m (draft tags lens bytes) ≡ Err r → Err r ≡ update_plan (store mst xrf) m (draft tags lens bytes)
  unfolding update_plan plan_if
  update_refused r e = refused_is _ _ r e

  pub update_shut : (r : Refusal) → gate_of (store mst xrf) ≡ Err r → Err r ≡ update_plan (store mst xrf) m (draft tags lens bytes)
  unfolding update_answer
  update_shut r q = update_refused r (shut_answer mst xrf r _ q)

-- the store as it was opened is the one that was lent
module _ (mst xrf : List ℕ) (s : Store) (same : (s.mst ≡ mst) × (s.xrf ≡ xrf)) (k : Control) (g : gate_of s ≡ Ok k) where
  is : s ≡ store mst xrf
  is = rw (same.0, same.1)

  opened_is : OpenFacts mst xrf k.next k.end
  opened_is = gate_open mst xrf k (ap gate_of (sym is) ∙ g)

  pub open_end_small : k.end ≤ mst_most
  open_end_small = let o = opened_is in omega arith

  module _ (m : ℕ) (tags lens bytes : List ℕ) (d : Bool) (e : d ≡ draft_right tags lens bytes) where
    pub update_no_draft : not d ≡ true → Err BadDraft ≡ update_plan (store mst xrf) m (draft tags lens bytes)
    unfolding update_answer
    update_no_draft h =
        let o = opened_is in
        update_refused mst xrf m tags lens bytes BadDraft (rw (o.lengths, o.control, ← e, h))

    module _ (h : not d ≡ false) (y : Result Record Refusal) (u : y ≡ known_of s m) where
      known_is : y ≡ known_of (store mst xrf) m
      known_is = u ∙ ap (λ (t : Store). known_of t m) is

      pub update_unknown : (r : Refusal) → y ≡ Err r → Err r ≡ update_plan (store mst xrf) m (draft tags lens bytes)
      unfolding update_answer
      update_unknown r v =
          let o = opened_is in
          let f = known_refused mst xrf m r (sym known_is ∙ v) in
          let rest : (x : Answer) → named_answer mst xrf m (fine (store mst xrf) m) x ≡ Err r = λ x. f.answers (record { answer = x; applies = true } ∷ []) in
          update_refused mst xrf m tags lens bytes r (rw (o.lengths, o.control, ← e, h) (rest _))

      module _ (x : Record) (v : y ≡ Ok x) where
        known : KnownFacts mst xrf m x.place x.leader
        known = known_facts mst xrf m x.place x.leader (sym known_is ∙ v)

        pub update_deleted : x.place.deleted ≡ true → Err Deleted ≡ update_plan (store mst xrf) m (draft tags lens bytes)
        unfolding update_answer
        update_deleted w =
            let o = opened_is in
            let f = known in
            update_refused mst xrf m tags lens bytes Deleted (rw (o.lengths, o.control, ← e, h, f.known, f.entry, f.record_fine_lem, w))

        pub update_planned : (need : ℕ) (appends : Bool) (r : Result NewVersion Refusal) → x.place.deleted ≡ false → need ≡ need_of (length tags) (length bytes)
            → appends ≡ update_appends x.place x.leader need → r ≡ room_plan (length mst) need (reached_at k.end x.place x.leader) appends
            → r ≡ update_plan (store mst xrf) m (draft tags lens bytes)
        unfolding update_plan update_answer
        update_planned need appends r w n i z =
            let o = opened_is in
            let f = known in
            let own : need_for (draft_fields tags lens bytes) ≡ need = draft_need tags lens bytes (sym e ∙ not-false d h) ∙ sym n in
            let j : update_appends (place_for (store mst xrf) m) (leader_at mst (place_for (store mst xrf) m)) (need_for (draft_fields tags lens bytes)) ≡ appends =
            rw (own, f.place_is, ← f.leader_is) (sym i) in
            let a : update_answer (store mst xrf) m (draft tags lens bytes) ≡ cond (appends && exceeds mst need) (Err NoRoom) (Ok tt) =
            rw (o.lengths, o.control, ← e, h, f.known, j, own, f.entry, f.record_fine_lem, w) in
            z ∙ room_planned mst xrf m need (reached_at k.end x.place x.leader) f.place_is f.leader_is o.end_is (update_answer (store mst xrf) m (draft tags lens bytes)) appends (exceeds mst need) refl a
            ∙ ap (λ (b : Bool). plan_if (update_answer (store mst xrf) m (draft tags lens bytes)) b (store mst xrf) m) (sym j)

pub ruleset update_plans = (update_shut, update_no_draft, update_unknown, update_deleted, update_planned)

-- ---- delete

module _ (mst xrf : List ℕ) (m : ℕ) (y : Result Reached Refusal) (p : y ≡ reached_of (store mst xrf) m) where
  delete_refused : (r : Refusal) → delete_answer (store mst xrf) m ≡ Err r → Err r ≡ delete_plan (store mst xrf) m
  unfolding delete_plan plan_if
  delete_refused r e = refused_is _ _ r e

  pub delete_unreached : (r : Refusal) → y ≡ Err r → Err r ≡ delete_plan (store mst xrf) m
  delete_unreached r q =
      let f = reach_refused mst xrf m r (sym p ∙ q) in
      delete_refused r
      (delete_late (store mst xrf) m
      ∙ f.answers
      (refuse Deleted (place_for (store mst xrf) m).deleted ∷ refuse BadControl (count_none mst) ∷ room_row (store mst xrf) m ∷ []))

  module _ (t : Reached) (q : y ≡ Ok t) where
    reached : (t.end ≡ end_of mst) × Planned mst xrf m t.place t.leader
    reached = reached_facts mst xrf m t (sym p ∙ q)

    pub delete_deleted : t.place.deleted ≡ true → Err Deleted ≡ delete_plan (store mst xrf) m
    delete_deleted w =
        let o = reached.1.gate in
        let f = reached.1.found in
        delete_refused Deleted (delete_late (store mst xrf) m ∙ rw (o.lengths, o.control, f.known, f.entry, f.record_fine_lem, w))

    pub reached_end_small : t.end ≤ mst_most
    reached_end_small = let o = reached.1.gate in let e = reached.0 in omega arith

    pub count_asked : 64 ≤ length mst
    count_asked = let o = reached.1.gate in omega arith

    module _ (w : t.place.deleted ≡ false) (none : Bool) (n : none ≡ count_none mst) where
      pub delete_none : none ≡ true → Err BadControl ≡ delete_plan (store mst xrf) m
      delete_none h =
          let o = reached.1.gate in
          let f = reached.1.found in
          delete_refused BadControl
          (delete_late (store mst xrf) m ∙ rw (o.lengths, o.control, f.known, f.entry, f.record_fine_lem, w, ← n, h))

      module _ (some : none ≡ false) where
        pub own_need_asked : RecordRead mst t.end t.place t.leader
        own_need_asked = rw reached.0 (read_known mst xrf m _ (end_of mst) reached.1.gate t.place t.leader reached.1.found)

        pub delete_in_place : (t.place.mark ≡ Changed) ⊎ (t.place.mark ≡ New) → Ok (version_of t false) ≡ delete_plan (store mst xrf) m
        unfolding delete_plan plan_if
        delete_in_place pending =
            let o = reached.1.gate in
            let f = reached.1.found in
            let i : is_settled t.place.mark ≡ false = ⊎_elim (ap is_settled) (ap is_settled) pending in
            done_is _ _ (version_of t false)
            (delete_late (store mst xrf) m ∙ rw (o.lengths, o.control, f.known, f.entry, f.record_fine_lem, w, ← n, some, i))
            (rw (f.place_is, i, ← f.leader_is, ← reached.0))

        pub delete_planned : (need : ℕ) (r : Result NewVersion Refusal) → t.place.mark ≡ Settled → need ≡ need_for (current_fields mst t.place)
            → r ≡ room_plan (length mst) need t true → r ≡ delete_plan (store mst xrf) m
        unfolding delete_plan
        delete_planned need r i k s =
            let o = reached.1.gate in
            let f = reached.1.found in
            let j : is_settled (place_for (store mst xrf) m).mark ≡ true = rw (f.place_is, i) in
            let a : delete_answer (store mst xrf) m ≡ cond (true && exceeds mst need) (Err NoRoom) (Ok tt) =
            delete_late (store mst xrf) m
            ∙ rw (o.lengths, o.control, f.known, j, k, f.place_is, f.entry, f.record_fine_lem, w, ← n, some) in
            s ∙ room_planned mst xrf m need t f.place_is f.leader_is reached.0 (delete_answer (store mst xrf) m) true (exceeds mst need) refl a
            ∙ ap (λ (b : Bool). plan_if (delete_answer (store mst xrf) m) b (store mst xrf) m) (sym j)

pub ruleset delete_plans = (delete_unreached, delete_deleted, count_asked, delete_none, own_need_asked, reached_end_small, delete_in_place, delete_planned)
