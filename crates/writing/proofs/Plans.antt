-- Which plan each call makes, by what its steps found. Each law's premises are what is known at one `return`, so that `search` finds them
-- there wherever they stand; a step's result is a variable with what the step ensures of it.
use Rattle.std.specs.Prelude.{Result, Ok, Err}
use Prim.Native.Nat.{ℕ, ◌+◌, ◌≤◌, ◌<◌}
use native.Mathlib.Omega.{arith}
use mathlib.Core.Path.{ap, ◌≡◌, sym, ◌∙◌}
use mathlib.Core.Bool.{Bool, true, false, not, cond}
use mathlib.Core.List.{List, [], ◌∷◌}
use lib.ListN.{length}
use borrow.Author.Tests.{lt-ltb, le-ltb, eq-eqb, ne_eqb, not-true, not-false}
use Rattle.layout.specs.Sizes.{capacity_of}
use Rattle.files.specs.Control.{end_of, count_full}
use Rattle.files.specs.CrossReference.{xrf_block, head_right, slot_free}
use Rattle.layout.specs.declared.entry.Mark.TheVariants.{Settled, Changed, New}
use Rattle.drafts.specs.Draft.{need_of, draft_right, draft_fields, draft}
use Rattle.drafts.specs.Bytes.{need_for}
use Rattle.drafts.proofs.Draftable.{draft_need}
use Rattle.store.specs.Answer.{Row, refuse, lowest, Answer}
use Rattle.store.specs.Reading.{lengths_permitted, control_fine, place_for, is_settled, is_new}
use Rattle.writing.specs.Refusals.{exceeds, create_answer, settle_answer, revert_answer}
use Rattle.store.specs.Refusals.{gated}
use Rattle.store.specs.Gate.{reached_at, gate_of, known_both, reached_if, reached_of}
use Rattle.writing.specs.Plans.{settle_plan, revert_plan, slot_answer, SlotAsked, create_plan}
use Rattle.writing.proofs.Counted.{create_rows, revert_rows, create_asks_count, revert_asks_count}
use Rattle.files.specs.declared.control.Control.{Control}
use Rattle.store.specs.declared.answer.Refusal.{Refusal}
use Rattle.store.specs.declared.answer.Refusal.TheVariants.{BadLength, BadControl, BadDraft, NoSlot, BadEntry, NotPending, NeverSettled, NoRoom}
use Rattle.store.specs.declared.gate.Record.{Record}
use Rattle.store.specs.declared.gate.Reached.{Reached}
use Rattle.store.proofs.Marks.{mark_settled, mark_pending}
use Rattle.versions.proofs.Told.{draft_fits}
use Rattle.store.proofs.Gates.{refused_is, done_is, gate_shut, gate_open, opened, OpenFacts, Planned, both_refused, BothFacts, both_facts}
use Rattle.store.proofs.Reaching.{reach_refused, reached_facts}
use Rattle.store.specs.Store.{Store, store}

-- the gate's refusal is the answer of a call, whatever follows
pub shut_answer : (mst xrf : List ℕ) (r : Refusal) (rest : Answer) → gate_of (store mst xrf) ≡ Err r
    → cond (not (lengths_permitted (store mst xrf))) (Err BadLength) (cond (not (control_fine (store mst xrf))) (Err BadControl) rest) ≡ Err r
shut_answer mst xrf r rest e = (gate_shut mst xrf r e).answers (record { answer = rest; applies = true } ∷ [])

-- ---- create

module _ (mst xrf : List ℕ) (next end need : ℕ) (s : SlotAsked mst xrf next end need) (cap : ℕ) (c : cap ≡ capacity_of (length xrf)) where
  pub slot_full : next ≡ cap + 1 → (Err NoSlot) ≡ slot_answer (store mst xrf) need
  unfolding slot_answer
  slot_full h = rw (← s.next_is, ← c, eq-eqb _ _ h)

  module _ (h : next ≡ cap + 1 → ⊥) (k : ℕ) (w : k ≡ xrf_block next) (b : Bool) (e : b ≡ head_right xrf k) where
    pub slot_head : not b ≡ true → (Err BadEntry) ≡ slot_answer (store mst xrf) need
    unfolding slot_answer
    slot_head i = rw (← s.next_is, ← c, ne_eqb _ _ h, ← w, ← e, not-true b i)

    module _ (i : not b ≡ false) (f : Bool) (g : f ≡ slot_free xrf next) where
      pub slot_taken : not f ≡ true → (Err BadEntry) ≡ slot_answer (store mst xrf) need
      unfolding slot_answer
      slot_taken j = rw (← s.next_is, ← c, ne_eqb _ _ h, ← w, ← e, not-false b i, ← g, not-true f j)

      module _ (j : not f ≡ false) where
        pub slot_no_room : length mst < end + need → (Err NoRoom) ≡ slot_answer (store mst xrf) need
        unfolding slot_answer exceeds
        slot_no_room l = rw (← s.next_is, ← c, ne_eqb _ _ h, ← w, ← e, not-false b i, ← g, not-false f j, ← s.end_is, lt-ltb _ _ l)

        pub slot_done : end + need ≤ length mst → (Ok tt) ≡ slot_answer (store mst xrf) need
        unfolding slot_answer exceeds
        slot_done l = rw (← s.next_is, ← c, ne_eqb _ _ h, ← w, ← e, not-false b i, ← g, not-false f j, ← s.end_is, le-ltb _ _ l)

pub ruleset slot_answers = (slot_full, slot_head, slot_taken, slot_no_room, slot_done)

-- RECCNT stands in an MST whose gate is open
pub count_in : (mst xrf : List ℕ) (g : Result Control Refusal) → g ≡ gate_of (store mst xrf) → (k : Control) → g ≡ Ok k → 64 ≤ length mst
count_in mst xrf g p k q = let o = opened mst xrf g p k q in omega arith

module _ (mst xrf tags lens bytes : List ℕ) (g : Result Control Refusal) (p : g ≡ gate_of (store mst xrf)) where
  asks : create_answer (store mst xrf) (draft tags lens bytes)
      ≡ lowest (gated (store mst xrf) (refuse BadControl (count_full mst) ∷ create_rows (store mst xrf) (draft tags lens bytes)))
  asks = create_asks_count (store mst xrf) (draft tags lens bytes)

  pub create_shut : (r : Refusal) → g ≡ Err r → Err r ≡ create_plan (store mst xrf) (draft tags lens bytes)
  unfolding create_plan
  create_shut r q = refused_is _ _ r (asks ∙ shut_answer mst xrf r _ (sym p ∙ q))

  module _ (k : Control) (q : g ≡ Ok k) (full : Bool) (w : full ≡ count_full mst) where
    pub create_full : full ≡ true → Err BadControl ≡ create_plan (store mst xrf) (draft tags lens bytes)
    unfolding create_plan
    create_full h =
        let o = opened mst xrf g p k q in
        refused_is _ _ BadControl (asks ∙ rw (o.lengths, o.control, ← w, h))

    module _ (clear : full ≡ false) (d : Bool) (e : d ≡ draft_right tags lens bytes) where
      pub create_no_draft : not d ≡ true → Err BadDraft ≡ create_plan (store mst xrf) (draft tags lens bytes)
      unfolding create_plan
      create_no_draft h =
          let o = opened mst xrf g p k q in
          refused_is _ _ BadDraft (asks ∙ rw (o.lengths, o.control, ← w, clear, ← e, h))

      module _ (h : not d ≡ false) (need : ℕ) (n : need ≡ need_of (length tags) (length bytes)) where
        own : need_for (draft_fields tags lens bytes) ≡ need
        own = draft_need tags lens bytes (sym e ∙ not-false d h) ∙ sym n

        pub slot_asked : SlotAsked mst xrf k.next.0 k.end need
        slot_asked =
            let o = opened mst xrf g p k q in
            let f = draft_fits tags lens bytes (sym e ∙ not-false d h) in
            record {
              next_is = o.next_is;
              low = omega arith;
              high = omega arith;
              blocks = o.sizes.xrf_high;
              end_is = o.end_is;
              end_in = omega arith;
              small = omega arith;
            }

        module _ (a : Answer) (s : a ≡ slot_answer (store mst xrf) need) where
          through : create_answer (store mst xrf) (draft tags lens bytes) ≡ a
          unfolding slot_answer
          through =
              let o = opened mst xrf g p k q in
              asks ∙ rw (o.lengths, o.control, ← w, clear, ← e, h, own) (sym s)

          pub create_no_slot : (r : Refusal) → a ≡ Err r → Err r ≡ create_plan (store mst xrf) (draft tags lens bytes)
          unfolding create_plan
          create_no_slot r v = refused_is _ _ r (through ∙ v)

          pub create_written : (u : Unit {0}) → a ≡ Ok u → Ok (record { next = k.next; end = k.end; need = need }) ≡ create_plan (store mst xrf) (draft tags lens bytes)
          unfolding create_plan
          create_written u v =
              let o = opened mst xrf g p k q in
              done_is _ _ _ (through ∙ v) (rw (own, o.next_is, o.end_is))

pub ruleset create_plans = (count_in, create_shut, create_full, create_no_draft, slot_asked, create_no_slot, create_written)

-- ---- settle and revert

module _ (mst xrf : List ℕ) (m : ℕ) (y : Result Reached Refusal) (p : y ≡ reached_of (store mst xrf) m) where
  pub settle_unreached : (r : Refusal) → y ≡ Err r → Err r ≡ settle_plan (store mst xrf) m
  unfolding settle_plan reached_if settle_answer
  settle_unreached r q =
      let f = reach_refused mst xrf m r (sym p ∙ q) in
      refused_is _ _ r (f.answers (refuse NotPending (is_settled (place_for (store mst xrf) m).mark) ∷ []))

  module _ (t : Reached) (q : y ≡ Ok t) where
    settling : (t.end ≡ end_of mst) × Planned mst xrf m t.place t.leader
    settling = reached_facts mst xrf m t (sym p ∙ q)

    settle_answer_lem : settle_answer (store mst xrf) m ≡ cond (is_settled t.place.mark) (Err NotPending) (Ok tt)
    unfolding settle_answer
    settle_answer_lem =
        let o = settling.1.gate in
        let f = settling.1.found in
        rw (o.lengths, o.control, f.known, f.entry, f.record_fine_lem)

    pub settle_settled : is_settled t.place.mark ≡ true → Err NotPending ≡ settle_plan (store mst xrf) m
    unfolding settle_plan reached_if
    settle_settled x = refused_is _ _ NotPending (settle_answer_lem ∙ rw x)

    pub settle_planned : is_settled t.place.mark ≡ false → Ok t ≡ settle_plan (store mst xrf) m
    unfolding settle_plan reached_if
    settle_planned x =
        let f = settling.1.found in
        done_is _ _ t (settle_answer_lem ∙ rw x) (rw (f.place_is, ← f.leader_is, ← settling.0))

module _ (mst xrf : List ℕ) (m : ℕ) where
  counted : revert_answer (store mst xrf) m ≡ lowest (gated (store mst xrf) (refuse BadControl (count_full mst) ∷ revert_rows (store mst xrf) m))
  counted = revert_asks_count (store mst xrf) m

  pub revert_shut : (r : Refusal) → gate_of (store mst xrf) ≡ Err r → Err r ≡ revert_plan (store mst xrf) m
  unfolding revert_plan reached_if
  revert_shut r q = refused_is _ _ r (counted ∙ shut_answer mst xrf r _ q)

  module _ (s : Store) (same : (s.mst ≡ mst) × (s.xrf ≡ xrf)) (k : Control) (g : gate_of s ≡ Ok k) where
    is : s ≡ store mst xrf
    is = rw (same.0, same.1)

    opened_is : OpenFacts mst xrf k.next k.end
    opened_is = gate_open mst xrf k (ap gate_of (sym is) ∙ g)

    pub revert_counts : 64 ≤ length mst
    revert_counts = let o = opened_is in omega arith

    module _ (full : Bool) (w : full ≡ count_full mst) where
      pub revert_full : full ≡ true → Err BadControl ≡ revert_plan (store mst xrf) m
      unfolding revert_plan reached_if
      revert_full h = let o = opened_is in refused_is _ _ BadControl (counted ∙ rw (o.lengths, o.control, ← w, h))

      module _ (clear : full ≡ false) (y : Result Record Refusal) (u : y ≡ known_both s m) where
        known : y ≡ known_both (store mst xrf) m
        known = u ∙ ap (λ (t : Store). known_both t m) is

        -- where 1 and 2 do not apply
        behind : (x : Answer) → lowest (revert_rows (store mst xrf) m) ≡ x → revert_answer (store mst xrf) m ≡ x
        behind x h = let o = opened_is in counted ∙ rw (o.lengths, o.control, ← w, clear) h

        pub revert_unknown : (r : Refusal) → y ≡ Err r → Err r ≡ revert_plan (store mst xrf) m
        unfolding revert_plan reached_if
        revert_unknown r v =
            let f = both_refused mst xrf m r (sym known ∙ v) in
            let rest : List Row = refuse NotPending (is_settled (place_for (store mst xrf) m).mark) ∷ refuse NeverSettled (is_new (place_for (store mst xrf) m).mark) ∷ [] in
            refused_is _ _ r (behind (Err r) (f.answers rest))

        module _ (x : Record) (v : y ≡ Ok x) where
          found : BothFacts mst xrf m x.place x.leader
          found = both_facts mst xrf m x.place x.leader (sym known ∙ v)

          revert_answer_lem : revert_answer (store mst xrf) m ≡ cond (is_settled x.place.mark) (Err NotPending) (cond (is_new x.place.mark) (Err NeverSettled) (Ok tt))
          revert_answer_lem = let f = found.current in behind _ (rw (f.known, f.entry, f.record_fine_lem, found.version_fine_lem))

          pub revert_settled : x.place.mark ≡ Settled → Err NotPending ≡ revert_plan (store mst xrf) m
          unfolding revert_plan reached_if
          revert_settled h = refused_is _ _ NotPending (revert_answer_lem ∙ rw h)

          pub revert_new : x.place.mark ≡ New → Err NeverSettled ≡ revert_plan (store mst xrf) m
          unfolding revert_plan reached_if
          revert_new h = refused_is _ _ NeverSettled (revert_answer_lem ∙ rw h)

          pub revert_planned : x.place.mark ≡ Changed → Ok (reached_at k.end x.place x.leader) ≡ revert_plan (store mst xrf) m
          unfolding revert_plan reached_if
          revert_planned h =
              let o = opened_is in
              let f = found.current in
              done_is _ _ _ (revert_answer_lem ∙ rw h) (rw (o.end_is, f.place_is, ← f.leader_is))

pub ruleset settle_plans = (settle_unreached, settle_settled, settle_planned, mark_settled, mark_pending)

pub ruleset revert_plans = (revert_counts, revert_shut, revert_full, revert_unknown, revert_settled, revert_new, revert_planned)
