-- What the functions of the gate return, by what their steps found. Each law's premises are what is known at one place of the code, so that
-- `search gate_answers` finds them there; a callee's result is a variable with what the callee ensures of it.
use Rattle.std.specs.Prelude.{Option, Some, None, Result, Ok, Err}
use Rattle.std.specs.Option.{ok_or}
use Prim.Native.Nat.{ℕ, ◌-◌, ◌≤◌, ◌<◌}
use native.Mathlib.Omega.{arith}
use mathlib.Core.Path.{◌≡◌, refl, sym, ap, ◌∙◌}
use mathlib.Core.Logic.{◌⊎◌, ⊎_elim}
use mathlib.Core.Bool.{Bool, true, false, not, cond, and-false}
use mathlib.Core.List.{List}
use lib.Dec.{eqb}
use lib.ListN.{length}
use borrow.Author.Tests.{lt-leb, le-ltb, not-true, not-false}
use Rattle.word.specs.Overwrite.{part}
use Rattle.layout.specs.Sizes.{capacity_of, address_of}
use Rattle.layout.specs.Entry.{well_placed, place_address}
use Rattle.files.specs.CrossReference.{entry_at}
use Rattle.files.specs.Control.{end_of, next_of}
use Rattle.files.specs.Inner.{control_of}
use Rattle.files.specs.declared.control.Control.{Control}
use Rattle.layout.specs.declared.entry.Mark.{Mark}
use Rattle.layout.specs.declared.entry.Mark.TheVariants.{Changed}
use Rattle.layout.specs.declared.entry.Place.{Place}
use Rattle.layout.specs.declared.entry.Entry.{Entry}
use Rattle.layout.specs.declared.entry.Entry.TheVariants.{Gone, Malformed, At}
use Rattle.layout.specs.declared.leader.Leader.{Leader}
use Rattle.layout.proofs.Facts.{well_placed_facts}
use Rattle.files.proofs.ControlRecord.{control_read_lem}
use Rattle.files.proofs.CrossReference.{entry_well_placed}
use Rattle.record.specs.Record.{no_back, back_right}
use Rattle.record.specs.Inner.{test_of}
use Rattle.record.specs.declared.test.Broken.{Broken}
use Rattle.record.proofs.Facts.{test_right, test_broken}
use Rattle.store.specs.Answer.{give, Answer}
use Rattle.store.specs.Reading.{lengths_permitted, control_fine, mfn_in_range, place_in, is_malformed, is_gone, is_changed, record_at, leader_at, back_fine, record_fine, version_fine}
use Rattle.store.specs.Gate.{control_with, record_of, place_given, place_known, settled_from, gate_of, known_if, known_of, known_both}
use Rattle.store.specs.declared.answer.Refusal.TheVariants.{BadLength, BadControl, NoMfn, BadEntry, Gone as GoneRefusal, BadRecord}
use Rattle.store.specs.declared.answer.Refusal.{Refusal}
use Rattle.store.specs.declared.gate.Record.{Record}
use Rattle.store.proofs.Gates.{gate_open, open_end, open_end_in, open_xrf, open_capacity, open_known, open_entry, fine_both, settled_both, KnownFacts, known_facts, BackFacts, back_changed, refused_both}
use Rattle.store.specs.Store.{store}
use Rattle.store.proofs.Marks.{mark_other, mark_changed}

-- ---- lengths and control record

none_wrong : (b : Bool) (k : Control) → cond b (Some k) None ≡ None → b ≡ false
none_wrong true k e = let z : ◌≡◌ {A = ℕ} 0 1 = cc in absurd (omega arith)
none_wrong false k e = refl

module _ (mst xrf : List ℕ) (w : Bool) (e : w ≡ lengths_permitted (store mst xrf)) where
  pub gate_lengths : not w ≡ true → Err BadLength ≡ gate_of (store mst xrf)
  unfolding gate_of give
  gate_lengths h = rw (← e, not-true w h)

  module _ (h : not w ≡ false) (n : ℕ) (s : n ≡ capacity_of (length xrf)) where
    read : (o : Option Control) → control_of mst (capacity_of (length xrf)) ≡ o → ok_or o BadControl ≡ gate_of (store mst xrf)
    unfolding gate_of give control_of
    read None v = rw (← e, not-false w h, none_wrong (control_fine (store mst xrf)) _ v)
    read (Some k) v =
        let q = control_read_lem mst (capacity_of (length xrf)) k v in
        let r : control_with (next_of mst) (end_of mst) ≡ k = cc in
        rw (← e, not-false w h, q.right) (ap Ok (sym r))

    pub gate_read : (o : Option Control) → o ≡ control_of mst n → ok_or o BadControl ≡ gate_of (store mst xrf)
    gate_read o u = read o (ap (control_of mst) (sym s) ∙ sym u)

-- ---- the back pointer

module _ (end : ℕ) (p : Place) (l : Leader) (w : Bool) (e : w ≡ back_right end p.mark l) where
  pub back_wrong : not w ≡ true → false ≡ back_fine end p l
  unfolding back_fine
  back_wrong h = rw (← e, not-true w h)

  module _ (h : not w ≡ false) where
    pub back_other : is_changed p.mark ≡ false → true ≡ back_fine end p l
    unfolding back_fine
    back_other o = rw (← e, not-false w h, o)

    pub back_block : p.mark ≡ Changed → 1 ≤ l.mfbwb.0
    unfolding back_right
    back_block c =
        let q : well_placed end l.mfbwb.0 l.mfbwp ≡ true = ap (λ (k : Mark). back_right end k l) (sym c) ∙ sym e ∙ not-false w h in
        (well_placed_facts end l.mfbwb.0 l.mfbwp q).block

    pub back_own : (a b : ℕ) → p.mark ≡ Changed → a ≡ address_of l.mfbwb.0 l.mfbwp → b ≡ place_address p → not (eqb a b) ≡ back_fine end p l
    unfolding back_fine
    back_own a b c s t = rw (s, t, ← e, not-false w h, c)

-- ---- the record test

module _ (end : ℕ) (p : Place) (w : well_placed end p.block.0 p.offset ≡ true) where
  pub place_block : 1 ≤ p.block.0
  place_block = (well_placed_facts end p.block.0 p.offset w).block

  pub place_before : (at : ℕ) → at ≡ place_address p → at ≤ end
  place_before at a = let f = well_placed_facts end p.block.0 p.offset w in omega arith

module _ (mst : List ℕ) (end m : ℕ) (p : Place) (h : end ≡ end_of mst) (at : ℕ) (a : at ≡ place_address p) (t : Result Leader Broken) (x : t ≡ test_of (part mst at (end - at)) m p.deleted) where
  tested : test_of (record_at mst p) m p.deleted ≡ t
  tested = rw (← h, ← a, x)

  pub place_broken : (b : Broken) → t ≡ Err b → Err BadRecord ≡ place_known mst m p
  unfolding place_known
  place_broken b e = rw (fine_both mst m p, (test_broken (record_at mst p) m p.deleted b (tested ∙ e)).0)

  module _ (l : Leader) (g : t ≡ Ok l) (w : Bool) (b : w ≡ back_fine end p l) where
    back_is : back_fine (end_of mst) p (leader_at mst p) ≡ w
    back_is = let q = test_right (record_at mst p) m p.deleted l (tested ∙ g) in rw (q.1, ← h, b)

    pub place_back : not w ≡ true → Err BadRecord ≡ place_known mst m p
    unfolding place_known
    place_back n = rw (fine_both mst m p, back_is, not-true w n, and-false)

    pub place_right : not w ≡ false → Ok (record_of p l) ≡ place_known mst m p
    unfolding place_known
    place_right n =
        let q = test_right (record_at mst p) m p.deleted l (tested ∙ g) in
        rw (fine_both mst m p, back_is, not-false w n, q.0, q.1)

-- ---- the record of an MFN

fine_cond : (b : Bool) (x : Record) → cond b (Ok x) (Err BadRecord) ≡ give (cond (not b) (Err BadRecord) (Ok tt)) x
unfolding give
fine_cond true x = refl
fine_cond false x = refl

-- 6 and 7
abbrev entry_list : Entry → Bool → Answer
entry_list e ok = cond (is_malformed e) (Err BadEntry) (cond (is_gone e) (Err GoneRefusal) (cond (not ok) (Err BadRecord) (Ok tt)))

no_place : (e : Entry) (ok : Bool) (x : Record) (r : Refusal) → place_given e ≡ Err r → Err r ≡ give (entry_list e ok) x
unfolding give
no_place Gone ok x r o = sym (cc)
no_place Malformed ok x r o = sym (cc)
no_place (At p) ok x r o = let z : ◌≡◌ {A = ℕ} 0 1 = cc in absurd (omega arith)

placed_at : (e : Entry) (p : Place) → place_given e ≡ Ok p → e ≡ At p
placed_at Gone p o = let z : ◌≡◌ {A = ℕ} 0 1 = cc in absurd (omega arith)
placed_at Malformed p o = let z : ◌≡◌ {A = ℕ} 0 1 = cc in absurd (omega arith)
placed_at (At q) p o = let z : q ≡ p = cc in ap At z

module _ (mst xrf : List ℕ) (m : ℕ) where
  record_low : m < 1 → Err NoMfn ≡ known_of (store mst xrf) m
  unfolding known_of known_if mfn_in_range give
  record_low h = rw (lt-leb 1 m h)

  module _ (k : Control) (g : gate_of (store mst xrf) ≡ Ok k) where
    record_high : k.next.0 ≤ m → Err NoMfn ≡ known_of (store mst xrf) m
    unfolding known_of known_if mfn_in_range give
    record_high h =
        let f = gate_open mst xrf k g in
        let u : next_of mst ≤ m = omega arith in
        rw (le-ltb m (next_of mst) u, and-false)

    pub record_outside : (m < 1) ⊎ ((1 ≤ m) × (k.next.0 ≤ m)) → Err NoMfn ≡ known_of (store mst xrf) m
    record_outside h = ⊎_elim record_low (λ w. record_high w.1) h

    module _ (e : Entry) (u : e ≡ entry_at xrf k.end m) (y : Result Place Refusal) (w : y ≡ place_given e) where
      at : (p : Place) → y ≡ Ok p → e ≡ At p
      at p v = placed_at e p (sym w ∙ v)

      pub record_placed : (p : Place) → y ≡ Ok p → well_placed k.end p.block.0 p.offset ≡ true
      record_placed p v = entry_well_placed xrf k.end m p (sym u ∙ at p v)

      module _ (low : 1 ≤ m) (high : m < k.next.0) where
        pub record_no_place : (r : Refusal) → y ≡ Err r → Err r ≡ known_of (store mst xrf) m
        unfolding known_of known_if
        record_no_place r v =
            rw (open_known mst xrf k g m low high, open_entry mst xrf k g m e u)
            (no_place e (record_fine mst m (place_in e)) (record_of (place_in e) (leader_at mst (place_in e))) r (sym w ∙ v))

        pub record_told : (p : Place) (z : Result Record Refusal) → y ≡ Ok p → z ≡ place_known mst m p → z ≡ known_of (store mst xrf) m
        unfolding known_of known_if place_known
        record_told p z v s =
            rw (s, open_known mst xrf k g m low high, open_entry mst xrf k g m e u, at p v) (fine_cond (record_fine mst m p) (record_of p (leader_at mst p)))

-- ---- the settled version

module _ (mst : List ℕ) (end m at : ℕ) (t : Result Leader Broken) (x : t ≡ test_of (part mst at (end - at)) m false) where
  pub settled_broken : (b : Broken) → t ≡ Err b → false ≡ settled_from mst end m at
  unfolding settled_from
  settled_broken b e = rw (test_broken (part mst at (end - at)) m false b (sym x ∙ e)).0

  pub settled_right : (l : Leader) (r : Bool) → t ≡ Ok l → r ≡ no_back l → r ≡ settled_from mst end m at
  unfolding settled_from
  settled_right l r g s =
      let q = test_right (part mst at (end - at)) m false l (sym x ∙ g) in
      rw (s, q.0, q.1)

module _ (mst xrf : List ℕ) (m : ℕ) (y : Result Record Refusal) (e : y ≡ known_of (store mst xrf) m) where
  pub both_refused : (r : Refusal) → y ≡ Err r → Err r ≡ known_both (store mst xrf) m
  both_refused r q = refused_both mst xrf m r (sym e ∙ q)

  module _ (x : Record) (q : y ≡ Ok x) where
    facts : KnownFacts mst xrf m x.place x.leader
    facts = known_facts mst xrf m x.place x.leader (sym e ∙ q)

    both_told : version_fine mst m x.place ≡ true → Ok x ≡ known_both (store mst xrf) m
    unfolding known_both known_if give
    both_told v = rw (facts.known, facts.entry, facts.record_fine_lem, v, ← facts.leader_is)

    pub both_other : is_changed x.place.mark ≡ false → Ok x ≡ known_both (store mst xrf) m
    unfolding version_fine
    both_other o = both_told (rw o)

    module _ (c : x.place.mark ≡ Changed) where
      back : BackFacts (end_of mst) x.place x.leader
      back = back_changed (end_of mst) x.place x.leader facts.facts.back c

      pub both_block : 1 ≤ x.leader.mfbwb.0
      both_block = back.facts.block

      module _ (end at : ℕ) (h : end ≡ end_of mst) (a : at ≡ address_of x.leader.mfbwb.0 x.leader.mfbwp) where
        pub both_before : at ≤ end
        both_before = let f = back.facts in omega arith

        module _ (w : Bool) (s : w ≡ settled_from mst end m at) where
          version_is : version_fine mst m x.place ≡ w
          unfolding version_fine settled_from
          version_is = rw (settled_both mst m x.place, c, ← facts.leader_is, ← h, ← a, s)

          pub both_broken : not w ≡ true → Err BadRecord ≡ known_both (store mst xrf) m
          unfolding known_both known_if give
          both_broken n = rw (facts.known, facts.entry, facts.record_fine_lem, version_is, not-true w n)

          pub both_right : not w ≡ false → Ok x ≡ known_both (store mst xrf) m
          both_right n = both_told (version_is ∙ not-false w n)

pub ruleset gate_answers =
    (gate_lengths, gate_read, mark_other, mark_changed, back_wrong, back_other, back_block, back_own, place_block, place_before, place_broken, place_back, place_right, open_end, open_end_in, open_xrf, open_capacity, record_outside, record_placed, record_no_place, record_told, settled_broken, settled_right, both_refused, both_other, both_block, both_before, both_broken, both_right, arith)
