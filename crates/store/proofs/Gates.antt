-- What every call asks first, as facts: an open gate, a record that was found, and a record with its settled version each give a record of
-- facts, and a refusal gives the answer of the whole call, whatever the refusals after it. Callers read these and never the tests.
use Rattle.std.specs.Prelude.{Result, Ok, Err}
use Prim.Native.Nat.{ℕ, ◌+◌, ◌-◌, ◌%◌, ◌≤◌, ◌<◌}
use native.Mathlib.Omega.{arith}
use mathlib.Core.Path.{◌≡◌, refl, sym, ap, ◌∙◌}
use mathlib.Core.Logic.{◌⊎◌, inl, inr}
use mathlib.Core.Bool.{Bool, true, false, not, ◌&&◌, cond, and-true}
use mathlib.Core.List.{List, []}
use lib.Dec.{eqb}
use borrow.Author.Tests.{lt-ltb, le-leb, eq-eqb, not-false}
use lib.ListN.{length}
use Rattle.word.specs.Overwrite.{part}
use Rattle.word.proofs.Overwrite.{part_short}
use Rattle.layout.specs.Sizes.{mst_most, xrf_most, mst_blocks, mst_permitted, xrf_permitted, capacity_of}
use Rattle.layout.specs.Entry.{well_placed, placed, place_address}
use Rattle.files.specs.Control.{next_of, end_of}
use Rattle.files.specs.CrossReference.{entry_at}
use Rattle.layout.specs.Leader.{leader_of}
use Rattle.layout.specs.declared.sizes.Mfn.{Mfn}
use Rattle.layout.specs.declared.entry.Mark.TheVariants.{Settled, Changed, New}
use Rattle.layout.specs.declared.entry.Place.{Place}
use Rattle.layout.specs.declared.entry.Entry.{Entry}
use Rattle.layout.specs.declared.entry.Entry.TheVariants.{Gone, Malformed, At}
use Rattle.layout.specs.declared.leader.Leader.{Leader}
use Rattle.word.proofs.Tests.{tests, false_true, not_both, cond_holds}
use Rattle.layout.proofs.Facts.{blocks_facts, WellPlacedFacts, well_placed_facts}
use Rattle.files.proofs.ControlRecord.{control_facts}
use Rattle.files.proofs.CrossReference.{entry_well_placed}
use Rattle.record.specs.Record.{record_right, no_back, back_right, Readable}
use Rattle.record.specs.Fields.{fields_of}
use Rattle.record.proofs.Local.{ReadsAs, right_reads}
use Rattle.record.proofs.Facts.{LeaderFacts, well_formed_both, right_facts, right_readable, NoBackFacts, no_back_facts}
use Rattle.store.specs.Answer.{refusal_number, number_of, Row, lowest, after, give, Answer}
use Rattle.store.specs.Reading.{lengths_permitted, control_fine, mfn_in_range, entry_for, place_in, place_for, is_malformed, is_gone, is_changed, record_at, leader_at, back_address, back_fine, record_fine, settled_record, settled_fine, version_fine, current_fields}
use Rattle.store.specs.Refusals.{gated, named, fine, both_fine}
use Rattle.store.specs.Gate.{control_with, record_of, gate_of, known_if, known_of, known_both}
use Rattle.store.specs.declared.answer.Refusal.TheVariants.{BadLength, BadControl, BadDraft, NoMfn, NoSlot, BadEntry, Gone as GoneRefusal, BadRecord, Deleted, NotPending, NeverSettled, NoField, NoRoom, NotSound, FewerFields, NoRoomInList}
use Rattle.store.specs.declared.answer.Refusal.{Refusal}
use Rattle.files.specs.declared.control.Control.{Control}
use Rattle.store.specs.declared.gate.Record.{Record}
use Rattle.store.specs.Store.{store}

-- ---- answers

refusal_number-positive : (r : Refusal) → refusal_number r ≡ 0 → ⊥
refusal_number-positive BadLength e = omega arith
refusal_number-positive BadControl e = omega arith
refusal_number-positive BadDraft e = omega arith
refusal_number-positive NoMfn e = omega arith
refusal_number-positive NoSlot e = omega arith
refusal_number-positive BadEntry e = omega arith
refusal_number-positive GoneRefusal e = omega arith
refusal_number-positive BadRecord e = omega arith
refusal_number-positive Deleted e = omega arith
refusal_number-positive NotPending e = omega arith
refusal_number-positive NeverSettled e = omega arith
refusal_number-positive NoField e = omega arith
refusal_number-positive NoRoom e = omega arith
refusal_number-positive NotSound e = omega arith
refusal_number-positive (FewerFields n) e = omega arith
refusal_number-positive NoRoomInList e = omega arith

pub number_done : (a : Answer) → number_of a ≡ 0 → a ≡ Ok tt
unfolding number_of
number_done (Ok tt) e = refl
number_done (Err r) e = absurd (refusal_number-positive r e)

pub done_number : number_of (Ok tt) ≡ 0
unfolding number_of
done_number = refl

-- an answer that is a refusal
abbrev pub Refusing : Answer → Type 0
Refusing a = number_of a ≡ 0 → ⊥

pub refusing : (r : Refusal) → Refusing (Err r)
unfolding number_of
refusing r = refusal_number-positive r

pub refusing_not_done : (a : Answer) → Refusing a → a ≡ Ok tt → ⊥
refusing_not_done a h e = h (ap number_of e ∙ done_number)

-- what holds after a call that is done, and after one that is refused
pub after_done : {A : Type 0} (a : Answer) (new old : A) → a ≡ Ok tt → after a new old ≡ new
unfolding after
after_done a new old e = rw e

pub after_refused : {A : Type 0} (a : Answer) (new old : A) → Refusing a → after a new old ≡ old
unfolding after
after_refused (Ok tt) new old h = absurd (h done_number)
after_refused (Err r) new old h = refl

pub after_same : {A : Type 0} (a : Answer) (old : A) → after a old old ≡ old
unfolding after
after_same (Ok tt) old = refl
after_same (Err r) old = refl

pub after_cases : {A : Type 0} (a : Answer) (new old : A) → ((a ≡ Ok tt) × (after a new old ≡ new)) ⊎ (Refusing a × (after a new old ≡ old))
unfolding after
after_cases (Ok tt) new old = inl (refl, refl)
after_cases (Err r) new old = inr (refusing r, refl)

-- what a call gives by its answer
module _ {A : Type 0} (answer : Answer) (new : A) where
  pub refused_is : (r : Refusal) → answer ≡ Err r → Err r ≡ give answer new
  unfolding give
  refused_is r e = rw e refl

  pub done_is : (x : A) → answer ≡ Ok tt → x ≡ new → Ok x ≡ give answer new
  unfolding give
  done_is x e q = rw (e, q) refl

  pub given_refused : (r : Refusal) → give answer new ≡ Err r → answer ≡ Err r
  unfolding give
  given_refused r e = by answer e
    where
      by : (a : Answer) → give a new ≡ Err r → a ≡ Err r
      by (Ok tt) e = let z : ◌≡◌ {A = ℕ} 0 1 = cc in absurd (omega arith)
      by (Err q) e = cc

  pub given_done : (x : A) → give answer new ≡ Ok x → (answer ≡ Ok tt) × (new ≡ x)
  unfolding give
  given_done x e = by answer e
    where
      by : (a : Answer) → give a new ≡ Ok x → (a ≡ Ok tt) × (new ≡ x)
      by (Ok tt) e = (refl, (cc))
      by (Err q) e = let z : ◌≡◌ {A = ℕ} 0 1 = cc in absurd (omega arith)

-- the first refusal of a list that is done does not apply
pub passed : (b : Bool) (a rest : Answer) → Refusing a → cond b a rest ≡ Ok tt → (b ≡ false) × (rest ≡ Ok tt)
passed true a rest h e = absurd (refusing_not_done a h e)
passed false a rest h e = (refl, e)

-- and one whose test has to hold
pub holds : (b : Bool) (a rest : Answer) → Refusing a → cond (not b) a rest ≡ Ok tt → (b ≡ true) × (rest ≡ Ok tt)
holds b a rest h e = let q = passed (not b) a rest h e in (not-false b q.0, q.1)

-- ---- the gate

-- 1 and 2 by whether lengths and control record are right
abbrev gate_list : Bool → Bool → Answer → Answer
gate_list lengths control rest = cond (not lengths) (Err BadLength) (cond (not control) (Err BadControl) rest)

pub gated_passes : (mst xrf : List ℕ) (rest : List Row) → lengths_permitted (store mst xrf) ≡ true → control_fine (store mst xrf) ≡ true
    → lowest (gated (store mst xrf) rest) ≡ lowest rest
gated_passes mst xrf rest a b = rw (a, b)

module _ (mst xrf : List ℕ) where
  pub gate_done : (rest : Answer) → cond (not (lengths_permitted (store mst xrf))) (Err BadLength) (cond (not (control_fine (store mst xrf))) (Err BadControl) rest) ≡ Ok tt
      → (lengths_permitted (store mst xrf) ≡ true) × (control_fine (store mst xrf) ≡ true) × (rest ≡ Ok tt)
  unfolding number_of
  gate_done rest e =
      let a = holds (lengths_permitted (store mst xrf)) (Err BadLength) _ (λ z. omega arith) e in
      let b = holds (control_fine (store mst xrf)) (Err BadControl) rest (λ z. omega arith) a.1 in
      (a.0, b.0, b.1)

-- the gate is shut with r: that is the answer, whatever the refusals after it
pub record ShutFacts (mst xrf : List ℕ) (r : Refusal) : Type 0 where
  pub answers : (rest : List Row) → lowest (gated (store mst xrf) rest) ≡ Err r

shut_cases : (r : Refusal) (lengths control : Bool) → gate_list lengths control (Ok tt) ≡ Err r
    → (rest : Answer) → gate_list lengths control rest ≡ Err r
shut_cases r true true e rest = let z : ◌≡◌ {A = ℕ} 0 1 = cc in absurd (omega arith)
shut_cases r true false e rest = e
shut_cases r false control e rest = e

open_cases : (lengths control : Bool) → gate_list lengths control (Ok tt) ≡ Ok tt → (lengths ≡ true) × (control ≡ true)
open_cases true true e = (refl, refl)
open_cases true false e = let z : ◌≡◌ {A = ℕ} 0 1 = cc in absurd (omega arith)
open_cases false control e = let z : ◌≡◌ {A = ℕ} 0 1 = cc in absurd (omega arith)

pub gate_shut : (mst xrf : List ℕ) (r : Refusal) → gate_of (store mst xrf) ≡ Err r → ShutFacts mst xrf r
unfolding gate_of
gate_shut mst xrf r e =
    let q = given_refused (lowest (gated (store mst xrf) [])) (control_with (next_of mst) (end_of mst)) r e in
    record { answers = λ rest. shut_cases r (lengths_permitted (store mst xrf)) (control_fine (store mst xrf)) q (lowest rest) }

-- both lengths are permitted
pub record LengthsFacts (mst xrf : List ℕ) : Type 0 where
  pub mst_whole : length mst % 512 ≡ 0
  pub mst_low : 512 ≤ length mst
  pub mst_high : length mst ≤ mst_most
  pub xrf_whole : length xrf % 512 ≡ 0
  pub xrf_low : 512 ≤ length xrf
  pub xrf_high : length xrf ≤ xrf_most

pub lengths_both : (mst xrf : List ℕ) → lengths_permitted (store mst xrf) ≡ true → (mst_permitted (length mst) ≡ true) × (xrf_permitted (length xrf) ≡ true)
unfolding lengths_permitted
lengths_both mst xrf e = simp tests at e

pub lengths_facts : (mst xrf : List ℕ) → lengths_permitted (store mst xrf) ≡ true → LengthsFacts mst xrf
lengths_facts mst xrf e =
    let q = lengths_both mst xrf e in
    let f = blocks_facts mst_blocks (length mst) q.0 in
    let g = blocks_facts 4096 (length xrf) q.1 in
    record {
      mst_whole = f.whole;
      mst_low = f.low;
      mst_high = omega arith;
      xrf_whole = g.whole;
      xrf_low = g.low;
      xrf_high = omega arith;
    }

-- behind an open gate
pub record OpenFacts (mst xrf : List ℕ) (next : Mfn) (end : ℕ) : Type 0 where
  pub lengths : lengths_permitted (store mst xrf) ≡ true
  pub control : control_fine (store mst xrf) ≡ true
  pub next_is : next.0 ≡ next_of mst
  pub end_is : end ≡ end_of mst
  pub sizes : LengthsFacts mst xrf
  pub next_low : 1 ≤ next_of mst
  pub next_high : next_of mst ≤ capacity_of (length xrf) + 1
  pub end_low : 64 ≤ end_of mst
  pub end_in : end_of mst ≤ length mst
  pub end_even : end_of mst % 2 ≡ 0
  pub end_offset : end_of mst % 512 ≤ 498

pub open_from : (mst xrf : List ℕ) (next : Mfn) (end : ℕ) → lengths_permitted (store mst xrf) ≡ true → control_fine (store mst xrf) ≡ true → next.0 ≡ next_of mst → end ≡ end_of mst
    → OpenFacts mst xrf next end
open_from mst xrf next end a b c d =
    let f = control_facts mst (capacity_of (length xrf)) b in
    record {
      lengths = a;
      control = b;
      next_is = c;
      end_is = d;
      sizes = lengths_facts mst xrf a;
      next_low = f.next_low;
      next_high = f.next_high;
      end_low = f.end_low;
      end_in = f.end_in;
      end_even = f.end_even;
      end_offset = f.end_offset;
    }

pub gate_open : (mst xrf : List ℕ) (k : Control) → gate_of (store mst xrf) ≡ Ok k → OpenFacts mst xrf k.next k.end
unfolding gate_of
gate_open mst xrf k e =
    let q = given_done (lowest (gated (store mst xrf) [])) (control_with (next_of mst) (end_of mst)) k e in
    let w = open_cases (lengths_permitted (store mst xrf)) (control_fine (store mst xrf)) q.0 in
    open_from mst xrf k.next k.end w.0 w.1 (ap (λ (c : Control). c.next.0) (sym q.1)) (ap (λ (c : Control). c.end) (sym q.1))

-- the facts that a search asks for, one by one
module _ (mst xrf : List ℕ) (k : Control) (g : gate_of (store mst xrf) ≡ Ok k) where
  pub open_end : k.end ≡ end_of mst
  open_end = (gate_open mst xrf k g).end_is

  pub open_end_in : k.end ≤ length mst
  open_end_in = let f = gate_open mst xrf k g in omega arith

  pub open_xrf : length xrf ≤ xrf_most
  open_xrf = (gate_open mst xrf k g).sizes.xrf_high

  pub open_capacity : (m : ℕ) → m < k.next.0 → m ≤ capacity_of (length xrf)
  open_capacity m h = let f = gate_open mst xrf k g in omega arith

  pub open_known : (m : ℕ) → 1 ≤ m → m < k.next.0 → mfn_in_range mst m ≡ true
  unfolding mfn_in_range
  open_known m low high =
      let f = gate_open mst xrf k g in
      let u : m < next_of mst = omega arith in
      rw (le-leb 1 m low, lt-ltb m (next_of mst) u)

  pub open_entry : (m : ℕ) (e : Entry) → e ≡ entry_at xrf k.end m → entry_for (store mst xrf) m ≡ e
  open_entry m e u = ap (λ (x : ℕ). entry_at xrf x m) (sym open_end) ∙ sym u

-- the gate that was tested came out open
module _ (mst xrf : List ℕ) (g : Result Control Refusal) (p : g ≡ gate_of (store mst xrf)) (k : Control) (q : g ≡ Ok k) where
  pub gate_is : gate_of (store mst xrf) ≡ Ok k
  gate_is = sym p ∙ q

  pub opened : OpenFacts mst xrf k.next k.end
  opened = gate_open mst xrf k gate_is

-- ---- the record of an MFN

-- what a record that is well formed for m says
pub record FineFacts (mst : List ℕ) (m : ℕ) (p : Place) (l : Leader) : Type 0 where
  pub right : record_right (record_at mst p) m p.deleted ≡ true
  pub back : back_fine (end_of mst) p l ≡ true
  pub readable : Readable (record_at mst p)
  pub leader : LeaderFacts m p.deleted (length (record_at mst p)) l
  pub short : length (record_at mst p) ≤ end_of mst - place_address p

-- by the two parts that the tests take them in
pub fine_both : (mst : List ℕ) (m : ℕ) (p : Place) → record_fine mst m p ≡ (record_right (record_at mst p) m p.deleted && back_fine (end_of mst) p (leader_at mst p))
unfolding record_fine
fine_both mst m p = well_formed_both (record_at mst p) (end_of mst) m p

pub settled_both : (mst : List ℕ) (m : ℕ) (p : Place) → settled_fine mst m p ≡ (record_right (settled_record mst p) m false && no_back (leader_of (settled_record mst p)))
unfolding settled_fine back_fine back_right
settled_both mst m p =
    well_formed_both (settled_record mst p) (end_of mst) m (placed (leader_at mst p).mfbwb.0 (leader_at mst p).mfbwp false Settled)
    ∙ ap (λ (x : Bool). record_right (settled_record mst p) m false && x) (and-true (no_back (leader_of (settled_record mst p))))

pub fine_facts : (mst : List ℕ) (m : ℕ) (p : Place) → record_fine mst m p ≡ true → FineFacts mst m p (leader_at mst p)
fine_facts mst m p e =
    let q = simp tests at (rw (fine_both mst m p) at e) in
    record {
      right = q.0;
      back = q.1;
      readable = right_readable (record_at mst p) m p.deleted q.0;
      leader = (right_facts (record_at mst p) m p.deleted q.0).leader;
      short = part_short mst (place_address p) (end_of mst - place_address p);
    }

-- what is read of it, and of a settled version that is well formed for m
pub fine_reads : (mst : List ℕ) (m : ℕ) (p : Place) → record_fine mst m p ≡ true
    → ReadsAs (record_at mst p) m p.deleted (leader_at mst p) (current_fields mst p)
fine_reads mst m p e = right_reads (record_at mst p) m p.deleted (fine_facts mst m p e).right

pub settled_fine_reads : (mst : List ℕ) (m : ℕ) (p : Place) → settled_fine mst m p ≡ true
    → ReadsAs (settled_record mst p) m false (leader_of (settled_record mst p)) (fields_of (settled_record mst p))
settled_fine_reads mst m p e = right_reads (settled_record mst p) m false (simp tests at (rw (settled_both mst m p) at e)).0

-- the back pointer under the changed mark, and under the two others
pub record BackFacts (end : ℕ) (p : Place) (l : Leader) : Type 0 where
  pub placed : well_placed end l.mfbwb.0 l.mfbwp ≡ true
  pub facts : WellPlacedFacts end l.mfbwb.0 l.mfbwp
  pub other : back_address l ≡ place_address p → ⊥

pub back_changed : (end : ℕ) (p : Place) (l : Leader) → back_fine end p l ≡ true → p.mark ≡ Changed → BackFacts end p l
unfolding back_fine back_right
back_changed end p l e h =
    let q = simp (h, tests) at e in
    let differ : eqb (back_address l) (place_address p) ≡ false = not_both true (eqb (back_address l) (place_address p)) q.1 refl in
    record {
      placed = q.0;
      facts = well_placed_facts end l.mfbwb.0 l.mfbwp q.0;
      other = λ same. false_true (sym differ ∙ eq-eqb (back_address l) (place_address p) same);
    }

pub back_settled : (end : ℕ) (p : Place) (l : Leader) → back_fine end p l ≡ true → p.mark ≡ Settled → NoBackFacts l
unfolding back_fine back_right
back_settled end p l e h = let q = simp (h, tests) at e in no_back_facts l q.0

pub back_new : (end : ℕ) (p : Place) (l : Leader) → back_fine end p l ≡ true → p.mark ≡ New → NoBackFacts l
unfolding back_fine back_right
back_new end p l e h = let q = simp (h, tests) at e in no_back_facts l q.0

-- 4, 6, 7 and 8 by whether the MFN is known, the kind of entry and whether 8's question is answered
abbrev pub named_list : Bool → Entry → Bool → Answer → Answer
named_list known e ok rest =
    cond (not known) (Err NoMfn) (cond (is_malformed e) (Err BadEntry) (cond (is_gone e) (Err GoneRefusal) (cond (not ok) (Err BadRecord) rest)))

entry_placed : (e : Entry) → is_malformed e ≡ false → is_gone e ≡ false → e ≡ At (place_in e)
entry_placed Gone h k = absurd (false_true (sym k))
entry_placed Malformed h k = absurd (false_true (sym h))
entry_placed (At p) h k = refl

-- where none of them applies, the entry has a place
pub list_done : (known : Bool) (e : Entry) (ok : Bool) (rest : Answer) → named_list known e ok rest ≡ Ok tt
    → (known ≡ true) × (e ≡ At (place_in e)) × (ok ≡ true) × (rest ≡ Ok tt)
unfolding number_of
list_done known e ok rest h =
    let a = holds known (Err NoMfn) _ (λ z. omega arith) h in
    let b = passed (is_malformed e) (Err BadEntry) _ (λ z. omega arith) a.1 in
    let c = passed (is_gone e) (Err GoneRefusal) _ (λ z. omega arith) b.1 in
    let d = holds ok (Err BadRecord) rest (λ z. omega arith) c.1 in
    (a.0, entry_placed e b.0 c.0, d.0, d.1)

module _ (mst xrf : List ℕ) where
  pub named_done : (m : ℕ) (ok : Bool) (rest : Answer)
      → named_list (mfn_in_range mst m) (entry_for (store mst xrf) m) ok rest ≡ Ok tt
      → (mfn_in_range mst m ≡ true) × (entry_for (store mst xrf) m ≡ At (place_for (store mst xrf) m)) × (ok ≡ true) × (rest ≡ Ok tt)
  named_done m ok rest e = list_done (mfn_in_range mst m) (entry_for (store mst xrf) m) ok rest e

-- the record was not found, for r: that is the answer, whatever the refusals after it
pub record RefusedFacts (mst xrf : List ℕ) (m : ℕ) (ok : Bool) (r : Refusal) : Type 0 where
  pub answers : (rest : List Row) → lowest (named (store mst xrf) m ok rest) ≡ Err r

refused_cases : (r : Refusal) (known : Bool) (e : Entry) (ok : Bool) → named_list known e ok (Ok tt) ≡ Err r
    → (rest : Answer) → named_list known e ok rest ≡ Err r
refused_cases r false e ok h rest = h
refused_cases r true Gone ok h rest = h
refused_cases r true Malformed ok h rest = h
refused_cases r true (At p) false h rest = h
refused_cases r true (At p) true h rest = let z : ◌≡◌ {A = ℕ} 0 1 = cc in absurd (omega arith)

leader_in : List ℕ → Entry → Leader
leader_in mst e = leader_at mst (place_in e)

-- a refusal stays the same where more is asked of the record
refused_more : (r : Refusal) (known : Bool) (e : Entry) (ok more : Bool) → named_list known e ok (Ok tt) ≡ Err r
    → named_list known e (ok && more) (Ok tt) ≡ Err r
refused_more r false e ok more h = h
refused_more r true Gone ok more h = h
refused_more r true Malformed ok more h = h
refused_more r true (At p) false more h = h
refused_more r true (At p) true more h = let z : ◌≡◌ {A = ℕ} 0 1 = cc in absurd (omega arith)

module _ (mst xrf : List ℕ) (m : ℕ) (r : Refusal) where
  refused_by : (ok : Bool) → known_if (lowest (named (store mst xrf) m ok [])) (store mst xrf) m ≡ Err r → lowest (named (store mst xrf) m ok []) ≡ Err r
  unfolding known_if
  refused_by ok h = given_refused _ _ r h

  facts_by : (ok : Bool) → known_if (lowest (named (store mst xrf) m ok [])) (store mst xrf) m ≡ Err r → RefusedFacts mst xrf m ok r
  facts_by ok h = record { answers = λ rest. refused_cases r (mfn_in_range mst m) (entry_for (store mst xrf) m) ok (refused_by ok h) (lowest rest) }

  pub known_refused : known_of (store mst xrf) m ≡ Err r → RefusedFacts mst xrf m (fine (store mst xrf) m) r
  unfolding known_of
  known_refused h = facts_by (fine (store mst xrf) m) h

  pub both_refused : known_both (store mst xrf) m ≡ Err r → RefusedFacts mst xrf m (both_fine (store mst xrf) m) r
  unfolding known_both
  both_refused h = facts_by (both_fine (store mst xrf) m) h

  -- what is refused without the settled version is refused with it
  pub refused_both : known_of (store mst xrf) m ≡ Err r → Err r ≡ known_both (store mst xrf) m
  unfolding known_of known_both known_if
  refused_both h =
      refused_is _ _ r
      (refused_more r (mfn_in_range mst m) (entry_for (store mst xrf) m) (fine (store mst xrf) m) (version_fine mst m (place_for (store mst xrf) m))
      (given_refused _ _ r h))

-- an MFN that was given out
pub record MfnFacts (mst : List ℕ) (m : ℕ) : Type 0 where
  pub low : 1 ≤ m
  pub high : m < next_of mst

pub mfn_facts : (mst : List ℕ) (m : ℕ) → mfn_in_range mst m ≡ true → MfnFacts mst m
unfolding mfn_in_range
mfn_facts mst m e = let q = simp tests at e in record { low = q.0; high = q.1 }

-- a record that was found: its entry names p, it is well formed there, and l is its leader
pub record KnownFacts (mst xrf : List ℕ) (m : ℕ) (p : Place) (l : Leader) : Type 0 where
  pub known : mfn_in_range mst m ≡ true
  pub mfn : MfnFacts mst m
  pub entry : entry_for (store mst xrf) m ≡ At p
  pub place_is : place_for (store mst xrf) m ≡ p
  pub well_placed_lem : well_placed (end_of mst) p.block.0 p.offset ≡ true
  pub place : WellPlacedFacts (end_of mst) p.block.0 p.offset
  pub leader_is : l ≡ leader_at mst p
  pub record_fine_lem : record_fine mst m p ≡ true
  pub facts : FineFacts mst m p l
  pub stops : place_address p + l.mfrl ≤ end_of mst

module _ (mst xrf : List ℕ) (m : ℕ) (p : Place) (l : Leader) where
  known_from : mfn_in_range mst m ≡ true → entry_for (store mst xrf) m ≡ At p → fine (store mst xrf) m ≡ true → l ≡ leader_in mst (entry_for (store mst xrf) m) → KnownFacts mst xrf m p l
  unfolding leader_in
  known_from known e ok leader =
      let at : place_for (store mst xrf) m ≡ p = rw e in
      let right : record_fine mst m p ≡ true = rw at at ok in
      let is : l ≡ leader_at mst p = rw at at leader in
      let w = entry_well_placed xrf (end_of mst) m p e in
      let place = well_placed_facts (end_of mst) p.block.0 p.offset w in
      let f : FineFacts mst m p l = rw is (fine_facts mst m p right) in
      record {
        known = known;
        mfn = mfn_facts mst m known;
        entry = e;
        place_is = at;
        well_placed_lem = w;
        place = place;
        leader_is = is;
        record_fine_lem = right;
        facts = f;
        stops = omega arith;
      }

  -- the MFN, its entry and what 8 asks, where a record was found
  found_by : (ok : Bool) → known_if (lowest (named (store mst xrf) m ok [])) (store mst xrf) m ≡ Ok (record_of p l)
      → (mfn_in_range mst m ≡ true) × (entry_for (store mst xrf) m ≡ At p) × (ok ≡ true) × (l ≡ leader_in mst (entry_for (store mst xrf) m))
  unfolding known_if leader_in
  found_by ok h =
      let q = given_done _ _ (record_of p l) h in
      let n = list_done (mfn_in_range mst m) (entry_for (store mst xrf) m) ok (Ok tt) q.0 in
      let at : place_for (store mst xrf) m ≡ p = ap (λ (x : Record). x.place) q.1 in
      (n.0, rw at at n.1, n.2, ap (λ (x : Record). x.leader) (sym q.1))

  pub known_facts : known_of (store mst xrf) m ≡ Ok (record_of p l) → KnownFacts mst xrf m p l
  unfolding known_of
  known_facts h = let q = found_by (fine (store mst xrf) m) h in known_from q.0 q.1 q.2 q.3

-- the settled version of a changed record
pub record SettledFacts (mst : List ℕ) (m : ℕ) (p : Place) (l : Leader) : Type 0 where
  pub back : BackFacts (end_of mst) p l
  pub right : record_right (part mst (back_address l) (end_of mst - back_address l)) m false ≡ true
  pub readable : Readable (part mst (back_address l) (end_of mst - back_address l))
  pub leader : LeaderFacts m false (length (part mst (back_address l) (end_of mst - back_address l))) (leader_of (part mst (back_address l) (end_of mst - back_address l)))
  pub no_back_lem : no_back (leader_of (part mst (back_address l) (end_of mst - back_address l))) ≡ true
  pub stops : back_address l + (leader_of (part mst (back_address l) (end_of mst - back_address l))).mfrl ≤ end_of mst

module _ (mst : List ℕ) (m : ℕ) (p : Place) where
  pub settled_facts : record_fine mst m p ≡ true → p.mark ≡ Changed → settled_fine mst m p ≡ true → SettledFacts mst m p (leader_at mst p)
  settled_facts e h s =
      let q = simp tests at (rw (settled_both mst m p) at s) in
      let b = back_changed (end_of mst) p (leader_at mst p) (fine_facts mst m p e).back h in
      let at : ℕ = back_address (leader_at mst p) in
      let rec : List ℕ = settled_record mst p in
      let f = right_facts rec m false q.0 in
      let short = part_short mst at (end_of mst - at) in
      record {
        back = b;
        right = q.0;
        readable = right_readable rec m false q.0;
        leader = f.leader;
        no_back_lem = q.1;
        stops = omega arith;
      }

-- a record that was found with its settled version
pub record BothFacts (mst xrf : List ℕ) (m : ℕ) (p : Place) (l : Leader) : Type 0 where
  pub current : KnownFacts mst xrf m p l
  pub version_fine_lem : version_fine mst m p ≡ true
  pub settled_fine_lem : p.mark ≡ Changed → settled_fine mst m p ≡ true
  pub settled : p.mark ≡ Changed → SettledFacts mst m p l

module _ (mst xrf : List ℕ) (m : ℕ) (p : Place) (l : Leader) where
  changed_fine : version_fine mst m p ≡ true → p.mark ≡ Changed → settled_fine mst m p ≡ true
  unfolding version_fine
  changed_fine e h = cond_holds (is_changed p.mark) (settled_fine mst m p) e (ap is_changed h)

  pub both_from : KnownFacts mst xrf m p l → version_fine mst m p ≡ true → BothFacts mst xrf m p l
  both_from k v =
      record {
        current = k;
        version_fine_lem = v;
        settled_fine_lem = λ c. changed_fine v c;
        settled = λ c. rw k.leader_is (settled_facts mst m p k.record_fine_lem c (changed_fine v c));
      }

  pub both_facts : known_both (store mst xrf) m ≡ Ok (record_of p l) → BothFacts mst xrf m p l
  unfolding known_both
  both_facts h =
      let q = found_by mst xrf m p l (both_fine (store mst xrf) m) h in
      let t = simp tests at q.2 in
      let k : KnownFacts mst xrf m p l = known_from mst xrf m p l q.0 q.1 t.0 q.3 in
      both_from k (rw k.place_is at t.1)

-- ---- and back: a call that is done found its record, behind an open gate

pub record Planned (mst xrf : List ℕ) (m : ℕ) (p : Place) (l : Leader) : Type 0 where
  pub gate : OpenFacts mst xrf (record { 0 = next_of mst }) (end_of mst)
  pub found : KnownFacts mst xrf m p l

pub planned_at : (mst xrf : List ℕ) (m : ℕ) (p : Place) (l : Leader) → lengths_permitted (store mst xrf) ≡ true → control_fine (store mst xrf) ≡ true → mfn_in_range mst m ≡ true
    → entry_for (store mst xrf) m ≡ At (place_for (store mst xrf) m) → fine (store mst xrf) m ≡ true → place_for (store mst xrf) m ≡ p → leader_at mst (place_for (store mst xrf) m) ≡ l
    → Planned mst xrf m p l
unfolding leader_in
planned_at mst xrf m p l a b c d e f g =
    record {
      gate = open_from mst xrf (record { 0 = next_of mst }) (end_of mst) a b refl refl;
      found = known_from mst xrf m p l c (d ∙ ap At f) e (sym g);
    }
