-- What the functions of the steps and the passes return, by what their steps found. Each law's premises are what is known at one place of the code, so that
-- `search` finds them there; a callee's result is a variable with what the callee ensures of it. The invariants of the two passes are records,
-- with one law for each event: none yet, one more, and what the pass says at its end.
use Rattle.std.specs.Prelude.{Option, Some, None, Result, Ok, Err}
use Prim.Native.Nat.{ℕ, ◌+◌, ◌*◌, ◌-◌, ◌≤◌, ◌<◌}
use native.Mathlib.Omega.{arith}
use mathlib.Core.Path.{◌≡◌, refl, sym, ap, ◌∙◌}
use mathlib.Core.Bool.{Bool, true, false, not, ◌&&◌, cond, and-false, or-false}
use mathlib.Core.List.{List, [], ◌∷◌}
use lib.Dec.{eqb}
use lib.ListN.{length}
use borrow.Author.Tests.{le-leb, lt-leb, le-ltb, eq-eqb, ne_eqb, not-true}
use mir.Val.{bool_byte}
use Rattle.std.proofs.lemmas.Option.{none-some, cond_some}
use Rattle.word.specs.Overwrite.{part}
use Rattle.layout.specs.Sizes.{mst_most, mfn_most, address_of, end_moved, record_length}
use Rattle.layout.specs.Entry.{place_address}
use Rattle.files.specs.CrossReference.{entry_at}
use Rattle.files.specs.Control.{next_of, end_of}
use Rattle.layout.specs.Leader.{leader_of}
use Rattle.layout.specs.declared.entry.Mark.TheVariants.{Changed}
use Rattle.layout.specs.declared.entry.Place.{Place}
use Rattle.layout.specs.declared.entry.Entry.{Entry}
use Rattle.layout.specs.declared.entry.Entry.TheVariants.{Gone, Malformed, At}
use Rattle.layout.specs.declared.leader.Leader.{Leader}
use Rattle.word.proofs.Tests.{and_left}
use Rattle.layout.proofs.Facts.{well_placed_facts}
use Rattle.files.proofs.CrossReference.{entry_well_placed}
use Rattle.files.specs.declared.control.Control.{Control}
use Rattle.store.specs.Answer.{give, Answer}
use Rattle.store.specs.Reading.{mfn_in_range, entry_for, place_in, is_malformed, is_gone, is_changed, record_from, leader_at, back_address, record_fine, version_fine}
use Rattle.store.specs.Gate.{record_of, gate_of, known_if, known_both}
use Rattle.store.specs.declared.answer.Refusal.{Refusal}
use Rattle.store.specs.declared.answer.Refusal.TheVariants.{BadLength, BadControl, BadDraft, NoMfn, NoSlot, BadEntry, Gone as GoneRefusal, BadRecord, Deleted, NotPending, NeverSettled, NoField, NoRoom, NotSound, FewerFields, NoRoomInList}
use Rattle.store.specs.declared.gate.Record.{Record}
use Rattle.store.proofs.Gates.{gate_open, open_end, open_end_in, open_xrf, open_capacity, open_known, open_entry, fine_facts, back_changed}
use Rattle.soundness.specs.Sound.{bit, sum_to, elem, mfrl_at, step_right, next_step, steps, arrives, is_live, live_count}
use Rattle.soundness.specs.Passes.{count, names_of, entry_fine, entries_fine, named_total, tally, tally_of, entry_tally, named_under, step_of, mfn_at, hit, walk_of, Names}
use Rattle.soundness.specs.declared.passes.Tally.{Tally}
use Rattle.soundness.proofs.Stepping.{next_up, next_near, steps_more, steps_end, arrives_more, arrives_end}
use Rattle.soundness.proofs.Sums.{sum_more}
use Rattle.soundness.proofs.Counting.{Passed, passed_none, passed_more, passed_fails, passed_done, bit_le, eqb_sym}
use Rattle.soundness.proofs.Deciding.{entry_fine_lem}
use Rattle.store.proofs.Marks.{mark_other, mark_changed}
use Rattle.store.specs.Store.{store}

-- ---- stepping

-- the leader that is read at a step
module _ (mst : List ℕ) (end s : ℕ) (h : end ≡ end_of mst) (l : Leader) (u : l ≡ leader_of (part mst s (end - s))) where
  step_leader : l ≡ leader_of (record_from mst s)
  step_leader = u ∙ rw h

  module _ (n : ℕ) (e : n ≡ l.mfrl) where
    mfrl_is : n ≡ mfrl_at mst s
    mfrl_is = e ∙ ap (λ (x : Leader). x.mfrl) step_leader

    module _ (t : Bool) (r : t ≡ record_length n) where
      pub next_wrong : not t ≡ true → None ≡ step_of mst s
      unfolding step_of step_right
      next_wrong q = rw (← mfrl_is, ← r, not-true t q)

      pub next_outside : end < s + n → None ≡ step_of mst s
      unfolding step_of step_right
      next_outside q = rw (← mfrl_is, lt-leb (s + n) (end_of mst) (omega arith), and-false)

      pub next_on : t ≡ true → s + n ≤ end → (a : ℕ) → a ≡ end_moved (s + n) → Some a ≡ step_of mst s
      unfolding step_of next_step step_right
      next_on q k a f = rw (f, ← mfrl_is, ← r, q, le-leb (s + n) (end_of mst) (omega arith))

pub ruleset step_answers = (next_wrong, next_outside, next_on, arith)

-- ---- behind an open gate

module _ (mst xrf : List ℕ) (k : Control) (g : gate_of (store mst xrf) ≡ Ok k) where
  pub open_next : k.next.0 ≡ next_of mst
  open_next = (gate_open mst xrf k g).next_is

  pub open_low : 1 ≤ k.next.0
  open_low = let f = gate_open mst xrf k g in omega arith

  pub open_few : k.next.0 ≤ mfn_most + 1
  open_few = let f = gate_open mst xrf k g in omega arith

  pub open_end_low : 64 ≤ k.end
  open_end_low = let f = gate_open mst xrf k g in omega arith

  pub open_mst : length mst ≤ mst_most
  open_mst = (gate_open mst xrf k g).sizes.mst_high

-- ---- the first pass

-- a test as a number
byte_bit : (b : Bool) → bool_byte b ≡ bit b
unfolding bit
byte_bit true = refl
byte_bit false = refl

-- the record of a known MFN with its settled version, by the kind of entry
known_entry : List ℕ → ℕ → Entry → Result Record Refusal
known_entry mst m Gone = Err GoneRefusal
known_entry mst m Malformed = Err BadEntry
known_entry mst m (At p) = cond (record_fine mst m p && version_fine mst m p) (Ok (record_of p (leader_at mst p))) (Err BadRecord)

both_entry : (mst xrf : List ℕ) (m : ℕ) → mfn_in_range mst m ≡ true → known_both (store mst xrf) m ≡ known_entry mst m (entry_for (store mst xrf) m)
unfolding known_both known_if give known_entry
both_entry mst xrf m k = rw k (go (entry_for (store mst xrf) m))
  where
    refusal : Entry → Answer
    refusal e =
        cond (is_malformed e) (Err BadEntry)
        (cond (is_gone e) (Err GoneRefusal)
        (cond (not (record_fine mst m (place_in e) && version_fine mst m (place_in e))) (Err BadRecord) (Ok tt)))

    go : (e : Entry) → give (refusal e) (record_of (place_in e) (leader_at mst (place_in e))) ≡ known_entry mst m e
    go Gone = refl
    go Malformed = refl
    go (At p) = ok (record_fine mst m p && version_fine mst m p)
      where
        ok : (b : Bool) → give (cond (not b) (Err BadRecord) (Ok tt)) (record_of p (leader_at mst p)) ≡ cond b (Ok (record_of p (leader_at mst p))) (Err BadRecord)
        ok true = refl
        ok false = refl

-- what is counted of it: of those with no record only one that is physically deleted is right, and names nothing
tally_known : Result Record Refusal → Option Tally
tally_known (Ok x) = Some (tally (named_under x.place.mark) (bit (not x.place.deleted)))
tally_known (Err GoneRefusal) = Some (tally 0 0)
tally_known (Err BadLength) = None
tally_known (Err BadControl) = None
tally_known (Err BadDraft) = None
tally_known (Err NoMfn) = None
tally_known (Err NoSlot) = None
tally_known (Err BadEntry) = None
tally_known (Err BadRecord) = None
tally_known (Err Deleted) = None
tally_known (Err NotPending) = None
tally_known (Err NeverSettled) = None
tally_known (Err NoField) = None
tally_known (Err NoRoom) = None
tally_known (Err NotSound) = None
tally_known (Err (FewerFields n)) = None
tally_known (Err NoRoomInList) = None

tally_entry : (mst : List ℕ) (m : ℕ) (e : Entry) → tally_known (known_entry mst m e) ≡ entry_tally mst m e
unfolding tally_known known_entry entry_tally entry_fine names_of bit
tally_entry mst m Gone = refl
tally_entry mst m Malformed = refl
tally_entry mst m (At p) = go (record_fine mst m p && version_fine mst m p) (is_changed p.mark) refl
  where
    go : (b t : Bool) → is_changed p.mark ≡ t
        → tally_known (cond b (Ok (record_of p (leader_at mst p))) (Err BadRecord))
        ≡ cond b (Some (tally (length (place_address p ∷ cond (is_changed p.mark) (back_address (leader_at mst p) ∷ []) [])) (bit (not p.deleted)))) None
    go true true c = rw c
    go true false c = rw c
    go false t c = refl

module _ (mst xrf : List ℕ) (k : Control) (g : gate_of (store mst xrf) ≡ Ok k) where
  module _ (m : ℕ) (lo : 1 ≤ m) (hi : m < k.next.0) (y : Result Record Refusal) (e : y ≡ known_both (store mst xrf) m) where
    counted : tally_known y ≡ entry_tally mst m (entry_for (store mst xrf) m)
    counted = ap tally_known (e ∙ both_entry mst xrf m (open_known mst xrf k g m lo hi)) ∙ tally_entry mst m (entry_for (store mst xrf) m)

    pub tally_gone : y ≡ Err GoneRefusal → Some (tally 0 0) ≡ entry_tally mst m (entry_for (store mst xrf) m)
    unfolding tally_known
    tally_gone q = sym (ap tally_known q) ∙ counted

    pub tally_refused : (r : Refusal) → y ≡ Err r → (r ≡ GoneRefusal → ⊥) → None ≡ entry_tally mst m (entry_for (store mst xrf) m)
    unfolding tally_known
    tally_refused r q d = sym (ap tally_known q ∙ other r d) ∙ counted
      where
        other : (r : Refusal) → (r ≡ GoneRefusal → ⊥) → tally_known (Err r) ≡ None
        other GoneRefusal d = absurd (d refl)
        other BadLength d = refl
        other BadControl d = refl
        other BadDraft d = refl
        other NoMfn d = refl
        other NoSlot d = refl
        other BadEntry d = refl
        other BadRecord d = refl
        other Deleted d = refl
        other NotPending d = refl
        other NeverSettled d = refl
        other NoField d = refl
        other NoRoom d = refl
        other NotSound d = refl
        other (FewerFields n) d = refl
        other NoRoomInList d = refl

    pub tally_found : (x : Record) (n v : ℕ) → y ≡ Ok x → n ≡ named_under x.place.mark → v ≡ bool_byte (not x.place.deleted)
        → Some (tally n v) ≡ entry_tally mst m (entry_for (store mst xrf) m)
    unfolding tally_known
    tally_found x n v q u w = rw (u, w, byte_bit (not x.place.deleted)) (sym (ap tally_known q) ∙ counted)

-- the tally of the entries before m
pub record Tallied (mst xrf : List ℕ) (m named live : ℕ) : Type 0 where
  pub fine : Passed (λ (i : ℕ). entry_fine mst i (entry_for (store mst xrf) i)) m
  pub named_is : named ≡ sum_to (m - 1) (λ (i : ℕ). length (names_of mst (entry_for (store mst xrf) i)))
  pub live_is : live ≡ sum_to (m - 1) (λ (i : ℕ). bit (is_live (entry_for (store mst xrf) i)))
  pub few : named ≤ 2 * (m - 1)
  pub few_live : live ≤ m - 1

-- a tally tells its parts
pub named_parts : (t : Bool) (n v : ℕ) (x : Tally) → cond t (Some (tally n v)) None ≡ Some x → (t ≡ true) × (n ≡ x.named) × (v ≡ x.live)
named_parts t n v x e =
    let q = cond_some t (tally n v) x e in
    (q.0, ap (λ (y : Tally). y.named) q.1, ap (λ (y : Tally). y.live) q.1)

-- and where there is none, the test failed
pub cond_none : {A : Type 0} (t : Bool) (x : A) → cond t (Some x) None ≡ None → t ≡ false
cond_none true x e = absurd (none-some x (sym e))
cond_none false x e = refl

names_few : (mst : List ℕ) (e : Entry) → length (names_of mst e) ≤ 2
unfolding names_of
names_few mst Gone = omega arith
names_few mst Malformed = omega arith
names_few mst (At p) = go (is_changed p.mark)
  where
    go : (t : Bool) → length (place_address p ∷ cond t (back_address (leader_at mst p) ∷ []) []) ≤ 2
    go true = omega arith
    go false = omega arith

module _ (mst xrf : List ℕ) where
  pub tally_none : Tallied mst xrf 1 0 0
  unfolding sum_to
  tally_none = record { fine = passed_none (λ (i : ℕ). entry_fine mst i (entry_for (store mst xrf) i)); named_is = refl; live_is = refl; few = omega arith; few_live = omega arith }

  module _ (m : ℕ) (t : Option Tally) (e : t ≡ entry_tally mst m (entry_for (store mst xrf) m)) where
    module _ (x : Tally) (h : t ≡ Some x) where
      parts : (entry_fine mst m (entry_for (store mst xrf) m) ≡ true) × (length (names_of mst (entry_for (store mst xrf) m)) ≡ x.named) × (bit (is_live (entry_for (store mst xrf) m)) ≡ x.live)
      unfolding entry_tally
      parts = named_parts (entry_fine mst m (entry_for (store mst xrf) m)) (length (names_of mst (entry_for (store mst xrf) m)))
          (bit (is_live (entry_for (store mst xrf) m))) x (sym e ∙ h)

      pub tally_few : x.named ≤ 2
      tally_few = omega (arith, parts.1, names_few mst (entry_for (store mst xrf) m))

      pub live_few : x.live ≤ 1
      live_few = omega (arith, parts.2, bit_le (is_live (entry_for (store mst xrf) m)))

      pub tally_more : (named live : ℕ) → 1 ≤ m → Tallied mst xrf m named live → Tallied mst xrf (m + 1) (named + x.named) (live + x.live)
      tally_more named live lo w =
          let t = sum_more m (λ (i : ℕ). bit (is_live (entry_for (store mst xrf) i))) lo in
          let s = sum_more m (λ (i : ℕ). length (names_of mst (entry_for (store mst xrf) i))) lo in
          record {
            fine = passed_more (λ (i : ℕ). entry_fine mst i (entry_for (store mst xrf) i)) m lo w.fine parts.0;
            named_is = omega (arith, w.named_is, parts.1, s);
            live_is = omega (arith, w.live_is, parts.2, t);
            few = omega (arith, w.few, tally_few);
            few_live = omega (arith, w.few_live, live_few);
          }

    pub tally_wrong : (k : Control) → gate_of (store mst xrf) ≡ Ok k → t ≡ None → 1 ≤ m → m < k.next.0 → None ≡ tally_of (store mst xrf)
    unfolding tally_of entries_fine entry_tally
    tally_wrong k g h lo hi =
        let n = open_next mst xrf k g in
        let f = cond_none (entry_fine mst m (entry_for (store mst xrf) m))
        (tally (length (names_of mst (entry_for (store mst xrf) m))) (bit (is_live (entry_for (store mst xrf) m)))) (sym e ∙ h) in
        rw (sym (passed_fails (λ (i : ℕ). entry_fine mst i (entry_for (store mst xrf) i)) m (next_of mst - 1) lo (omega arith) f))

  pub tally_done : (m named live : ℕ) (k : Control) → gate_of (store mst xrf) ≡ Ok k → Tallied mst xrf m named live → m ≤ k.next.0 → k.next.0 ≤ m
      → Some (tally named live) ≡ tally_of (store mst xrf)
  unfolding tally_of entries_fine named_total live_count
  tally_done m named live k g w lo hi =
      let l = open_low mst xrf k g in
      let h : m ≡ next_of mst = omega (arith, open_next mst xrf k g) in
      let f = passed_done (λ (i : ℕ). entry_fine mst i (entry_for (store mst xrf) i)) m (next_of mst - 1) w.fine (omega arith) (omega arith) in
      let a : named ≡ sum_to (next_of mst - 1) (λ (i : ℕ). length (names_of mst (entry_for (store mst xrf) i))) = rw h at w.named_is in
      let b : live ≡ sum_to (next_of mst - 1) (λ (i : ℕ). bit (is_live (entry_for (store mst xrf) i))) = rw h at w.live_is in
      rw (sym f, a, b)

pub ruleset tally_answers = (tally_gone, tally_refused, tally_found, tally_none, tally_more, tally_wrong, tally_done, open_low, arith)

-- ---- the second pass

-- the leader that is read for the back place
module _ (mst : List ℕ) (end : ℕ) (p : Place) (w : Names mst end p) (at : ℕ) (e : at ≡ place_address p) (l : Leader) (u : l ≡ leader_of (part mst at (end - at))) where
  leader_is : l ≡ leader_at mst p
  leader_is = u ∙ rw (e, w.end_is)

  pub hit_block : p.mark ≡ Changed → 1 ≤ l.mfbwb.0
  hit_block c = rw leader_is (w.back_block c)

module _ (mst : List ℕ) (p : Place) (s at : ℕ) (e : at ≡ place_address p) where
  pub hit_place : at ≡ s → true ≡ elem s (names_of mst (At p))
  unfolding names_of elem
  hit_place h = rw (eq-eqb s (place_address p) (sym h ∙ e))

  module _ (d : at ≡ s → ⊥) where
    elsewhere : eqb s (place_address p) ≡ false
    elsewhere = ne_eqb s (place_address p) (λ q. d (e ∙ sym q))

    pub hit_no_back : is_changed p.mark ≡ false → false ≡ elem s (names_of mst (At p))
    unfolding names_of elem
    hit_no_back o = rw (elsewhere, o)

    module _ (end : ℕ) (w : Names mst end p) (c : p.mark ≡ Changed) (l : Leader) (u : l ≡ leader_of (part mst at (end - at)))
        (b : ℕ) (v : b ≡ address_of l.mfbwb.0 l.mfbwp) where
      back_is : b ≡ back_address (leader_at mst p)
      back_is = v ∙ ap back_address (leader_is mst end p w at e l u)

      pub hit_back : eqb b s ≡ elem s (names_of mst (At p))
      unfolding names_of elem
      hit_back = rw (elsewhere, c, ← back_is) (eqb_sym b s ∙ sym (or-false (eqb s b)))

no_names : (mst : List ℕ) (e : Entry) (s : ℕ) → ((p : Place) → e ≡ At p → ⊥) → elem s (names_of mst e) ≡ false
unfolding names_of elem
no_names mst Gone s o = refl
no_names mst Malformed s o = refl
no_names mst (At p) s o = absurd (o p refl)

module _ (mst xrf : List ℕ) (k : Control) (g : gate_of (store mst xrf) ≡ Ok k) (s : ℕ) (l : Leader) (v : l ≡ leader_of (part mst s (k.end - s)))
    (m : ℕ) (w : m ≡ l.mfn.0) where
  e : m ≡ mfn_at mst s
  e = w ∙ ap (λ (x : Leader). x.mfn.0) (step_leader mst k.end s (open_end mst xrf k g) l v)

  pub hit_low : m < 1 → false ≡ hit (store mst xrf) s
  unfolding hit mfn_in_range
  hit_low h = rw (← e, lt-leb 1 m h)

  pub hit_high : k.next.0 ≤ m → false ≡ hit (store mst xrf) s
  unfolding hit mfn_in_range
  hit_high h =
      let f = gate_open mst xrf k g in
      let q : next_of mst ≤ m = omega arith in
      rw (← e, le-ltb m (next_of mst) q, and-false)

  module _ (lo : 1 ≤ m) (hi : m < k.next.0) (n : Entry) (u : n ≡ entry_at xrf k.end m) where
    entry_is : entry_for (store mst xrf) m ≡ n
    entry_is = open_entry mst xrf k g m n u

    hit_is : hit (store mst xrf) s ≡ elem s (names_of mst n)
    unfolding hit
    hit_is = rw (← e, open_known mst xrf k g m lo hi, entry_is)

    pub hit_no_place : ((p : Place) → n ≡ At p → ⊥) → false ≡ hit (store mst xrf) s
    hit_no_place o = rw (hit_is, no_names mst n s o)

    module _ (p : Place) (h : n ≡ At p) where
      pub hit_told : (r : Bool) → r ≡ elem s (names_of mst (At p)) → r ≡ hit (store mst xrf) s
      hit_told r q = q ∙ sym (hit_is ∙ ap (λ (x : Entry). elem s (names_of mst x)) h)

      place_fine : entries_fine (store mst xrf) ≡ true → record_fine mst m p ≡ true
      unfolding entry_fine
      place_fine fine =
          let f = gate_open mst xrf k g in
          let q : entry_fine mst m (At p) ≡ true =
          sym (ap (entry_fine mst m) (entry_is ∙ h)) ∙ entry_fine_lem mst xrf f.next_low fine m lo (omega arith) in
          and_left (record_fine mst m p) (version_fine mst m p) q

      pub hit_names : entries_fine (store mst xrf) ≡ true → Names mst k.end p
      hit_names fine =
          let f = gate_open mst xrf k g in
          let w = well_placed_facts k.end p.block.0 p.offset (entry_well_placed xrf k.end m p (sym u ∙ h)) in
          record {
            end_is = f.end_is;
            end_in = omega arith;
            block = w.block;
            room = w.room;
            back_block =
                λ c. (back_changed (end_of mst) p (leader_at mst p) (fine_facts mst m p (place_fine fine)).back c).facts.block;
          }

pub ruleset hit_answers =
    (mark_other, mark_changed, hit_place, hit_no_back, hit_block, hit_back, hit_low, hit_high, hit_no_place, hit_told, hit_names, open_end_in, open_capacity, open_xrf, arith)

-- the walk has come to `at`
pub record Walked (mst xrf : List ℕ) (end hits at : ℕ) : Type 0 where
  pub end_is : end ≡ end_of mst
  pub hits_are : count (hit (store mst xrf)) (steps mst 64) ≡ hits + count (hit (store mst xrf)) (steps mst at)
  pub way : arrives mst 64 ≡ arrives mst at
  pub few : hits ≤ at
  pub near : at ≤ end + 12

module _ (mst xrf : List ℕ) (end : ℕ) where
  pub walk_none : (k : Control) → gate_of (store mst xrf) ≡ Ok k → k.end ≡ end → Walked mst xrf end 0 64
  walk_none k g q =
      let h = open_end_low mst xrf k g in
      record { end_is = sym q ∙ open_end mst xrf k g; hits_are = omega arith; way = refl; few = omega arith; near = omega arith }

  module _ (hits at : ℕ) (w : Walked mst xrf end hits at) where
    module _ (fits : at + 18 ≤ end) where
      room : at + 18 ≤ end_of mst
      room = omega (arith, w.end_is)

      walked_on : (next : ℕ) → next ≡ next_step mst at → Walked mst xrf end (hits + bit (hit (store mst xrf) at)) next
      unfolding count
      walked_on next n =
          let q : count (hit (store mst xrf)) (steps mst 64) ≡ hits + (bit (hit (store mst xrf) at) + count (hit (store mst xrf)) (steps mst (next_step mst at))) =
          rw (steps_more mst at room) at w.hits_are in
          rw n
          (record {
            end_is = w.end_is;
            hits_are = omega (arith, q);
            way = w.way ∙ arrives_more mst at room;
            few = omega (arith, w.few, bit_le (hit (store mst xrf) at), next_up mst at room);
            near = omega (arith, w.end_is, next_near mst at room);
          })

      module _ (t : Option ℕ) (e : t ≡ step_of mst at) where
        stepped : (next : ℕ) → t ≡ Some next → next ≡ next_step mst at
        unfolding step_of
        stepped next h = sym (cond_some (step_right mst at) (next_step mst at) next (sym e ∙ h)).1

        pub walk_more : (next r : ℕ) (b : Bool) → t ≡ Some next → r ≡ bool_byte b → b ≡ hit (store mst xrf) at → Walked mst xrf end (hits + r) next
        walk_more next r b h q n = rw (q, byte_bit b, n) (walked_on next (stepped next h))

        pub walk_rises : (next : ℕ) → t ≡ Some next → at < next
        walk_rises next h = omega (arith, stepped next h, next_up mst at room)

        -- where MFRL is not right, one never arrives
        pub walk_astray : (named : ℕ) → t ≡ None → false ≡ walk_of (store mst xrf) named
        unfolding walk_of step_of next_step
        walk_astray named h =
            let q : step_right mst at ≡ false = cond_none (step_right mst at) (next_step mst at) (sym e ∙ h) in
            let past : next_step mst at ≡ end_of mst + 1 = rw q in
            let lost : arrives mst 64 ≡ false =
            w.way ∙ arrives_more mst at room ∙ ap (arrives mst) past ∙ arrives_end mst (end_of mst + 1) (omega arith)
            ∙ ne_eqb (end_of mst + 1) (end_of mst) (λ z. omega arith) in
            rw lost

    module _ (named : ℕ) (full : end < at + 18) where
      arrived : arrives mst 64 ≡ eqb at end
      arrived = w.way ∙ arrives_end mst at (omega (arith, w.end_is)) ∙ ap (eqb at) (sym w.end_is)

      pub walk_lost : (at ≡ end → ⊥) → eqb at end ≡ walk_of (store mst xrf) named
      unfolding walk_of
      walk_lost d = rw (arrived, ne_eqb at end d)

      pub walk_done : at ≡ end → eqb hits named ≡ walk_of (store mst xrf) named
      unfolding walk_of count
      walk_done h =
          let q : count (hit (store mst xrf)) (steps mst 64) ≡ hits + 0 = rw (steps_end mst at (omega (arith, w.end_is))) at w.hits_are in
          let c : count (hit (store mst xrf)) (steps mst 64) ≡ hits = omega (arith, q) in
          rw (arrived, eq-eqb at end h, c)

pub ruleset walk_answers = (walk_none, walk_more, walk_rises, walk_astray, walk_lost, walk_done, open_end, open_end_in, open_mst, arith)
