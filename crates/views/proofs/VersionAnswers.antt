-- Which version a call shows, by what its steps found, and what a caller knows of one: that a
-- version which was found can be read, and which answer the rows of a call behind it have. Each
-- law's premises are what is known at one place of the code, so that the check finds them there by
-- `version_answers`; a callee's result is a variable with what the callee ensures of it.
use Rattle.std.specs.Prelude.{Result, Ok, Err, IfOk}
use Prim.Native.Nat.{ℕ, ◌+◌, ◌-◌, ◌≤◌, ◌<◌}
use native.Mathlib.Omega.{arith}
use mathlib.Core.Path.{◌≡◌, refl, sym, ◌∙◌}
use mathlib.Core.Bool.{Bool, true, false, ◌&&◌, cond, and-false}
use mathlib.Core.List.{List, [], ◌∷◌}
use lib.ListN.{length}
use Rattle.word.specs.Overwrite.{part}
use Rattle.word.proofs.Overwrite.{part_short}
use Rattle.layout.specs.Entry.{place_address}
use Rattle.layout.specs.Leader.{leader_of}
use Rattle.files.specs.Control.{next_of, end_of}
use Rattle.layout.specs.declared.entry.Mark.{Mark}
use Rattle.layout.specs.declared.entry.Mark.TheVariants.{Settled, Changed, New}
use Rattle.layout.specs.declared.entry.Place.{Place}
use Rattle.layout.specs.declared.leader.Leader.{Leader}
use Rattle.record.proofs.Facts.{readable_facts}
use Rattle.store.specs.Answer.{refusal_number, number_of, Row, refuse, lowest, after, give}
use Rattle.store.specs.Reading.{place_for, is_settled, is_changed, is_new, record_from, leader_at, back_address, shown_settled}
use Rattle.store.specs.Refusals.{fine, both_fine}
use Rattle.views.specs.Views.{on_current, on_settled, settled_address}
use Rattle.store.specs.Gate.{known_if, known_of, known_both, reached_of, reached_both}
use Rattle.views.specs.Versions.{version_at, current_version, settled_version, settled_of, Located, ReadableAt}
use Rattle.store.specs.declared.answer.Refusal.{Refusal}
use Rattle.store.specs.declared.answer.Refusal.TheVariants.{Deleted, NeverSettled}
use Rattle.store.specs.declared.gate.Reached.{Reached}
use Rattle.views.specs.declared.views.Version.{Version}
use Rattle.store.proofs.Gates.{refused_is, done_is, given_refused, given_done, gate_done, named_done, OpenFacts, open_from, known_facts, BothFacts, both_facts, Planned}
use Rattle.store.proofs.Reaching.{reach_refused, both_unreached, BothPlanned, reached_facts, reached_both_facts}
use Rattle.store.proofs.Lowest.{above, lowest_append, below, lowest_below}
use Rattle.store.specs.Store.{store}

-- ---- the current version

module _ (mst xrf : List ℕ) (m : ℕ) (r : Result Reached Refusal) (p : r ≡ reached_of (store mst xrf) m) where
  pub current_unreached : (e : Refusal) → r ≡ Err e → Err e ≡ current_version (store mst xrf) m
  unfolding current_version
  current_unreached e q =
      refused_is _ _ e ((reach_refused mst xrf m e (sym p ∙ q)).answers (refuse Deleted (place_for (store mst xrf) m).deleted ∷ []))

  module _ (t : Reached) (q : r ≡ Ok t) where
    reached : (t.end ≡ end_of mst) × Planned mst xrf m t.place t.leader
    reached = reached_facts mst xrf m t (sym p ∙ q)

    pub current_block : 1 ≤ t.place.block.0
    current_block = reached.1.found.place.block

    -- behind the gate and the record, 9 is left
    current_rest : lowest (on_current (store mst xrf) m []) ≡ cond t.place.deleted (Err Deleted) (Ok tt)
    current_rest =
        let o = reached.1.gate in
        let f = reached.1.found in
        rw (o.lengths, o.control, f.known, f.entry, f.record_fine_lem)

    pub current_deleted : t.place.deleted ≡ true → Err Deleted ≡ current_version (store mst xrf) m
    unfolding current_version
    current_deleted d = refused_is _ _ Deleted (current_rest ∙ rw d)

    pub current_found : (at : ℕ) → t.place.deleted ≡ false → at ≡ place_address t.place → Ok (version_at at t.end) ≡ current_version (store mst xrf) m
    unfolding current_version
    current_found at d a = done_is _ _ _ (current_rest ∙ rw d) (rw (a, reached.0, reached.1.found.place_is))

-- ---- the settled version, of a record that was found with it

module _ (end : ℕ) (p : Place) (l : Leader) where
  pub mark_deleted : p.mark ≡ Settled → p.deleted ≡ true → Err Deleted ≡ settled_of end p l
  unfolding settled_of give
  mark_deleted k d = rw (k, d)

  pub mark_new : p.mark ≡ New → Err NeverSettled ≡ settled_of end p l
  unfolding settled_of give
  mark_new k = rw (k, and-false)

  module _ (at : ℕ) where
    pub mark_settled : p.mark ≡ Settled → p.deleted ≡ false → at ≡ place_address p → Ok (version_at at end) ≡ settled_of end p l
    unfolding settled_of give
    mark_settled k d a = rw (k, d, a)

    pub mark_changed : p.mark ≡ Changed → at ≡ back_address l → Ok (version_at at end) ≡ settled_of end p l
    unfolding settled_of give
    mark_changed k a = rw (k, and-false, a)

module _ (mst xrf : List ℕ) (m : ℕ) (r : Result Reached Refusal) (p : r ≡ reached_both (store mst xrf) m) where
  pub settled_unreached : (e : Refusal) → r ≡ Err e → Err e ≡ settled_version (store mst xrf) m
  unfolding settled_version
  settled_unreached e q =
      refused_is _ _ e
      ((both_unreached mst xrf m e (sym p ∙ q)).answers
      (refuse Deleted ((place_for (store mst xrf) m).deleted && is_settled (place_for (store mst xrf) m).mark)
      ∷ refuse NeverSettled (is_new (place_for (store mst xrf) m).mark) ∷ []))

  module _ (t : Reached) (q : r ≡ Ok t) where
    both : (t.end ≡ end_of mst) × BothPlanned mst xrf m t.place t.leader
    both = reached_both_facts mst xrf m t (sym p ∙ q)

    pub settled_located : Located t.place t.leader
    settled_located =
        record { block = both.1.both.current.place.block; back_block = λ c. (both.1.both.settled c).back.facts.block }

    pub settled_found : (x : Result Version Refusal) → x ≡ settled_of t.end t.place t.leader → x ≡ settled_version (store mst xrf) m
    unfolding settled_of settled_version
    settled_found x s =
        let o = both.1.gate in
        let f = both.1.both.current in
        rw (s, o.lengths, o.control, f.known, f.entry, f.record_fine_lem, both.1.both.version_fine_lem, both.0, f.leader_is)

pub ruleset version_answers =
    (current_unreached, current_block, current_deleted, current_found, mark_deleted, mark_new, mark_settled, mark_changed, settled_unreached, settled_located, settled_found)

-- ---- what is read of a version

-- the settled version is read from its address on
pub settled_from : (mst : List ℕ) (p : Place) → record_from mst (settled_address mst p) ≡ shown_settled mst p
settled_from mst p = from (is_changed p.mark) (back_address (leader_at mst p)) (place_address p)
  where
    from : (b : Bool) (x y : ℕ) → record_from mst (cond b x y) ≡ cond b (record_from mst x) (record_from mst y)
    from true x y = refl
    from false x y = refl

-- a version that was found can be read

module _ (mst xrf : List ℕ) (m : ℕ) where
  pub current_readable : lowest (on_current (store mst xrf) m []) ≡ Ok tt → ReadableAt mst (place_address (place_for (store mst xrf) m)) (end_of mst)
  unfolding known_of known_if give
  current_readable e =
      let g = gate_done mst xrf _ e in
      let n = named_done mst xrf m (fine (store mst xrf) m) _ g.2 in
      let o = open_from mst xrf (record { 0 = next_of mst }) (end_of mst) g.0 g.1 refl refl in
      let f = known_facts mst xrf m (place_for (store mst xrf) m) (leader_at mst (place_for (store mst xrf) m)) (rw (n.0, n.1, n.2)) in
      record { end_in = o.end_in; before = omega arith; readable = f.facts.readable }

  -- the record with its settled version
  found_both : lowest (on_settled (store mst xrf) m []) ≡ Ok tt
      → OpenFacts mst xrf (record { 0 = next_of mst }) (end_of mst) × BothFacts mst xrf m (place_for (store mst xrf) m) (leader_at mst (place_for (store mst xrf) m))
  unfolding known_both known_if give
  found_both e =
      let g = gate_done mst xrf _ e in
      let n = named_done mst xrf m (both_fine (store mst xrf) m) _ g.2 in (
        open_from mst xrf (record { 0 = next_of mst }) (end_of mst) g.0 g.1 refl refl,
        both_facts mst xrf m (place_for (store mst xrf) m) (leader_at mst (place_for (store mst xrf) m)) (rw (n.0, n.1, n.2)),
      )

  by_mark : (p : Place) (l : Leader) → OpenFacts mst xrf (record { 0 = next_of mst }) (end_of mst) → BothFacts mst xrf m p l → (k : Mark) → p.mark ≡ k
      → ReadableAt mst (cond (is_changed k) (back_address l) (place_address p)) (end_of mst)
  by_mark p l o f Settled h = record { end_in = o.end_in; before = let c = f.current in omega arith; readable = f.current.facts.readable }
  by_mark p l o f Changed h = let s = f.settled h in record { end_in = o.end_in; before = omega arith; readable = s.readable }
  by_mark p l o f New h = record { end_in = o.end_in; before = let c = f.current in omega arith; readable = f.current.facts.readable }

  pub settled_readable : lowest (on_settled (store mst xrf) m []) ≡ Ok tt → ReadableAt mst (settled_address mst (place_for (store mst xrf) m)) (end_of mst)
  settled_readable e =
      let q = found_both e in
      by_mark (place_for (store mst xrf) m) (leader_at mst (place_for (store mst xrf) m)) q.0 q.1 (place_for (store mst xrf) m).mark refl

-- what lies in the record lies in the MST
pub version_within : (mst : List ℕ) (at end : ℕ) → ReadableAt mst at end → (start len : ℕ) → start + len ≤ (leader_of (part mst at (end - at))).mfrl
    → at + start + len ≤ length mst
version_within mst at end h start len i = omega (arith, h.end_in, h.before, (readable_facts h.readable).record_in, part_short mst at (end - at))

-- ---- the rows of a call, behind the refusals of a version

module _ (mst xrf : List ℕ) (m : ℕ) (rows : List Row) where
  pub current_then : lowest (on_current (store mst xrf) m rows)
      ≡ after (lowest (on_current (store mst xrf) m [])) (lowest rows) (lowest (on_current (store mst xrf) m []))
  unfolding above number_of
  current_then = lowest_append (on_current (store mst xrf) m []) rows refl

  pub settled_then : lowest (on_settled (store mst xrf) m rows)
      ≡ after (lowest (on_settled (store mst xrf) m [])) (lowest rows) (lowest (on_settled (store mst xrf) m []))
  unfolding above number_of
  settled_then = lowest_append (on_settled (store mst xrf) m []) rows refl

-- a version is refused by a number below 12
module _ (mst xrf : List ℕ) (m : ℕ) where
  pub current_low : number_of (lowest (on_current (store mst xrf) m [])) < 12
  unfolding below number_of
  current_low = lowest_below 12 (on_current (store mst xrf) m []) (omega arith) refl

  pub settled_low : number_of (lowest (on_settled (store mst xrf) m [])) < 12
  unfolding below number_of
  settled_low = lowest_below 12 (on_settled (store mst xrf) m []) (omega arith) refl

-- ---- what a caller learns

-- a version was refused: that is the answer of the whole call, whatever the rows behind it
pub record NoVersion (table : List Row → List Row) (e : Refusal) : Type 0 where
  pub answers : (rows : List Row) → lowest (table rows) ≡ Err e
  pub low : refusal_number e < 12

-- a version was found, at an address: the rows behind it have the answer
pub record FoundVersion (mst : List ℕ) (table : List Row → List Row) (at : ℕ) (v : Version) : Type 0 where
  pub answers : (rows : List Row) → lowest (table rows) ≡ lowest rows
  pub at_is : v.at ≡ at
  pub end_is : v.end ≡ end_of mst
  pub readable : ReadableAt mst v.at v.end

module _ (mst : List ℕ) (table : List Row → List Row) (at : ℕ)
    (then : (rows : List Row) → lowest (table rows) ≡ after (lowest (table [])) (lowest rows) (lowest (table [])))
    (x : Result Version Refusal) (p : x ≡ give (lowest (table [])) (version_at at (end_of mst))) where
  no_version : number_of (lowest (table [])) < 12 → (e : Refusal) → x ≡ Err e → NoVersion table e
  unfolding after number_of
  no_version low e q =
      let r = given_refused _ _ e (sym p ∙ q) in
      record { answers = λ rows. then rows ∙ rw r refl; low = rw r at low }

  found_version : (lowest (table []) ≡ Ok tt → ReadableAt mst at (end_of mst)) → (v : Version) → x ≡ Ok v → FoundVersion mst table at v
  unfolding after
  found_version readable v q =
      let r = given_done _ _ v (sym p ∙ q) in
      record { answers = λ rows. then rows ∙ rw r.0 refl; at_is = rw (← r.1); end_is = rw (← r.1); readable = rw (← r.1) (readable r.0) }

module _ (mst xrf : List ℕ) (m : ℕ) (x : Result Version Refusal) (p : x ≡ current_version (store mst xrf) m) where
  pub current_none : (e : Refusal) → x ≡ Err e → NoVersion (on_current (store mst xrf) m) e
  unfolding current_version
  current_none e q =
      no_version mst (on_current (store mst xrf) m) (place_address (place_for (store mst xrf) m)) (current_then mst xrf m) x p
      (current_low mst xrf m) e q

  pub current_there : (v : Version) → x ≡ Ok v → FoundVersion mst (on_current (store mst xrf) m) (place_address (place_for (store mst xrf) m)) v
  unfolding current_version
  current_there v q =
      found_version mst (on_current (store mst xrf) m) (place_address (place_for (store mst xrf) m)) (current_then mst xrf m) x p
      (current_readable mst xrf m) v q

pub current_legible : (mst xrf : List ℕ) (m : ℕ) (x : Result Version Refusal) → x ≡ current_version (store mst xrf) m → IfOk x (λ v. ReadableAt mst v.at v.end)
current_legible mst xrf m (Ok v) p = (current_there mst xrf m (Ok v) p v refl).readable
current_legible mst xrf m (Err e) p = tt

module _ (mst xrf : List ℕ) (m : ℕ) (x : Result Version Refusal) (p : x ≡ settled_version (store mst xrf) m) where
  pub settled_none : (e : Refusal) → x ≡ Err e → NoVersion (on_settled (store mst xrf) m) e
  unfolding settled_version
  settled_none e q =
      no_version mst (on_settled (store mst xrf) m) (settled_address mst (place_for (store mst xrf) m)) (settled_then mst xrf m) x p
      (settled_low mst xrf m) e q

  pub settled_there : (v : Version) → x ≡ Ok v → FoundVersion mst (on_settled (store mst xrf) m) (settled_address mst (place_for (store mst xrf) m)) v
  unfolding settled_version
  settled_there v q =
      found_version mst (on_settled (store mst xrf) m) (settled_address mst (place_for (store mst xrf) m)) (settled_then mst xrf m) x p
      (settled_readable mst xrf m) v q

pub settled_legible : (mst xrf : List ℕ) (m : ℕ) (x : Result Version Refusal) → x ≡ settled_version (store mst xrf) m → IfOk x (λ v. ReadableAt mst v.at v.end)
settled_legible mst xrf m (Ok v) p = (settled_there mst xrf m (Ok v) p v refl).readable
settled_legible mst xrf m (Err e) p = tt
