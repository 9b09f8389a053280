-- The gate and the record in one step: what `reach` and `reach_both` return, by what their steps found, and what a caller learns of a record
-- that was reached or refused. A refusal is the answer of the whole call, whatever the refusals after it.
use Rattle.std.specs.Prelude.{Result, Ok, Err}
use Prim.Native.Nat.{ℕ}
use mathlib.Core.Path.{◌≡◌, refl, sym, ap, ◌∙◌}
use mathlib.Core.Bool.{Bool, true}
use mathlib.Core.List.{List, []}
use Rattle.files.specs.Control.{next_of, end_of}
use Rattle.layout.specs.declared.entry.Place.{Place}
use Rattle.layout.specs.declared.entry.Entry.TheVariants.{At}
use Rattle.layout.specs.declared.leader.Leader.{Leader}
use Rattle.word.proofs.Tests.{tests}
use Rattle.store.specs.Store.{Store, store}
use Rattle.store.specs.Answer.{number_of, Row, lowest, after, Answer}
use Rattle.store.specs.Reading.{lengths_permitted, control_fine, mfn_in_range, entry_for, place_for, leader_at}
use Rattle.store.specs.Refusals.{gated, named, fine, both_fine}
use Rattle.store.specs.Gate.{reached_at, gate_of, known_of, known_both, reached_if, reached_of, reached_both}
use Rattle.files.specs.declared.control.Control.{Control}
use Rattle.store.specs.declared.answer.Refusal.{Refusal}
use Rattle.store.specs.declared.gate.Record.{Record}
use Rattle.store.specs.declared.gate.Reached.{Reached}
use Rattle.store.proofs.Gates.{refused_is, done_is, given_refused, given_done, gated_passes, gate_done, named_done, gate_shut, gate_open, RefusedFacts, known_refused, both_refused, KnownFacts, known_facts, BothFacts, both_facts, both_from, OpenFacts, Planned, planned_at}
use Rattle.store.proofs.Lowest.{above, lowest_append}

-- ---- what is returned

module _ (mst xrf : List ℕ) (m : ℕ) where
  abbrev answered : Bool → Answer
  answered ok = lowest (gated (store mst xrf) (named (store mst xrf) m ok []))

  shut : (ok : Bool) (r : Refusal) → gate_of (store mst xrf) ≡ Err r → Err r ≡ reached_if (answered ok) (store mst xrf) m
  unfolding reached_if
  shut ok r q = refused_is _ _ r ((gate_shut mst xrf r q).answers (named (store mst xrf) m ok []))

  pub reach_shut : (r : Refusal) → gate_of (store mst xrf) ≡ Err r → Err r ≡ reached_of (store mst xrf) m
  unfolding reached_of
  reach_shut r q = shut (fine (store mst xrf) m) r q

  pub both_shut : (r : Refusal) → gate_of (store mst xrf) ≡ Err r → Err r ≡ reached_both (store mst xrf) m
  unfolding reached_both
  both_shut r q = shut (both_fine (store mst xrf) m) r q

  -- the store as it was opened is the one that was lent
  module _ (s : Store) (same : (s.mst ≡ mst) × (s.xrf ≡ xrf)) (k : Control) (g : gate_of s ≡ Ok k) where
    is : s ≡ store mst xrf
    is = rw (same.0, same.1)

    opened_is : gate_of (store mst xrf) ≡ Ok k
    opened_is = ap gate_of (sym is) ∙ g

    unknown : (ok : Bool) (r : Refusal) → RefusedFacts mst xrf m ok r → Err r ≡ reached_if (answered ok) (store mst xrf) m
    unfolding reached_if
    unknown ok r f =
        let o = gate_open mst xrf k opened_is in
        refused_is _ _ r (gated_passes mst xrf (named (store mst xrf) m ok []) o.lengths o.control ∙ f.answers [])

    -- a record that was found, and whatever else 8 asks
    there : (ok : Bool) (x : Record) → KnownFacts mst xrf m x.place x.leader → ok ≡ true
        → Ok (reached_at k.end x.place x.leader) ≡ reached_if (answered ok) (store mst xrf) m
    unfolding reached_if
    there ok x f r =
        let o = gate_open mst xrf k opened_is in
        done_is _ _ _ (rw (o.lengths, o.control, f.known, f.entry, r)) (rw (f.entry, o.end_is, f.leader_is))

    module _ (y : Result Record Refusal) (w : y ≡ known_of s m) where
      u : y ≡ known_of (store mst xrf) m
      u = w ∙ ap (λ (t : Store). known_of t m) is

      pub reach_unknown : (r : Refusal) → y ≡ Err r → Err r ≡ reached_of (store mst xrf) m
      unfolding reached_of
      reach_unknown r e = unknown (fine (store mst xrf) m) r (known_refused mst xrf m r (sym u ∙ e))

      pub reach_there : (x : Record) → y ≡ Ok x → Ok (reached_at k.end x.place x.leader) ≡ reached_of (store mst xrf) m
      unfolding reached_of
      reach_there x e =
          let f = known_facts mst xrf m x.place x.leader (sym u ∙ e) in
          there (fine (store mst xrf) m) x f (rw f.place_is f.record_fine_lem)

    module _ (y : Result Record Refusal) (w : y ≡ known_both s m) where
      v : y ≡ known_both (store mst xrf) m
      v = w ∙ ap (λ (t : Store). known_both t m) is

      pub both_unknown : (r : Refusal) → y ≡ Err r → Err r ≡ reached_both (store mst xrf) m
      unfolding reached_both
      both_unknown r e = unknown (both_fine (store mst xrf) m) r (both_refused mst xrf m r (sym v ∙ e))

      pub both_there : (x : Record) → y ≡ Ok x → Ok (reached_at k.end x.place x.leader) ≡ reached_both (store mst xrf) m
      unfolding reached_both
      both_there x e =
          let f = both_facts mst xrf m x.place x.leader (sym v ∙ e) in
          there (both_fine (store mst xrf) m) x f.current (rw (f.current.place_is, f.current.record_fine_lem, f.version_fine_lem))

pub ruleset reach_answers = (reach_shut, reach_unknown, reach_there, both_shut, both_unknown, both_there)

-- ---- what a caller learns

-- it was refused, for r: that is the answer, whatever the refusals after it
pub record UnreachedFacts (mst xrf : List ℕ) (m : ℕ) (ok : Bool) (r : Refusal) : Type 0 where
  pub answers : (rest : List Row) → lowest (gated (store mst xrf) (named (store mst xrf) m ok rest)) ≡ Err r

module _ (mst xrf : List ℕ) (m : ℕ) (ok : Bool) where
  abbrev asked : Answer
  asked = lowest (gated (store mst xrf) (named (store mst xrf) m ok []))

  unreached_facts : (r : Refusal) → reached_if asked (store mst xrf) m ≡ Err r → UnreachedFacts mst xrf m ok r
  unfolding reached_if above number_of after
  unreached_facts r e =
      let q = given_refused asked _ r e in
      record {
        answers = λ rest. lowest_append (gated (store mst xrf) (named (store mst xrf) m ok [])) rest refl ∙ ap (λ (a : Answer). after a (lowest rest) a) q;
      }

  -- the gate is open, and the MFN has a place at which 8's question is answered
  there_facts : (t : Reached) → reached_if asked (store mst xrf) m ≡ Ok t
      → (lengths_permitted (store mst xrf) ≡ true) × (control_fine (store mst xrf) ≡ true) × (mfn_in_range mst m ≡ true)
      × (entry_for (store mst xrf) m ≡ At (place_for (store mst xrf) m)) × (ok ≡ true) × (end_of mst ≡ t.end)
      × (place_for (store mst xrf) m ≡ t.place) × (leader_at mst (place_for (store mst xrf) m) ≡ t.leader)
  unfolding reached_if
  there_facts t e =
      let q = given_done asked _ t e in
      let g = gate_done mst xrf _ q.0 in
      let n = named_done mst xrf m ok _ g.2 in
      (g.0, g.1, n.0, n.1, n.2, ap (λ (x : Reached). x.end) q.1, ap (λ (x : Reached). x.place) q.1, ap (λ (x : Reached). x.leader) q.1)

-- a record that was reached with its settled version
pub record BothPlanned (mst xrf : List ℕ) (m : ℕ) (p : Place) (l : Leader) : Type 0 where
  pub gate : OpenFacts mst xrf (record { 0 = next_of mst }) (end_of mst)
  pub both : BothFacts mst xrf m p l

module _ (mst xrf : List ℕ) (m : ℕ) where
  pub reach_refused : (r : Refusal) → reached_of (store mst xrf) m ≡ Err r → UnreachedFacts mst xrf m (fine (store mst xrf) m) r
  unfolding reached_of
  reach_refused r e = unreached_facts mst xrf m (fine (store mst xrf) m) r e

  pub both_unreached : (r : Refusal) → reached_both (store mst xrf) m ≡ Err r → UnreachedFacts mst xrf m (both_fine (store mst xrf) m) r
  unfolding reached_both
  both_unreached r e = unreached_facts mst xrf m (both_fine (store mst xrf) m) r e

  module _ (t : Reached) where
    pub reached_facts : reached_of (store mst xrf) m ≡ Ok t → (t.end ≡ end_of mst) × Planned mst xrf m t.place t.leader
    unfolding reached_of
    reached_facts e =
        let q = there_facts mst xrf m (fine (store mst xrf) m) t e in
        (sym q.5, planned_at mst xrf m t.place t.leader q.0 q.1 q.2 q.3 q.4 q.6 q.7)

    pub reached_both_facts : reached_both (store mst xrf) m ≡ Ok t → (t.end ≡ end_of mst) × BothPlanned mst xrf m t.place t.leader
    unfolding reached_both
    reached_both_facts e =
        let q = there_facts mst xrf m (both_fine (store mst xrf) m) t e in
        let s = simp tests at q.4 in
        let w = planned_at mst xrf m t.place t.leader q.0 q.1 q.2 q.3 s.0 q.6 q.7 in
        (sym q.5, record { gate = w.gate; both = both_from mst xrf m t.place t.leader w.found (rw q.6 at s.1) })
