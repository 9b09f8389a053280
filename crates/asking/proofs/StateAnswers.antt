-- What the calls tell that ask for the next MFN and for the state of a record, by what the gate and
-- the record's test found.
use Rattle.std.specs.Prelude.{Result, Ok, Err}
use Prim.Native.Nat.{ℕ}
use mathlib.Core.Path.{◌≡◌, refl, sym, ◌∙◌}
use mathlib.Core.List.{List, []}
use Rattle.files.specs.declared.control.Control.{Control}
use Rattle.store.specs.Answer.{after}
use Rattle.store.specs.Gate.{gate_of, reached_of}
use Rattle.store.specs.Store.{store}
use Rattle.store.specs.declared.answer.Refusal.{Refusal}
use Rattle.store.specs.declared.gate.Reached.{Reached}
use Rattle.store.proofs.Gates.{gate_shut, gate_open}
use Rattle.store.proofs.Reaching.{reach_refused, reached_facts}
use Rattle.asking.specs.State.{next_told, next_free_of, next_free_answer, state_told, state_of, state_answer}

pub next_is : (mst xrf : List ℕ) (r : Result Control Refusal) → r ≡ gate_of (store mst xrf) → next_told r ≡ next_free_of (store mst xrf)
unfolding next_free_of next_free_answer after
next_is mst xrf (Err e) p = rw ((gate_shut mst xrf e (sym p)).answers []) refl
next_is mst xrf (Ok k) p = let o = gate_open mst xrf k (sym p) in rw (o.lengths, o.control, ← o.next_is, ← o.end_is)

module _ (mst xrf : List ℕ) (m : ℕ) (r : Result Reached Refusal) (p : r ≡ reached_of (store mst xrf) m) where
  pub state_refused : (e : Refusal) → r ≡ Err e → state_told (Err e) ≡ state_of (store mst xrf) m
  unfolding state_of state_answer after
  state_refused e q = rw ((reach_refused mst xrf m e (sym p ∙ q)).answers []) refl

  pub state_found : (t : Reached) → r ≡ Ok t → state_told (Ok (record { mark = t.place.mark; deleted = t.place.deleted })) ≡ state_of (store mst xrf) m
  unfolding state_of state_answer after
  state_found t q =
      let f = (reached_facts mst xrf m t (sym p ∙ q)).1 in
      rw (f.gate.lengths, f.gate.control, f.found.known, f.found.entry, f.found.record_fine_lem)

-- the same of a refusal that a `match` or an `if let` took out
pub state_told_refused : (mst xrf : List ℕ) (m : ℕ) (e : Refusal) → Err e ≡ reached_of (store mst xrf) m → state_told (Err e) ≡ state_of (store mst xrf) m
state_told_refused mst xrf m e p = state_refused mst xrf m (Err e) p e refl

pub ruleset state_answers = (state_refused, state_found)
