-- From one call to a list of calls. What one call keeps is a record, `Step`; given it for every sound store and every call, the answers
-- to a whole list are the ledger's, by one induction.
use mathlib.Core.Path.{◌≡◌, refl, ap, ◌∙◌}
use mathlib.Core.List.{List, [], ◌∷◌}
use Rattle.ledger.specs.Call.{Call}
use Rattle.ledger.specs.Ledger.{Ledger}
use Rattle.ledger.specs.LedgerAnswers.{answer_l}
use Rattle.ledger.specs.LedgerSteps.{next_l, answers_l, after_l}
use Rattle.store.specs.Store.{Store}
use Rattle.ledger.specs.StoreRun.{answer_s, next_s, answers_s, after_s}
use Rattle.ledger.specs.LedgerOf.{ledger_of, SoundStore}

-- one call on a sound store: its answer is the ledger's, its bytes say the ledger's next state, and they are sound
pub record Step (s : Store) (c : Call) : Type 0 where
  pub answer : answer_s s c ≡ answer_l (ledger_of s) c
  pub next : ledger_of (next_s s c) ≡ next_l (ledger_of s) c
  pub sound : SoundStore (next_s s c)

-- a list of calls from a sound store
pub record Run (s : Store) (cs : List Call) : Type 0 where
  pub answers : answers_s s cs ≡ answers_l (ledger_of s) cs
  pub last : ledger_of (after_s s cs) ≡ after_l (ledger_of s) cs
  pub sound : SoundStore (after_s s cs)

pub run_all : ((s : Store) → SoundStore s → (c : Call) → Step s c) → (s : Store) → SoundStore s → (cs : List Call) → Run s cs
unfolding answers_s answers_l after_s after_l
run_all step s h [] = record { answers = refl; last = refl; sound = h }
run_all step s h (c ∷ cs) =
    let one = step s h c in
    let rest = run_all step (next_s s c) one.sound cs in
    record {
      answers = rw (one.answer, rest.answers, one.next);
      last = rest.last ∙ ap (λ (L : Ledger). after_l L cs) one.next;
      sound = rest.sound;
    }
