-- From the store's own run to the ledger's words: what a run reports from a sound store, and after a format that is done, is what the ledger
-- answers, by demand 3.
use Rattle.std.specs.Prelude.{Ok, Err}
use Rattle.std.specs.Result.{is_err}
use Prim.Native.Nat.{ℕ}
use native.Mathlib.Omega.{arith}
use mathlib.Core.Path.{◌≡◌, refl, sym, ◌∙◌}
use mathlib.Core.Bool.{Bool, true, false}
use mathlib.Core.List.{List}
use Rattle.word.proofs.Tests.{false_true}
use Rattle.store.specs.Reading.{lengths_permitted}
use Rattle.writing.specs.Refusals.{format_answer}
use Rattle.writing.specs.Calls.{format_leaves}
use Rattle.store.specs.Answer.{Answer}
use Rattle.store.proofs.Gates.{Refusing, refusing, refusing_not_done}
use Rattle.store.specs.Store.{Store, store}
use Rattle.ledger.specs.Call.{format, Outcome}
use Rattle.ledger.specs.StoreRun.{next_s, after_s, result_s}
use Rattle.ledger.proofs.Formatting.{format_done}
use Rattle.ledger.proofs.Theorem.{answers_are_the_ledgers, demand_3}
use Rattle.replay.specs.Calls.{Script, calls_of}
use Rattle.replay.specs.Replay.{Reports, calls_run, Runs, Replays}
use Rattle.replay.specs.Turns.{Finished}
use Rattle.script.specs.declared.report.Stop.TheVariants.{BadLength}
use Rattle.script.specs.declared.report.Replayed.{Replayed}

-- the same outcomes are reported
reports_same : {os os' : List Outcome} {p : Script} {answers shown : List ℕ} {r : Replayed} {answers' shown' : List ℕ} → os ≡ os'
    → Reports os p answers shown r answers' shown' → Reports os' p answers shown r answers' shown'
reports_same e h = rw (← e) h

-- a run, wherever the buffers are sound
pub runs : {s : Store} {answers shown : List ℕ} {p : Script} {r : Replayed} {s' : Store} {answers' shown' : List ℕ}
    → Finished s answers shown p r s' answers' shown' → Runs s p answers shown r s' answers' shown'
runs {s} {p = p} {r = r} f =
    record {
      reports = f.reports;
      left = f.left;
      ledger = λ h. reports_same (answers_are_the_ledgers s h (calls_of p)).answers f.reports;
      kept = λ h. rw f.left (answers_are_the_ledgers s h (calls_run p r)).kept;
    }

-- ---- a replay, from the buffers that format left

-- the code asks whether format is refused
done_where : (a : Answer) → is_err a ≡ false → a ≡ Ok tt
done_where (Ok tt) e = refl
done_where (Err r) e = absurd (false_true (sym e))

refusing_where : (a : Answer) → is_err a ≡ true → Refusing a
refusing_where (Ok tt) e = absurd (false_true e)
refusing_where (Err r) e = refusing r

module _ (mst xrf mst₁ xrf₁ : List ℕ) (a : Answer) (ea : a ≡ format_answer (store mst xrf)) (el : store mst₁ xrf₁ ≡ format_leaves (store mst xrf)) where
  formatted_is : store mst₁ xrf₁ ≡ next_s (store mst xrf) format
  unfolding next_s result_s
  formatted_is = el

  -- format is done exactly where both lengths are permitted
  done_permitted : a ≡ Ok tt → lengths_permitted (store mst xrf) ≡ true
  unfolding format_answer
  done_permitted d = go (lengths_permitted (store mst xrf)) refl
    where
      go : (b : Bool) → lengths_permitted (store mst xrf) ≡ b → lengths_permitted (store mst xrf) ≡ true
      go true h = h
      go false h = absurd (let z : ◌≡◌ {A = ℕ} 0 1 = cc (rw h at (sym d ∙ ea)) in omega arith)

  refusing_permitted : Refusing a → lengths_permitted (store mst xrf) ≡ false
  refusing_permitted h = go (lengths_permitted (store mst xrf)) refl
    where
      go : (b : Bool) → lengths_permitted (store mst xrf) ≡ b → lengths_permitted (store mst xrf) ≡ false
      go true k = absurd (refusing_not_done a h (ea ∙ format_done mst xrf k))
      go false k = k

  -- it is done, and the list is run
  pub replay_ran : (b : Bool) (answers shown : List ℕ) (p : Script) (r : Replayed) (mst' xrf' answers' shown' : List ℕ) → b ≡ is_err a → b ≡ false
      → Runs (store mst₁ xrf₁) p answers shown r (store mst' xrf') answers' shown' → Replays (store mst xrf) p answers shown r (store mst' xrf') answers' shown'
  replay_ran b answers shown p r mst' xrf' answers' shown' e n f =
      let d : a ≡ Ok tt = done_where a (sym e ∙ n) in
      let g : Runs (next_s (store mst xrf) format) p answers shown r (store mst' xrf') answers' shown' = rw (← formatted_is) f in
      record {
        refused = λ n. absurd (false_true (sym n ∙ done_permitted d));
        ledger = λ h. reports_same (demand_3 mst xrf h (calls_of p)).answers g.reports;
        left = g.left;
        kept = λ h. rw g.left (demand_3 mst xrf h (calls_run p r)).kept;
      }

  -- it is refused, and nothing is run
  pub replay_refused : (b : Bool) (answers shown : List ℕ) (p : Script) → b ≡ is_err a → b ≡ true
      → Replays (store mst xrf) p answers shown (record { stop = BadLength; calls = 0 }) (store mst₁ xrf₁) answers shown
  unfolding after_s
  replay_refused b answers shown p e v =
      let h : lengths_permitted (store mst xrf) ≡ false = refusing_permitted (refusing_where a (sym e ∙ v)) in
      record {
        refused = λ n. record { stop = refl; calls = refl; numbers = refl; fields = refl };
        ledger = λ k. absurd (false_true (sym h ∙ k));
        left = formatted_is;
        kept = λ k. absurd (false_true (sym h ∙ k));
      }

pub ruleset replays = (replay_ran, replay_refused)
