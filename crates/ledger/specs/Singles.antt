-- A list of MFNs beside the single calls that it stands for. Request C-13: it must leave the same bytes and answers as settling each in order.
use Rattle.std.specs.Prelude.{Ok, Err}
use Rattle.std.specs.Prelude.{ℕ, ◌≡◌, true, List, map, length}
use Rattle.store.specs.Store.{Store}
use Rattle.store.specs.Answer.{Answer}
use Rattle.store.specs.declared.answer.Refusal.TheVariants.{NotPending}
use Rattle.settling.specs.SettleList.{lists_right}
use Rattle.ledger.specs.Call.{Call, settle, settle_list, Outcome, plain, listed}
use Rattle.ledger.specs.StoreRun.{answer_s, next_s, answers_s, after_s}
use Rattle.ledger.specs.LedgerOf.{SoundStore}

-- the single calls
abbrev pub singles : List ℕ → List Call
singles ms = map settle ms

-- and what each of a list of calls answers
abbrev pub answers_only : List Outcome → List Answer
answers_only os = map (λ (o : Outcome). o.answer) os

-- THE CLAIM, of any two buffers and every list that is not refused
pub record AsSingles (s : Store) (ms : List ℕ) (lent : ℕ) : Type 0 where
  pub answers : answer_s s (settle_list ms lent) ≡ listed (Ok tt) (answers_only (answers_s s (singles ms)))
  pub bytes : next_s s (settle_list ms lent) ≡ after_s s (singles ms)

abbrev pub ListAsSingles : Type 0
ListAsSingles = (s : Store) (ms : List ℕ) (lent : ℕ) → lists_right (length ms) lent ≡ true → AsSingles s ms lent

-- on a sound store, where no earlier check refuses it, the same MFN again after a 0 gets 10, whatever is settled between
abbrev pub AgainTen : Type 0
AgainTen =
    (s : Store) → SoundStore s → (m : ℕ) → answer_s s (settle m) ≡ plain (Ok tt)
    → (ms : List ℕ) → answer_s (after_s (next_s s (settle m)) (singles ms)) (settle m) ≡ plain (Err NotPending)
