-- A LIST OF MFNS ANSWERS AND LEAVES WHAT ITS SINGLE CALLS DO, of any two buffers; and on a sound store an MFN that was settled gets 10, since its
-- mark in the ledger stays settled whatever is settled besides.
use Rattle.std.specs.Prelude.{Ok, Err}
use Prim.Native.Nat.{ℕ}
use native.Mathlib.Decide.{ℕ_discrete}
use mathlib.Core.Path.{◌≡◌, refl, ap, ◌∙◌}
use mathlib.Core.List.{List, [], ◌∷◌}
use Rattle.store.specs.Store.{Store}
use Rattle.store.specs.Answer.{number_of, after, Answer}
use Rattle.store.specs.declared.answer.Refusal.TheVariants.{NotPending}
use Rattle.store.proofs.Gates.{after_done}
use Rattle.writing.specs.Calls.{settle_leaves}
use Rattle.writing.specs.Refusals.{settle_answer}
use Rattle.settling.specs.SettleList.{settle_each_answers, settle_each_leaves, settle_list_answer, settle_list_leaves}
use Rattle.ledger.specs.Call.{settle, Outcome, plain, listed}
use Rattle.ledger.specs.Ledger.{Marking, settled, Ledger, item_of, kept_fields, kept_deleted}
use Rattle.ledger.specs.LedgerAnswers.{settled_item, settled_one, settled_each, refusals_l, number_l, gives_l, answer_l, reply_l}
use Rattle.ledger.specs.LedgerSteps.{item_set, applied, effect_of, next_l, after_l}
use Rattle.ledger.specs.StoreRun.{answer_s, next_s, answers_s, after_s, result_s}
use Rattle.ledger.specs.LedgerOf.{ledger_of}
use Rattle.ledger.specs.Singles.{singles, answers_only, ListAsSingles, AgainTen}
use Rattle.ledger.proofs.Theorem.{answers_are_the_ledgers}
use Rattle.ledger.proofs.Effects.{Known, known_in, settle_known, one_is, after_each}
use Rattle.ledger.proofs.Between.{Marked, marked_own, marked_other}
use Rattle.ledger.proofs.History.{answered, done_is}

-- ---- the bytes and the answers

singles_leave : (s : Store) (ms : List ℕ) → settle_each_leaves s ms ≡ after_s s (singles ms)
unfolding settle_each_leaves after_s next_s result_s
singles_leave s [] = refl
singles_leave s (m ∷ ms) = singles_leave (settle_leaves s m) ms

singles_answer : (s : Store) (ms : List ℕ) → settle_each_answers s ms ≡ answers_only (answers_s s (singles ms))
unfolding settle_each_answers answers_s answer_s next_s result_s
singles_answer s [] = refl
singles_answer s (m ∷ ms) = ap (λ (l : List Answer). settle_answer s m ∷ l) (singles_answer (settle_leaves s m) ms)

pub list_as_singles : ListAsSingles
unfolding answer_s next_s result_s settle_list_answer settle_list_leaves after number_of
list_as_singles s ms lent h =
    record { answers = rw h (ap (listed (Ok tt)) (singles_answer s ms)); bytes = rw h (singles_leave s ms) }

-- ---- the same MFN again

module _ (m : ℕ) where
  abbrev IsSettled : Marking → Type 0
  IsSettled k = k ≡ settled

  own_settled : (L : Ledger) → Known L m → Marked IsSettled m (applied L (item_set m (settled_item (item_of L m)) L.end))
  own_settled L known = marked_own IsSettled m L known (kept_fields (item_of L m)) (kept_deleted (item_of L m)) settled refl L.end

  -- it becomes settled, and stays so
  settled_first : (L : Ledger) → number_l L (settle m) ≡ Ok tt → Marked IsSettled m (next_l L (settle m))
  unfolding next_l effect_of
  settled_first L d = rw (after_done (number_l L (settle m)) (applied L (effect_of L (settle m))) L d) (own_settled L (settle_known L m d))

  settled_through : (L : Ledger) → Marked IsSettled m L → (ms : List ℕ) → Marked IsSettled m (settled_each L ms)
  settled_through L w ms = after_each (Marked IsSettled m) ms (λ K k a v known. go K v k known (ℕ_discrete k m)) L w
    where
      go : (K : Ledger) → Marked IsSettled m K → (k : ℕ) → Known K k → Dec (k ≡ m) → Marked IsSettled m (applied K (item_set k (settled_item (item_of K k)) K.end))
      go K v k known (yes z) = rw z (own_settled K v.known)
      go K v k known (no ne) = marked_other IsSettled m K v k _ _ known.low ne

  singles_settle : (L : Ledger) (ms : List ℕ) → settled_each L ms ≡ after_l L (singles ms)
  unfolding settled_each after_l
  singles_settle L [] = refl
  singles_settle L (k ∷ ms) = singles_settle (settled_one L k) ms ∙ ap (λ (K : Ledger). after_l K (singles ms)) (one_is L k)

  -- so the row of 10 is the first that applies
  ten : (K : Ledger) → Marked IsSettled m K → answer_l K (settle m) ≡ plain (Err NotPending)
  unfolding answer_l number_l refusals_l gives_l reply_l
  ten K w = rw (w.known.lengths, known_in w.known, w.item, w.kind)

pub again_ten : AgainTen
unfolding after_s after_l
again_ten s h m e ms =
    let d = done_is s h (settle m) (ap (λ (o : Outcome). o.answer) e) in
    let w = settled_through m (next_l (ledger_of s) (settle m)) (settled_first m (ledger_of s) d) ms in
    answered (answers_are_the_ledgers s h (settle m ∷ singles ms)).kept (settle m)
    ∙ ten m (after_l (next_l (ledger_of s) (settle m)) (singles ms)) (rw (← singles_settle m (next_l (ledger_of s) (settle m)) ms) w)
