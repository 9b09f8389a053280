-- In a list of calls from format, 1, 2, 6, 7, 8 and 14 never come from document 01's own calls: the lengths stay right, and nothing makes a record
-- gone. 15 comes from views alone, and from them neither 13 nor another number that is not said of fields. From a migration nothing but 2 comes,
-- from a list of MFNs 0 and 17, and in it what its settles answer.
use Rattle.std.specs.Prelude.{Ok, Err}
use Prim.Native.Nat.{ℕ, ◌≤◌, ◌<◌}
use native.Mathlib.Omega.{arith}
use native.Mathlib.Decide.{ℕ_discrete}
use mathlib.Core.Path.{◌≡◌, refl, sym, ap, ◌∙◌}
use mathlib.Core.Bool.{Bool, true, false, not}
use mathlib.Core.List.{List, [], ◌∷◌}
use mathlib.Core.Logic.{⊎_elim}
use lib.ListN.{length}
use Rattle.word.proofs.Overwrite.{lt_or_ge}
use borrow.Author.Tests.{not-false}
use Rattle.word.proofs.Tests.{tests, false_true}
use Rattle.store.specs.Answer.{Row, refuse, lowest, number_of}
use Rattle.store.specs.Reading.{lengths_permitted}
use Rattle.store.specs.declared.answer.Refusal.{Refusal}
use Rattle.store.specs.declared.answer.Refusal.TheVariants.{NoMfn}
use Rattle.store.specs.Store.{store}
use Rattle.store.proofs.Gates.{after_cases}
use Rattle.ledger.specs.Call.{Call, format, view, view_settled, create, update, delete, settle, revert, check, migrate, settle_list, recount}
use Rattle.ledger.specs.Ledger.{new, Item, held, Ledger, next_mfn, empty, lengths_fine, mfn_in, item_of, is_gone_item}
use Rattle.ledger.specs.LedgerAnswers.{measured, named, settle_rows, settled_one, answers_each, refusals_l, number_l, gives_l, answer_l, reply_l}
use Rattle.ledger.specs.LedgerSteps.{Effect, item_set, item_added, applied, effect_of, next_l, answers_l}
use Rattle.ledger.specs.History.{MayCome, EachOwn, no_answer, one_more, AllMayCome, none, more, NeverCome}
use Rattle.ledger.proofs.Effects.{Known, Does, reads, empties, adds, changes, settles, settles_each, reverts, in_range, after_call, one_is, after_each, set_long, set_own, set_other, added_long, added_own, added_other}
use Rattle.ledger.proofs.Theorem.{demand_3}
use Rattle.ledger.proofs.History.{number_is}

-- lengths are right, and no MFN is gone
pub record Whole (L : Ledger) : Type 0 where
  pub lengths : lengths_fine L ≡ true
  pub held : (o : ℕ) → mfn_in L o ≡ true → is_gone_item (item_of L o) ≡ false

pub whole_empty : (mst xrf : ℕ) → lengths_fine (empty mst xrf) ≡ true → Whole (empty mst xrf)
unfolding empty mfn_in
whole_empty mst xrf h = record { lengths = h; held = λ o q. let r = simp tests at q in absurd (omega arith) }

-- ---- the rows of a table that apply

data RowsMay (c : Call) : List Row → Type 0 where
  no_row : MayCome c (Ok tt) → RowsMay c []
  row : {r : Refusal} {b : Bool} {rs : List Row} → (b ≡ true → MayCome c (Err r)) → (b ≡ false → RowsMay c rs) → RowsMay c (refuse r b ∷ rs)

lowest_may : (c : Call) (rs : List Row) → RowsMay c rs → MayCome c (lowest rs)
lowest_may c _ (no_row p) = p
lowest_may c _ (row {r} {b} {rs} p q) = go b p (λ e. lowest_may c rs (q e))
  where
    go : (b : Bool) → (b ≡ true → MayCome c (Err r)) → (b ≡ false → MayCome c (lowest rs)) → MayCome c (lowest (refuse r b ∷ rs))
    go true p q = p refl
    go false p q = q refl

module _ (L : Ledger) (w : Whole L) where
  module _ {c : Call} where
    -- a row whose answer may come
    may : {r : Refusal} {b : Bool} {rs : List Row} → MayCome c (Err r) → RowsMay c rs → RowsMay c (refuse r b ∷ rs)
    may p q = row (λ e. p) (λ e. q)

    -- 1 does not apply, nor does 7
    no_length : {rs : List Row} → RowsMay c rs → RowsMay c (measured L rs)
    no_length q = row (λ e. absurd (false_true (sym (ap not w.lengths) ∙ e))) (λ e. q)

    no_gone : (m : ℕ) {rs : List Row} → MayCome c (Err NoMfn) → RowsMay c rs → RowsMay c (named L m rs)
    no_gone m p q = row (λ e. p) (λ e. row (λ g. absurd (false_true (sym (w.held m (not-false (mfn_in L m) e)) ∙ g))) (λ g. q))

  rows_may : (c : Call) → RowsMay c (refusals_l L c)
  unfolding refusals_l number_of reply_l
  rows_may format = no_length (no_row refl)
  rows_may (view m tag occ) = no_length (no_gone m refl (may refl (may refl (may refl (no_row refl)))))
  rows_may (view_settled m tag occ) = no_length (no_gone m refl (may refl (may refl (may refl (may refl (no_row refl))))))
  rows_may (create d) = no_length (may refl (may refl (may refl (no_row refl))))
  rows_may (update m d) = no_length (may refl (no_gone m refl (may refl (may refl (no_row refl)))))
  rows_may (delete m) = no_length (no_gone m refl (may refl (may refl (no_row refl))))
  rows_may (settle m) = no_length (no_gone m refl (may refl (no_row refl)))
  rows_may (revert m) = no_length (no_gone m refl (may refl (may refl (no_row refl))))
  rows_may check = no_length (no_row refl)
  rows_may migrate = no_length (row (λ e. refl) (λ e. absurd (false_true (sym e))))
  rows_may (settle_list ms lent) = may refl (no_row refl)
  rows_may recount = no_length (no_row refl)

  answer_may : (c : Call) → MayCome c (answer_l L c).answer
  unfolding number_l
  answer_may c = rw (number_is L c) (lowest_may c (refusals_l L c) (rows_may c))

  -- ---- it stays so

  pub whole_set : (k : ℕ) (i : Item) (e : ℕ) → Known L k → is_gone_item i ≡ false → Whole (applied L (item_set k i e))
  unfolding lengths_fine mfn_in
  whole_set k i e known h = record { lengths = w.lengths; held = λ o q. go o q (ℕ_discrete k o) }
    where
      go : (o : ℕ) → mfn_in (applied L (item_set k i e)) o ≡ true → Dec (k ≡ o) → is_gone_item (item_of (applied L (item_set k i e)) o) ≡ false
      go o q (yes z) = rw (← z, set_own L k i e known.low known.high) h
      go o q (no ne) =
          let old : mfn_in L o ≡ true = rw (set_long L k i e) at q in
          rw (set_other L k i e o known.low (in_range L o old).0 ne) (w.held o old)

  whole_more : (i : Item) (e : ℕ) → is_gone_item i ≡ false → Whole (applied L (item_added i e))
  unfolding lengths_fine mfn_in
  whole_more i e h = record { lengths = w.lengths; held = λ o q. let r = simp tests at q in go o r.0 r.1 }
    where
      go : (o : ℕ) → 1 ≤ o → o < next_mfn (applied L (item_added i e)) → is_gone_item (item_of (applied L (item_added i e)) o) ≡ false
      go o low high =
          ⊎_elim
          (λ l. rw (added_other L i e o low l) (w.held o (simp tests (low, l))))
          (λ g. let long = added_long L i e in let z : o ≡ next_mfn L = omega arith in rw (z, added_own L i e) h)
          (lt_or_ge o (next_mfn L))

  same_lengths : lengths_fine (empty L.mst_length L.xrf_length) ≡ true
  unfolding empty lengths_fine
  same_lengths = w.lengths

pub whole_next : (L : Ledger) → Whole L → (c : Call) → Whole (next_l L c)
whole_next L w c = after_call Whole L c w (go (effect_of L c))
  where
    go : (e : Effect) → Does L c e → Whole (applied L e)
    go _ reads = w
    go _ (empties e) = whole_empty L.mst_length L.xrf_length (same_lengths L w)
    go _ (adds f fs n e) = whole_more L w (held fs false (new n)) e refl
    go _ (changes k known fs d a) = whole_set L w k _ _ known refl
    go _ (settles k known e fs d) = whole_set L w k _ _ known refl
    go _ (settles_each ms lent e) = after_each Whole ms (λ K m a v known. whole_set K v m _ _ known refl) L w
    go _ (reverts k known e r fs) = whole_set L w k _ _ known refl

-- ---- the answers that a call lists

-- each settle's, along the list
each_own : (L : Ledger) → Whole L → (ms : List ℕ) → EachOwn (answers_each L ms)
unfolding answers_each refusals_l reply_l
each_own L w [] = no_answer
each_own L w (m ∷ ms) = one_more (own L w m) (each_own (settled_one L m) (rw (one_is L m) (whole_next L w (settle m))) ms)
  where
    own : (L : Ledger) → Whole L → (m : ℕ) → MayCome (settle m) (lowest (settle_rows L m))
    own L w m = lowest_may (settle m) (settle_rows L m) (rows_may L w (settle m))

-- a call but a list of MFNs lists none
lists_own : (L : Ledger) → Whole L → (c : Call) → EachOwn (answer_l L c).answers
unfolding answer_l gives_l reply_l
lists_own L w format = no_answer
lists_own L w (view m tag occ) = no_answer
lists_own L w (view_settled m tag occ) = no_answer
lists_own L w (create d) = no_answer
lists_own L w (update m d) = no_answer
lists_own L w (delete m) = no_answer
lists_own L w (settle m) = no_answer
lists_own L w (revert m) = no_answer
lists_own L w check = no_answer
lists_own L w migrate = no_answer
lists_own L w recount = no_answer
lists_own L w (settle_list ms lent) =
    ⊎_elim (λ d. rw d.1 (each_own L w ms)) (λ r. rw r.1 no_answer) (after_cases (number_l L (settle_list ms lent)) (answers_each L ms) [])

all_may_come : (L : Ledger) → Whole L → (cs : List Call) → AllMayCome cs (answers_l L cs)
unfolding answers_l
all_may_come L w [] = none
all_may_come L w (c ∷ cs) = more (answer_may L w c) (lists_own L w c) (all_may_come (next_l L c) (whole_next L w c) cs)

pub permitted : (mst xrf : List ℕ) → lengths_permitted (store mst xrf) ≡ true → lengths_fine (empty (length mst) (length xrf)) ≡ true
unfolding lengths_permitted lengths_fine empty
permitted mst xrf h = h

-- IN A LIST FROM FORMAT, 1, 2, 6, 7, 8 AND 14 NEVER COME from document 01's own calls: the library's own answers
pub never_come : (mst xrf : List ℕ) → lengths_permitted (store mst xrf) ≡ true → NeverCome mst xrf
never_come mst xrf h cs =
    rw (demand_3 mst xrf h cs).answers
    (all_may_come (empty (length mst) (length xrf)) (whole_empty (length mst) (length xrf) (permitted mst xrf h)) cs)
