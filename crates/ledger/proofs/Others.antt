-- EVERY OTHER MFN'S VIEWS ARE THE SAME after any call on a sound store: the ledger's items of the others stay, and by the theorem the views are
-- the ledger's before and after.
use Rattle.std.specs.Prelude.{Err}
use Prim.Native.Nat.{ℕ, ◌+◌, ◌≤◌}
use native.Mathlib.Omega.{arith}
use mathlib.Core.Path.{◌≡◌, refl, sym, ap, ◌∙◌}
use mathlib.Core.Bool.{Bool, true, false, not, cond}
use mathlib.Core.List.{List}
use mathlib.Core.Logic.{⊎_elim}
use lib.Dec.{ltb}
use lib.ListN.{length}
use borrow.Author.Tests.{eqb-false, lt-ltb, le-ltb}
use Rattle.word.proofs.Overwrite.{lt_or_ge}
use Rattle.word.proofs.Tests.{false_true}
use Rattle.store.specs.Answer.{after, number_of}
use Rattle.store.specs.declared.answer.Refusal.TheVariants.{BadLength, NoMfn}
use Rattle.store.specs.Store.{Store}
use Rattle.views.specs.Views.{occurrences_with}
use Rattle.settling.specs.Theorems.{among}
use Rattle.ledger.specs.Call.{Call, view, view_settled}
use Rattle.ledger.specs.Ledger.{Item, held, new, Ledger, next_mfn, lengths_fine, mfn_in, item_of}
use Rattle.ledger.specs.LedgerAnswers.{settled_each, refusals_l, number_l, the_field, gives_l, outcome_of, answer_l, reply_l}
use Rattle.ledger.specs.LedgerSteps.{Effect, item_set, item_added, applied, touches, effect_of, next_l}
use Rattle.ledger.specs.StoreRun.{next_s}
use Rattle.ledger.specs.LedgerOf.{ledger_of, SoundStore}
use Rattle.ledger.specs.History.{SameViews}
use Rattle.ledger.proofs.Effects.{Does, reads, empties, adds, changes, settles, settles_each, reverts, in_range, after_call, after_each, set_long, set_other, added_long, added_other}
use Rattle.ledger.proofs.History.{answered, called, holds_own}

-- what two ledgers keep of MFN o is the same
record Same (L : Ledger) (o : ℕ) (L' : Ledger) : Type 0 where
  lengths : lengths_fine L' ≡ lengths_fine L
  known : mfn_in L' o ≡ mfn_in L o
  item : mfn_in L o ≡ true → item_of L' o ≡ item_of L o

module _ (L : Ledger) (o : ℕ) where
  same_self : Same L o L
  same_self = record { lengths = refl; known = refl; item = λ e. refl }

  same_set : (k : ℕ) (i : Item) (e : ℕ) → 1 ≤ k → (k ≡ o → ⊥) → Same L o (applied L (item_set k i e))
  unfolding mfn_in lengths_fine
  same_set k i e low ne =
      record {
        lengths = refl;
        known = rw (set_long L k i e);
        item = λ h. let r = in_range L o h in set_other L k i e o low r.0 ne;
      }

  next_other : (n : ℕ) → (n + 1 ≡ o → ⊥) → ltb o (n + 1 + 1) ≡ ltb o (n + 1)
  next_other n ne =
      ⊎_elim (λ l. rw (lt-ltb o (n + 1) l, lt-ltb o (n + 1 + 1) (omega arith)))
      (λ g. rw (le-ltb o (n + 1) g, le-ltb o (n + 1 + 1) (beyond g)))
      (lt_or_ge o (n + 1))
    where
      beyond : n + 1 ≤ o → n + 1 + 1 ≤ o
      beyond g = ⊎_elim (λ l. absurd (ne (omega arith))) (λ h. h) (lt_or_ge o (n + 1 + 1))

  same_more : (i : Item) (e : ℕ) → (next_mfn L ≡ o → ⊥) → Same L o (applied L (item_added i e))
  unfolding mfn_in lengths_fine
  same_more i e ne =
      record {
        lengths = refl;
        known = rw (added_long L i e, next_other (length L.items) ne);
        item = λ h. let r = in_range L o h in added_other L i e o r.0 r.1;
      }

-- one ledger after the other
same_next : {L K M : Ledger} {o : ℕ} → Same L o K → Same K o M → Same L o M
same_next r q = record { lengths = q.lengths ∙ r.lengths; known = q.known ∙ r.known; item = λ e. q.item (r.known ∙ e) ∙ r.item e }

module _ (L : Ledger) (o : ℕ) where
  same_each : (ms : List ℕ) → among o ms ≡ false → Same L o (settled_each L ms)
  same_each ms t =
      after_each (Same L o) ms
      (λ K k a r known. same_next r (same_set K o k _ _ known.low (λ z. false_true (sym t ∙ ap (λ (n : ℕ). among n ms) (sym z) ∙ a))))
      L (same_self L o)

  others_same : (c : Call) → touches L (effect_of L c) o ≡ false → Same L o (next_l L c)
  others_same c t = after_call (Same L o) L c (same_self L o) (λ d. go (effect_of L c) d t)
    where
      go : (e : Effect) → Does L c e → touches L e o ≡ false → Same L o (applied L e)
      go _ reads t = same_self L o
      go _ (empties e) t = absurd (false_true (sym t))
      go _ (adds f fs n e) t = same_more L o (held fs false (new n)) e (eqb-false (next_mfn L) o t)
      go _ (changes k known fs d a) t = same_set L o k _ _ known.low (eqb-false k o t)
      go _ (settles k known e fs d) t = same_set L o k _ _ known.low (eqb-false k o t)
      go _ (reverts k known e r fs) t = same_set L o k _ _ known.low (eqb-false k o t)
      go _ (settles_each ms lent e) t = same_each ms t

-- an MFN that is not there shows nothing
unknown_same : (fine : Bool) (x y : List ℕ) (n k : ℕ)
    → outcome_of (cond (not fine) (Err BadLength) (Err NoMfn)) (the_field x n) ≡ outcome_of (cond (not fine) (Err BadLength) (Err NoMfn)) (the_field y k)
unfolding after number_of occurrences_with
unknown_same true x y n k = refl
unknown_same false x y n k = refl

-- the same item, the same views
module _ (L L' : Ledger) (o : ℕ) (r : Same L o L') (tag occ : ℕ) where
  view_same : answer_l L' (view o tag occ) ≡ answer_l L (view o tag occ)
  unfolding answer_l number_l refusals_l gives_l reply_l
  view_same = go (mfn_in L o) refl
    where
      go : (b : Bool) → mfn_in L o ≡ b → answer_l L' (view o tag occ) ≡ answer_l L (view o tag occ)
      go true e = rw (r.lengths, r.known, r.item e)
      go false e = rw (r.lengths, r.known, e) (unknown_same (lengths_fine L) _ _ _ _)

  settled_view_same : answer_l L' (view_settled o tag occ) ≡ answer_l L (view_settled o tag occ)
  unfolding answer_l number_l refusals_l gives_l reply_l
  settled_view_same = go (mfn_in L o) refl
    where
      go : (b : Bool) → mfn_in L o ≡ b → answer_l L' (view_settled o tag occ) ≡ answer_l L (view_settled o tag occ)
      go true e = rw (r.lengths, r.known, r.item e)
      go false e = rw (r.lengths, r.known, e) (unknown_same (lengths_fine L) _ _ _ _)

pub other_views : (s : Store) → SoundStore s → (c : Call) (o : ℕ) → touches (ledger_of s) (effect_of (ledger_of s) c) o ≡ false → SameViews s (next_s s c) o
other_views s h c o t =
    let own = holds_own s h in
    let next = called own c in
    let same = others_same (ledger_of s) o c t in
    record {
      current = λ tag occ.
          answered next (view o tag occ) ∙ view_same (ledger_of s) (next_l (ledger_of s) c) o same tag occ ∙ sym (answered own (view o tag occ));
      settled = λ tag occ.
          answered next (view_settled o tag occ) ∙ settled_view_same (ledger_of s) (next_l (ledger_of s) c) o same tag occ ∙ sym (answered own (view_settled o tag occ));
    }
