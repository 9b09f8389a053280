-- What a call does to the ledger, taken apart once, by call. What is said of the ledger after a call (what is pending stays, other MFNs stay,
-- nothing becomes gone) is then shown by the few things that a call can do.
use Rattle.std.specs.Prelude.{Ok, Err}
use Prim.Native.Nat.{ℕ, ◌+◌, ◌-◌, ◌≤◌, ◌<◌}
use native.Mathlib.Omega.{arith}
use mathlib.Core.Path.{◌≡◌, refl}
use mathlib.Core.Logic.{inl, inr, ⊎_elim}
use mathlib.Core.Bool.{Bool, true, false, not}
use mathlib.Core.List.{List, [], ◌∷◌, ◌++◌}
use lib.ListN.{length, set, length-set, length-append, get_or-append}
use lib.Seq.{get_or-set_same, get_or-set_other, get_or_at}
use Rattle.word.proofs.Tests.{tests}
use Rattle.record.specs.Fields.{Field}
use Rattle.drafts.specs.Bytes.{need_for}
use Rattle.store.specs.Answer.{Answer}
use Rattle.store.specs.declared.answer.Refusal.TheVariants.{BadLength, NoMfn, Deleted, NeverSettled}
use Rattle.store.proofs.Gates.{after_cases}
use Rattle.store.proofs.Lowest.{Applies}
use Rattle.settling.specs.Theorems.{among}
use Rattle.settling.proofs.Theorems.{among_first, among_behind}
use Rattle.drafts.specs.Draft.{Draft, fields_in}
use Rattle.ledger.specs.Call.{Call, format, view, view_settled, create, update, delete, settle, revert, check, migrate, settle_list, recount}
use Rattle.ledger.specs.Ledger.{new, Item, gone, held, Ledger, next_mfn, lengths_fine, mfn_in, item_of, kept_deleted, kept_mark, is_settled_mark, is_new_mark}
use Rattle.ledger.specs.LedgerAnswers.{appends, settled_item, settled_one, settled_each, refusals_l, number_l, reply_l}
use Rattle.ledger.specs.LedgerSteps.{Effect, stays, emptied, item_set, item_added, each_settled, applied, version, settled_as, effect_of, next_l}
use Rattle.ledger.proofs.Ascending.{number_lowest}

-- the lengths are right, and MFN m was created
pub record Known (L : Ledger) (m : ℕ) : Type 0 where
  pub lengths : lengths_fine L ≡ true
  pub low : 1 ≤ m
  pub high : m < next_mfn L

pub in_range : (L : Ledger) (m : ℕ) → mfn_in L m ≡ true → (1 ≤ m) × (m < next_mfn L)
unfolding mfn_in
in_range L m e = let q = simp tests at e in (q.0, q.1)

pub known_in : {L : Ledger} {m : ℕ} → Known L m → mfn_in L m ≡ true
unfolding mfn_in
known_in k = simp tests (k.low, k.high)

-- ---- what a call that is done does

pub data Does (L : Ledger) (c : Call) : Effect → Type 0 where
  reads : Does L c stays
  empties : c ≡ format → Does L c emptied
  -- one more, never settled
  adds : lengths_fine L ≡ true → (fs : List Field) (n e : ℕ) → Does L c (item_added (held fs false (new n)) e)
  -- a new version of MFN k
  changes : (k : ℕ) → Known L k → (fs : List Field) (deleted appended : Bool) → Does L c (version L k fs deleted appended)
  -- MFN k becomes settled
  settles : (k : ℕ) → Known L k → c ≡ settle k → (fs : List Field) (deleted : Bool) → Does L c (settled_as L k fs deleted)
  -- each MFN of a list does
  settles_each : (ms : List ℕ) (lent : ℕ) → c ≡ settle_list ms lent → Does L c (each_settled ms)
  reverts : (k : ℕ) → Known L k → c ≡ revert k → is_new_mark (kept_mark (item_of L k)) ≡ false → (fs : List Field) → Does L c (settled_as L k fs false)

module _ (L : Ledger) (c : Call) (d : number_l L c ≡ Ok tt) where
  -- no row of its table applies
  row : (a : Answer) (b : Bool) → (b ≡ true → Applies (refusals_l L c) a) → b ≡ false
  row a true h = absurd ((number_lowest L c).none d a (h refl))
  row a false h = refl

  row_not : (a : Answer) (b : Bool) → (not b ≡ true → Applies (refusals_l L c) a) → b ≡ true
  row_not a true h = refl
  row_not a false h = absurd ((number_lowest L c).none d a (h refl))

  permitted : (not (lengths_fine L) ≡ true → Applies (refusals_l L c) (Err BadLength)) → lengths_fine L ≡ true
  permitted f = row_not (Err BadLength) (lengths_fine L) f

  known : (k : ℕ) → (not (lengths_fine L) ≡ true → Applies (refusals_l L c) (Err BadLength)) → (not (mfn_in L k) ≡ true → Applies (refusals_l L c) (Err NoMfn)) → Known L k
  known k f g =
      let r = in_range L k (row_not (Err NoMfn) (mfn_in L k) g) in
      record { lengths = permitted f; low = r.0; high = r.1 }

pub create_lengths : (L : Ledger) (f : Draft) → number_l L (create f) ≡ Ok tt → lengths_fine L ≡ true
unfolding refusals_l reply_l
create_lengths L f d = permitted L (create f) d (λ e. inl (refl, e))

pub update_known : (L : Ledger) (m : ℕ) (f : Draft) → number_l L (update m f) ≡ Ok tt → Known L m
unfolding refusals_l reply_l
update_known L m f d = known L (update m f) d m (λ e. inl (refl, e)) (λ e. inr (inr (inl (refl, e))))

pub delete_known : (L : Ledger) (m : ℕ) → number_l L (delete m) ≡ Ok tt → Known L m
unfolding refusals_l reply_l
delete_known L m d = known L (delete m) d m (λ e. inl (refl, e)) (λ e. inr (inl (refl, e)))

-- and it was not deleted
pub delete_live : (L : Ledger) (m : ℕ) → number_l L (delete m) ≡ Ok tt → kept_deleted (item_of L m) ≡ false
unfolding refusals_l reply_l
delete_live L m d = row L (delete m) d (Err Deleted) (kept_deleted (item_of L m)) (λ e. inr (inr (inr (inl (refl, e)))))

pub settle_known : (L : Ledger) (m : ℕ) → number_l L (settle m) ≡ Ok tt → Known L m
unfolding refusals_l reply_l
settle_known L m d = known L (settle m) d m (λ e. inl (refl, e)) (λ e. inr (inl (refl, e)))

pub revert_known : (L : Ledger) (m : ℕ) → number_l L (revert m) ≡ Ok tt → Known L m
unfolding refusals_l reply_l
revert_known L m d = known L (revert m) d m (λ e. inl (refl, e)) (λ e. inr (inl (refl, e)))

pub does : (L : Ledger) (c : Call) → number_l L c ≡ Ok tt → Does L c (effect_of L c)
unfolding effect_of refusals_l reply_l
does L format d = empties refl
does L (view m tag occ) d = reads
does L (view_settled m tag occ) d = reads
does L (create f) d = adds (create_lengths L f d) _ _ _
does L (update m f) d = changes m (update_known L m f d) _ _ (appends (kept_mark (item_of L m)) (need_for (fields_in f)))
does L (delete m) d = changes m (delete_known L m d) _ _ (is_settled_mark (kept_mark (item_of L m)))
does L (settle m) d = settles m (settle_known L m d) refl _ _
does L (revert m) d =
    reverts m (revert_known L m d) refl
    (row L (revert m) d (Err NeverSettled) (is_new_mark (kept_mark (item_of L m))) (λ e. inr (inr (inr (inr (inl (refl, e))))))) _
does L check d = reads
does L migrate d = reads
does L (settle_list ms lent) d = settles_each ms lent refl
does L recount d = reads

-- what holds where the call is refused, and after what it does where it is done, holds after it
after_either : (P : Ledger → Type 0) (L : Ledger) (c : Call) → P L → (number_l L c ≡ Ok tt → P (applied L (effect_of L c))) → P (next_l L c)
unfolding next_l
after_either P L c p f =
    ⊎_elim (λ d. rw d.1 (f d.0)) (λ r. rw r.1 p) (after_cases (number_l L c) (applied L (effect_of L c)) L)

pub after_call : (P : Ledger → Type 0) (L : Ledger) (c : Call) → P L → (Does L c (effect_of L c) → P (applied L (effect_of L c))) → P (next_l L c)
after_call P L c p f = after_either P L c p (λ d. f (does L c d))

-- ---- a list of MFNs: what holds after each settle that is done holds after the list

pub one_is : (L : Ledger) (m : ℕ) → settled_one L m ≡ next_l L (settle m)
unfolding settled_one next_l number_l refusals_l reply_l effect_of
one_is L m = refl

pub after_each : (P : Ledger → Type 0) (ms : List ℕ)
    → ((K : Ledger) (m : ℕ) → among m ms ≡ true → P K → Known K m → P (applied K (item_set m (settled_item (item_of K m)) K.end)))
    → (L : Ledger) → P L → P (settled_each L ms)
unfolding settled_each effect_of
after_each P [] f L p = p
after_each P (m ∷ ms) f L p = after_each P ms (λ K k a. f K k (among_behind k m ms a)) (settled_one L m) (rw (one_is L m) first)
  where
    first : P (next_l L (settle m))
    first = after_either P L (settle m) p (λ d. f L m (among_first m ms) p (settle_known L m d))

-- ---- an item set, or added: its own, and those of the others

module _ (L : Ledger) (k : ℕ) (i : Item) (e : ℕ) where
  pub set_long : length (set L.items (k - 1) i) ≡ length L.items
  set_long = length-set L.items (k - 1) i

  pub set_own : 1 ≤ k → k < next_mfn L → item_of (applied L (item_set k i e)) k ≡ i
  set_own low high = get_or-set_same L.items (k - 1) i gone (omega arith)

  pub set_other : (o : ℕ) → 1 ≤ k → 1 ≤ o → (k ≡ o → ⊥) → item_of (applied L (item_set k i e)) o ≡ item_of L o
  set_other o low lo ne = get_or-set_other L.items (k - 1) (o - 1) i gone (λ z. ne (omega arith))

module _ (L : Ledger) (i : Item) (e : ℕ) where
  pub added_long : length (L.items ++ (i ∷ [])) ≡ length L.items + 1
  added_long = length-append L.items (i ∷ [])

  pub added_own : item_of (applied L (item_added i e)) (next_mfn L) ≡ i
  added_own = get_or_at L.items i [] gone (length L.items + 1 - 1) (omega arith)

  pub added_other : (o : ℕ) → 1 ≤ o → o < next_mfn L → item_of (applied L (item_added i e)) o ≡ item_of L o
  added_other o lo hi = get_or-append L.items (i ∷ []) gone (o - 1) (omega arith)
