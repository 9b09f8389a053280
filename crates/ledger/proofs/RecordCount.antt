-- RECCNT and the ledger: of a sound store it is the number of the ledger's items that are neither deleted nor gone, and so after every list of calls.
-- What an item that is set or added makes of that number is a law on lists. THE HISTORY KNOWS THAT NUMBER (`counts_history`): along a list of calls
-- it says of every MFN created whether it is deleted, and how many are not; each accepted call keeps both, and a refused one changes neither.
use Rattle.std.specs.Prelude.{Ok}
use Prim.Native.Nat.{ℕ, zero, suc, ◌+◌, ◌-◌, ◌≤◌, ◌<◌}
use native.Mathlib.Omega.{arith}
use native.Mathlib.Decide.{ℕ_discrete}
use mathlib.Core.Path.{◌≡◌, refl, sym, ap, ◌∙◌}
use mathlib.Core.Logic.{⊎_elim}
use mathlib.Core.Bool.{Bool, true, false, not, cond}
use mathlib.Core.List.{List, [], ◌∷◌, ◌++◌}
use lib.Dec.{eqb}
use lib.IntN.{ℤ, pos, suc_ℤ}
use lib.ListN.{length, get_or, set}
use borrow.Author.Tests.{eq-eqb, ne_eqb}
use Rattle.word.proofs.Tests.{tests, false_true}
use Rattle.layout.specs.declared.entry.Entry.{Entry}
use Rattle.layout.specs.declared.entry.Entry.TheVariants.{Gone, Malformed, At}
use Rattle.files.specs.Control.{next_of, count_of}
use Rattle.record.specs.Fields.{Field}
use Rattle.drafts.specs.Draft.{Draft}
use Rattle.store.specs.Store.{Store, store}
use Rattle.store.specs.Answer.{number_of, Answer}
use Rattle.store.specs.Reading.{lengths_permitted, entry_for}
use Rattle.store.proofs.Gates.{Refusing, done_number, after_cases}
use Rattle.soundness.specs.Sound.{bit, sum_to, is_live, live_count}
use Rattle.soundness.proofs.SoundEntries.{stands_counted}
use Rattle.soundness.proofs.Sums.{sum_same}
use Rattle.ledger.specs.Call.{Call, format, view, view_settled, create, update, delete, settle, revert, check, migrate, settle_list, recount}
use Rattle.ledger.specs.Ledger.{Marking, settled, Item, gone, held, Ledger, next_mfn, empty, mfn_in, item_of, is_gone_item, kept_deleted, settled_fields}
use Rattle.ledger.specs.LedgerAnswers.{number_l, answer_l}
use Rattle.ledger.specs.LedgerSteps.{item_set, item_added, applied, effect_of, next_l, answers_l, after_l}
use Rattle.ledger.specs.StoreRun.{next_s, after_s}
use Rattle.ledger.specs.LedgerOf.{item_for, item_at, tabulate, ledger_of, SoundStore}
use Rattle.ledger.specs.RecordCount.{Answered, Past, accepted, nothing, deleted, says_of, or_before, last_deleted, count_after, history_count, past_of, CountsHistory}
use Rattle.ledger.proofs.Theorem.{demand_3}
use Rattle.ledger.proofs.Effects.{Known, in_range, known_in, update_known, delete_known, delete_live, settle_known, revert_known, after_each, set_long, set_own, set_other, added_long, added_own, added_other}
use Rattle.ledger.proofs.Versioned.{create_returns}
use Rattle.ledger.proofs.History.{number_is}
use Rattle.ledger.proofs.Never.{Whole, whole_empty, whole_set, whole_next, permitted}

-- an item is neither deleted nor gone
abbrev pub is_live_item : Item → Bool
is_live_item gone = false
is_live_item (held fs d s) = not d

-- how many are
unfoldable pub live_items : List Item → ℕ
live_items [] = 0
live_items (i ∷ is) = bit (is_live_item i) + live_items is

pub live_append : (xs ys : List Item) → live_items (xs ++ ys) ≡ live_items xs + live_items ys
unfolding live_items
live_append [] ys = omega arith
live_append (x ∷ xs) ys = omega (arith, live_append xs ys)

pub live_one : (i : Item) → live_items (i ∷ []) ≡ bit (is_live_item i)
unfolding live_items
live_one i = omega arith

-- one item is added, or set
pub live_more : (xs : List Item) (i : Item) → live_items (xs ++ (i ∷ [])) ≡ live_items xs + bit (is_live_item i)
live_more xs i = live_append xs (i ∷ []) ∙ ap (λ (n : ℕ). live_items xs + n) (live_one i)

pub live_set : (xs : List Item) (k : ℕ) (i : Item) → k < length xs → live_items (set xs k i) + bit (is_live_item (get_or xs k gone)) ≡ live_items xs + bit (is_live_item i)
unfolding live_items
live_set [] k i h = absurd (omega arith)
live_set (x ∷ xs) zero i h = omega arith
live_set (x ∷ xs) (suc k) i h = omega (arith, live_set xs k i (omega arith))

-- the items of a store
live_tabulate : (n : ℕ) (f : ℕ → Item) → live_items (tabulate n f) ≡ sum_to n (λ (m : ℕ). bit (is_live_item (f m)))
unfolding tabulate sum_to live_items
live_tabulate zero f = refl
live_tabulate (suc n) f = live_more (tabulate n f) (f (suc n)) ∙ ap (λ (k : ℕ). k + bit (is_live_item (f (suc n)))) (live_tabulate n f)

live_entry : (mst : List ℕ) (e : Entry) → is_live_item (item_for mst e) ≡ is_live e
live_entry mst Gone = refl
live_entry mst Malformed = refl
live_entry mst (At p) = refl

pub live_ledger : (t : Store) → live_items (ledger_of t).items ≡ live_count t
unfolding ledger_of live_count
live_ledger t =
    live_tabulate (next_of t.mst - 1) (item_at t)
    ∙ sum_same (next_of t.mst - 1) (λ (m : ℕ). bit (is_live_item (item_at t m))) (λ (m : ℕ). bit (is_live (entry_for t m)))
    (λ m lo hi. ap bit (live_entry t.mst (entry_for t m)))

-- RECCNT of a sound store
pub count_ledger : (t : Store) → SoundStore t → count_of t.mst ≡ pos (live_items (ledger_of t).items)
count_ledger t h = stands_counted t.mst t.xrf h ∙ ap pos (sym (live_ledger t))

-- and after every list of calls from format
pub count_after_lem : (mst xrf : List ℕ) → lengths_permitted (store mst xrf) ≡ true → (cs : List Call)
    → count_of (after_s (next_s (store mst xrf) format) cs).mst ≡ pos (live_items (after_l (empty (length mst) (length xrf)) cs).items)
count_after_lem mst xrf h cs =
    let k = (demand_3 mst xrf h cs).kept in
    count_ledger (after_s (next_s (store mst xrf) format) cs) k.sound ∙ ap (λ (L : Ledger). pos (live_items L.items)) k.ledger

-- ---- what the history says, and the ledger

-- of every MFN created whether it is deleted, and how many are live
record Matches (flag : ℕ → Bool) (n : ℤ) (L : Ledger) : Type 0 where
  flags : (o : ℕ) → mfn_in L o ≡ true → flag o ≡ kept_deleted (item_of L o)
  count : n ≡ pos (live_items L.items)

matches_as : {f g : ℕ → Bool} {n k : ℤ} {L : Ledger} → ((o : ℕ) → g o ≡ f o) → k ≡ n → Matches f n L → Matches g k L
matches_as same e w = record { flags = λ o q. same o ∙ w.flags o q; count = e ∙ w.count }

-- nothing is created, and nothing deleted
empty_matches : (mst xrf : ℕ) → Matches (λ (o : ℕ). false) (pos 0) (empty mst xrf)
unfolding empty live_items
empty_matches mst xrf = record { flags = λ o q. refl; count = refl }

live_held : (i : Item) → is_gone_item i ≡ false → is_live_item i ≡ not (kept_deleted i)
live_held gone h = absurd (false_true (sym h))
live_held (held fs d s) h = refl

module _ {flag : ℕ → Bool} {n : ℤ} {L : Ledger} (v : Whole L) (w : Matches flag n L) where
  -- the item of MFN k is set
  module _ (k : ℕ) (known : Known L k) (i : Item) (e : ℕ) (there : is_gone_item i ≡ false) where
    number_set : live_items (set L.items (k - 1) i) + bit (not (kept_deleted (item_of L k))) ≡ live_items L.items + bit (not (kept_deleted i))
    number_set =
        rw (← live_held (item_of L k) (v.held k (known_in known)), ← live_held i there)
        (live_set L.items (k - 1) i (let l = known.low in let h = known.high in omega arith))

    set_matches : (g : ℕ → Bool) → g k ≡ kept_deleted i → ((o : ℕ) → (k ≡ o → ⊥) → g o ≡ flag o)
        → (m : ℤ) → m ≡ pos (live_items (set L.items (k - 1) i)) → Matches g m (applied L (item_set k i e))
    unfolding mfn_in
    set_matches g own others m is = record { flags = λ o q. go o q (ℕ_discrete k o); count = is }
      where
        go : (o : ℕ) → mfn_in (applied L (item_set k i e)) o ≡ true → Dec (k ≡ o) → g o ≡ kept_deleted (item_of (applied L (item_set k i e)) o)
        go o q (yes z) = rw (← z, set_own L k i e known.low known.high) own
        go o q (no ne) =
            let old : mfn_in L o ≡ true = rw (set_long L k i e) at q in
            rw (set_other L k i e o known.low (in_range L o old).0 ne) (others o ne ∙ w.flags o old)

    -- as deleted as it was
    set_same : kept_deleted i ≡ kept_deleted (item_of L k) → Matches flag n (applied L (item_set k i e))
    set_same d =
        set_matches flag (w.flags k (known_in known) ∙ sym d) (λ o ne. refl) n
        (w.count ∙ ap pos (let q = rw d at number_set in omega arith))

  -- an item is added
  added_matches : (i : Item) (e : ℕ) → is_live_item i ≡ true → kept_deleted i ≡ false → (g : ℕ → Bool) → g (next_mfn L) ≡ false
      → ((o : ℕ) → (next_mfn L ≡ o → ⊥) → g o ≡ flag o) → Matches g (suc_ℤ n) (applied L (item_added i e))
  unfolding mfn_in bit
  added_matches i e live flagged g own others =
      record {
        flags = λ o q. let r = simp tests at q in go o r.0 r.1 (ℕ_discrete (next_mfn L) o);
        count = rw w.count (ap pos (let q = rw live at (live_more L.items i) in omega arith));
      }
    where
      go : (o : ℕ) → 1 ≤ o → o < next_mfn (applied L (item_added i e)) → Dec (next_mfn L ≡ o) → g o ≡ kept_deleted (item_of (applied L (item_added i e)) o)
      go o low high (yes z) = rw (← z, added_own L i e) (own ∙ sym flagged)
      go o low high (no ne) =
          let long = added_long L i e in
          let l : o < next_mfn L = omega arith in
          rw (added_other L i e o low l) (others o ne ∙ w.flags o (simp tests (low, l)))

-- ---- what an accepted call says of MFN k

says_own : (k : ℕ) (d b : Bool) → or_before (cond (eqb k k) (deleted d) nothing) b ≡ d
says_own k d b = rw (eq-eqb k k refl)

says_other : (k o : ℕ) (d b : Bool) → (k ≡ o → ⊥) → or_before (cond (eqb k o) (deleted d) nothing) b ≡ b
says_other k o d b ne = rw (ne_eqb k o ne)

module _ (past : Past) (L : Ledger) (v : Whole L) (w : Matches (last_deleted past) (history_count past) L) where
  -- ---- one call

  abbrev Told : Call → Ledger → Type 0
  Told c K = Matches (λ (o : ℕ). or_before (says_of c (answer_l L c) o) (last_deleted past o)) (count_after past c (history_count past)) K

  told_revert : (m : ℕ) → Known L m → (e : ℕ) → Told (revert m) (applied L (item_set m (held (settled_fields (item_of L m)) false settled) e))
  unfolding bit
  told_revert m known e =
      set_matches v w m known i e refl _ (says_own m false (last_deleted past m)) (λ o ne. says_other m o false (last_deleted past o) ne) _
      (ap (λ (b : Bool). cond b (suc_ℤ (history_count past)) (history_count past)) (w.flags m (known_in known))
      ∙ go (kept_deleted (item_of L m)) (number_set v w m known i e refl))
    where
      i : Item
      i = held (settled_fields (item_of L m)) false settled

      go : (b : Bool) → live_items (set L.items (m - 1) i) + bit (not b) ≡ live_items L.items + 1
          → cond b (suc_ℤ (history_count past)) (history_count past) ≡ pos (live_items (set L.items (m - 1) i))
      go true q = rw w.count (ap pos (omega arith))
      go false q = w.count ∙ ap pos (omega arith)

  told_delete : (m : ℕ) → Known L m → kept_deleted (item_of L m) ≡ false → (fs : List Field) (k : Marking) (e : ℕ)
      → Told (delete m) (applied L (item_set m (held fs true k) e))
  unfolding bit
  told_delete m known live fs k e =
      let q = rw live at (number_set v w m known (held fs true k) e refl) in
      let is : live_items L.items ≡ suc (live_items (set L.items (m - 1) (held fs true k))) = omega arith in
      set_matches v w m known (held fs true k) e refl _ (says_own m true (last_deleted past m)) (λ o ne. says_other m o true (last_deleted past o) ne) _
      (rw (w.count, is))

  told_create : (d : Draft) → number_l L (create d) ≡ Ok tt → (fs : List Field) (k : Marking) (e : ℕ) → Told (create d) (applied L (item_added (held fs false k) e))
  told_create d e fs k end =
      let is = create_returns L d e in
      added_matches v w (held fs false k) end refl refl _ (rw is (says_own (next_mfn L) false (last_deleted past (next_mfn L))))
      (λ o ne. rw is (says_other (next_mfn L) o false (last_deleted past o) ne))

  told : (c : Call) → number_l L c ≡ Ok tt → Told c (applied L (effect_of L c))
  unfolding effect_of
  told format d = empty_matches L.mst_length L.xrf_length
  told (view m tag occ) d = w
  told (view_settled m tag occ) d = w
  told (create f) d = told_create f d _ _ _
  told (update m f) d = set_same v w m (update_known L m f d) _ _ refl refl
  told (delete m) d = told_delete m (delete_known L m d) (delete_live L m d) _ _ _
  told (settle m) d = set_same v w m (settle_known L m d) _ _ refl refl
  told (revert m) d = told_revert m (revert_known L m d) L.end
  told check d = w
  told migrate d = w
  told (settle_list ms lent) d =
      (after_each (λ (K : Ledger). Whole K × Matches (last_deleted past) (history_count past) K) ms
      (λ K m a both known. (whole_set K both.0 m _ _ known refl, set_same both.0 both.1 m known _ _ refl refl)) L (v, w)).1
  told recount d = w

  -- accepted, if it is done
  abbrev answered : Call → Answered
  answered c = record { call = c; outcome = answer_l L c }

  not_accepted : (c : Call) → Refusing (number_l L c) → accepted (answered c) ≡ false
  not_accepted c h = ap (λ (a : Answer). eqb (number_of a) 0) (number_is L c) ∙ ne_eqb (number_of (number_l L c)) 0 h

  is_accepted : (c : Call) → number_l L c ≡ Ok tt → accepted (answered c) ≡ true
  is_accepted c d = ap (λ (a : Answer). eqb (number_of a) 0) (number_is L c ∙ d) ∙ eq-eqb (number_of (Ok tt)) 0 done_number

  abbrev now : Call → Past
  now c = answered c ∷ past

  next_matches : (c : Call) → Matches (last_deleted (now c)) (history_count (now c)) (next_l L c)
  unfolding last_deleted history_count next_l
  next_matches c = ⊎_elim done refused (after_cases (number_l L c) (applied L (effect_of L c)) L)
    where
      done : (number_l L c ≡ Ok tt) × (next_l L c ≡ applied L (effect_of L c)) → Matches (last_deleted (now c)) (history_count (now c)) (next_l L c)
      done q =
          let yes = is_accepted c q.0 in
          rw q.1 (matches_as (λ o. rw yes) (rw yes) (told c q.0))

      refused : Refusing (number_l L c) × (next_l L c ≡ L) → Matches (last_deleted (now c)) (history_count (now c)) (next_l L c)
      refused q =
          let no = not_accepted c q.0 in
          rw q.1 (matches_as (λ o. rw no) (rw no) w)

-- a list of calls
history_counts : (cs : List Call) (past : Past) (L : Ledger) → Whole L → Matches (last_deleted past) (history_count past) L
    → history_count (past_of past cs (answers_l L cs)) ≡ pos (live_items (after_l L cs).items)
unfolding past_of answers_l after_l
history_counts [] past L v w = w.count
history_counts (c ∷ cs) past L v w =
    history_counts cs (record { call = c; outcome = answer_l L c } ∷ past) (next_l L c) (whole_next L v c) (next_matches past L v w c)

-- RECCNT IS THE HISTORY'S COUNT, on the bytes, after every list of calls from format
pub counts_history : (mst xrf : List ℕ) → CountsHistory mst xrf
unfolding last_deleted history_count
counts_history mst xrf h cs =
    let first : Ledger = empty (length mst) (length xrf) in
    let list = history_counts cs [] first (whole_empty (length mst) (length xrf) (permitted mst xrf h)) (empty_matches (length mst) (length xrf)) in
    rw (demand_3 mst xrf h cs).answers (count_after_lem mst xrf h cs ∙ sym list)
