-- NO ROOM EXACTLY by the room rule, for each of the three calls that may write at the end: the row of 13 is the last of its table, and every row
-- before it has a lower number.
use Rattle.std.specs.Prelude.{Err}
use Prim.Native.Nat.{ℕ, ◌+◌, ◌<◌}
use native.Mathlib.Omega.{arith}
use mathlib.Core.Path.{◌≡◌, refl, sym, ap, ◌∙◌}
use mathlib.Core.Bool.{Bool, true, false, not, ◌&&◌, ◌||◌, cond}
use mathlib.Core.List.{List, [], ◌∷◌, ◌++◌}
use lib.Dec.{eqb, ltb}
use borrow.Author.Tests.{lt-ltb}
use Rattle.layout.specs.Sizes.{capacity_of}
use Rattle.word.proofs.Tests.{tests, false_true}
use Rattle.drafts.specs.Bytes.{need_for}
use Rattle.store.specs.Answer.{Row, refuse, lowest, number_of}
use Rattle.store.specs.declared.answer.Refusal.TheVariants.{BadDraft, NoSlot, Deleted, NoRoom}
use Rattle.store.specs.Store.{Store}
use Rattle.drafts.specs.Draft.{Draft, is_right, fields_in}
use Rattle.ledger.specs.Call.{Call, create, update, delete, Outcome}
use Rattle.ledger.specs.Ledger.{Ledger, next_mfn, item_of, kept_fields, kept_deleted, kept_mark, is_settled_mark}
use Rattle.ledger.specs.LedgerAnswers.{measured, named, overfull, appends, refusals_l, number_l, reply_l}
use Rattle.ledger.specs.StoreRun.{answer_s}
use Rattle.ledger.specs.LedgerOf.{ledger_of, SoundStore}
use Rattle.ledger.specs.History.{some_below, RoomRule, RoomOf}
use Rattle.ledger.proofs.History.{answered, holds_own, number_is}

-- every number of a table is below 13
unfoldable all_below : List Row → Bool
all_below [] = true
all_below (r ∷ rs) = ltb (number_of r.answer) 13 && all_below rs

thirteen : number_of (Err NoRoom) ≡ 13
unfolding number_of
thirteen = refl

-- the row of 13 behind such a table
module _ (b : Bool) where
  abbrev whole : List Row → List Row
  whole pre = pre ++ (refuse NoRoom b ∷ [])

  none_lower : some_below 13 (whole []) ≡ false
  unfolding some_below number_of
  none_lower = go b
    where
      go : (b : Bool) → ((b && false) || false) ≡ false
      go true = refl
      go false = refl

  -- by whether the first of the rows before it applies
  first_row : (r : Row) (rs : List Row) → number_of r.answer < 13 → (t : Bool) → r.applies ≡ t
      → (lowest (whole rs) ≡ Err NoRoom → (some_below 13 (whole rs) ≡ false) × (b ≡ true))
      → cond t r.answer (lowest (whole rs)) ≡ Err NoRoom → (((t && ltb (number_of r.answer) 13) || some_below 13 (whole rs)) ≡ false) × (b ≡ true)
  first_row r rs l true a rest e = absurd (omega (arith, l, ap number_of e ∙ thirteen))
  first_row r rs l false a rest e = rest e

  only : (pre : List Row) → all_below pre ≡ true → lowest (whole pre) ≡ Err NoRoom → (some_below 13 (whole pre) ≡ false) × (b ≡ true)
  unfolding all_below some_below
  only [] low e = (none_lower, go b e)
    where
      go : (b : Bool) → lowest (refuse NoRoom b ∷ []) ≡ Err NoRoom → b ≡ true
      go true e = refl
      go false e = absurd (let z : ◌≡◌ {A = ℕ} 0 1 = cc in omega arith)
  only (r ∷ rs) low e =
      let q = simp tests at low in
      first_row r rs q.0 r.applies refl (only rs q.1) e

  not_first : (r : Row) (rest : Bool) → number_of r.answer < 13 → (t : Bool) → ((t && ltb (number_of r.answer) 13) || rest) ≡ false → (t ≡ false) × (rest ≡ false)
  not_first r rest l true e = absurd (false_true (sym e ∙ rw (lt-ltb (number_of r.answer) 13 l)))
  not_first r rest l false e = (refl, e)

  always : (pre : List Row) → all_below pre ≡ true → some_below 13 (whole pre) ≡ false → b ≡ true → lowest (whole pre) ≡ Err NoRoom
  unfolding all_below some_below
  always [] low e h = rw h
  always (r ∷ rs) low e h =
      let q = simp tests at low in
      let n = not_first r (some_below 13 (whole rs)) q.0 r.applies e in
      rw n.0 (always rs q.1 n.1 h)

-- the rule
room_rule : (pre : List Row) (at_end : Bool) (end need size : ℕ) → all_below pre ≡ true
    → RoomRule (lowest (whole (at_end && ltb size (end + need)) pre)) (whole (at_end && ltb size (end + need)) pre) at_end end need size
room_rule pre at_end end need size low =
    record {
      no_lower = λ e. (only b pre low e).0;
      is_at_end = λ e. (both (only b pre low e).1).0;
      exceeds = λ e. (both (only b pre low e).1).1;
      refused = λ n a x. always b pre low n (rw (a, lt-ltb size (end + need) x));
    }
  where
    b : Bool
    b = at_end && ltb size (end + need)

    both : b ≡ true → (at_end ≡ true) × (size < end + need)
    both e = simp tests at e

-- ---- on the store's answers

module _ (s : Store) (h : SoundStore s) where
  abbrev L : Ledger
  L = ledger_of s

  answer_is : (c : Call) → (answer_s s c).answer ≡ number_l L c
  answer_is c = ap (λ (o : Outcome). o.answer) (answered (holds_own s h) c) ∙ number_is L c

  pub create_room : (d : Draft) → RoomOf s (create d) true (need_for (fields_in d))
  unfolding number_l refusals_l overfull all_below number_of reply_l
  create_room d =
      rw (answer_is (create d))
      (room_rule
      (measured L (refuse BadDraft (not (is_right d)) ∷ refuse NoSlot (eqb (next_mfn L) (capacity_of L.xrf_length + 1)) ∷ []))
      true L.end (need_for (fields_in d)) L.mst_length refl)

  pub update_room : (m : ℕ) (d : Draft) → RoomOf s (update m d) (appends (kept_mark (item_of L m)) (need_for (fields_in d))) (need_for (fields_in d))
  unfolding number_l refusals_l overfull all_below number_of reply_l
  update_room m d =
      rw (answer_is (update m d))
      (room_rule
      (measured L (refuse BadDraft (not (is_right d)) ∷ named L m (refuse Deleted (kept_deleted (item_of L m)) ∷ [])))
      (appends (kept_mark (item_of L m)) (need_for (fields_in d))) L.end (need_for (fields_in d)) L.mst_length refl)

  pub delete_room : (m : ℕ) → RoomOf s (delete m) (is_settled_mark (kept_mark (item_of L m))) (need_for (kept_fields (item_of L m)))
  unfolding number_l refusals_l overfull all_below number_of reply_l
  delete_room m =
      rw (answer_is (delete m))
      (room_rule
      (measured L (named L m (refuse Deleted (kept_deleted (item_of L m)) ∷ [])))
      (is_settled_mark (kept_mark (item_of L m))) L.end (need_for (kept_fields (item_of L m))) L.mst_length refl)
