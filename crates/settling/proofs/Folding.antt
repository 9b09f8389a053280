-- The fold over the first so many MFNs of a list, and the loop that makes it: after i turns both
-- buffers and the list of answers are those of the first i MFNs (`Settled`), one turn is one single
-- settle more, and after the last they are the whole list's.
use Rattle.std.specs.Prelude.{Ok, Err}
use Prim.Native.Nat.{ℕ, ◌+◌, ◌≤◌, ◌<◌}
use native.Mathlib.Nat.{zero-add}
use native.Mathlib.Numerals.{add-one}
use native.Mathlib.Omega.{arith}
use mathlib.Core.Path.{◌≡◌, refl, sym, ap, ◌∙◌}
use mathlib.Core.Bool.{Bool, true, false, not}
use mathlib.Core.List.{List, [], ◌∷◌, ◌++◌, map, map-append}
use lib.ListN.{length, get_or, take, set, length-map, length-set}
use lib.Seq.{take-suc, take_all, length-take-le}
use borrow.Author.Tests.{not-false, eqb-true}
use Rattle.word.specs.Overwrite.{overwrite}
use Rattle.word.proofs.Tests.{tests, and_left}
use Rattle.word.proofs.Overwrite.{overwrite_none, overwrite_whole, overwrite_more}
use Rattle.store.specs.Store.{Store, store}
use Rattle.store.specs.Answer.{number_of, after, Answer}
use Rattle.store.specs.declared.answer.Refusal.TheVariants.{NoRoomInList}
use Rattle.writing.specs.Refusals.{settle_answer}
use Rattle.writing.specs.Calls.{settle_leaves}
use Rattle.settling.specs.SettleList.{settle_each_answers, settle_each_leaves, list_most, lists_right, settle_list_answer, settle_list_leaves, settle_list_tells}

-- ---- the fold, list by list

pub answers_count : (s : Store) (ms : List ℕ) → length (settle_each_answers s ms) ≡ length ms
unfolding settle_each_answers
answers_count s [] = refl
answers_count s (m ∷ ms) = let r = answers_count (settle_leaves s m) ms in omega arith

-- one list, then another
pub leaves_append : (s : Store) (ms ns : List ℕ) → settle_each_leaves s (ms ++ ns) ≡ settle_each_leaves (settle_each_leaves s ms) ns
unfolding settle_each_leaves
leaves_append s [] ns = refl
leaves_append s (m ∷ ms) ns = leaves_append (settle_leaves s m) ms ns

answers_append : (s : Store) (ms ns : List ℕ) → settle_each_answers s (ms ++ ns) ≡ settle_each_answers s ms ++ settle_each_answers (settle_each_leaves s ms) ns
unfolding settle_each_answers settle_each_leaves
answers_append s [] ns = refl
answers_append s (m ∷ ms) ns = ap (λ (r : List Answer). settle_answer s m ∷ r) (answers_append (settle_leaves s m) ms ns)

-- one more of the list
module _ (s : Store) (ms : List ℕ) (i : ℕ) (h : i < length ms) where
  take_one : take (i + 1) ms ≡ take i ms ++ (get_or ms i 0 ∷ [])
  take_one = ap (λ (n : ℕ). take n ms) (add-one i) ∙ take-suc ms i 0 h

  pub leaves_more : settle_each_leaves s (take (i + 1) ms) ≡ settle_leaves (settle_each_leaves s (take i ms)) (get_or ms i 0)
  unfolding settle_each_leaves
  leaves_more = ap (settle_each_leaves s) take_one ∙ leaves_append s (take i ms) (get_or ms i 0 ∷ [])

  pub answers_more : settle_each_answers s (take (i + 1) ms) ≡ settle_each_answers s (take i ms) ++ (settle_answer (settle_each_leaves s (take i ms)) (get_or ms i 0) ∷ [])
  unfolding settle_each_answers
  answers_more = ap (settle_each_answers s) take_one ∙ answers_append s (take i ms) (get_or ms i 0 ∷ [])

-- ---- two lists of these lengths

module _ (mfns answers : ℕ) where
  pub lists_same : lists_right mfns answers ≡ true → mfns ≡ answers
  unfolding lists_right
  lists_same e = eqb-true mfns answers (and_left _ _ e)

  pub lists_short : lists_right mfns answers ≡ true → mfns ≤ list_most
  unfolding lists_right
  lists_short e = let q = simp tests at e in q.1

pub lists_fine : (n : ℕ) → n ≤ list_most → lists_right n n ≡ true
unfolding lists_right
lists_fine n h = simp tests (refl, h)

-- ---- the loop

-- from s and a list of answers, after the first i MFNs
pub record Settled (s : Store) (ms answers₀ mst xrf answers : List ℕ) (i : ℕ) : Type 0 where
  pub within : i ≤ length ms
  pub right : lists_right (length ms) (length answers₀) ≡ true
  pub equal : length ms ≡ length answers₀
  pub mst_long : length mst ≡ length s.mst
  pub xrf_long : length xrf ≡ length s.xrf
  pub answers_long : length answers ≡ length answers₀
  pub left : store mst xrf ≡ settle_each_leaves s (take i ms)
  pub told : answers ≡ overwrite answers₀ 0 (map number_of (settle_each_answers s (take i ms)))

module _ (mst xrf ms answers₀ : List ℕ) (b : Bool) (e : b ≡ lists_right (length ms) (length answers₀)) where
  pub settled_none : not b ≡ false → Settled (store mst xrf) ms answers₀ mst xrf answers₀ 0
  unfolding settle_each_leaves settle_each_answers
  settled_none h =
      let r : lists_right (length ms) (length answers₀) ≡ true = sym e ∙ not-false b h in
      record {
        within = omega arith;
        right = r;
        equal = lists_same (length ms) (length answers₀) r;
        mst_long = refl;
        xrf_long = refl;
        answers_long = refl;
        left = refl;
        told = sym (overwrite_none answers₀ 0);
      }

  -- the lists are refused, and nothing is changed
  pub list_refused : not b ≡ true
      → ((Err NoRoomInList) ≡ settle_list_answer (length ms) (length answers₀))
      × ((store mst xrf ≡ settle_list_leaves (store mst xrf) ms (length answers₀)) × (answers₀ ≡ settle_list_tells (store mst xrf) ms answers₀))
  unfolding settle_list_answer settle_list_leaves settle_list_tells after number_of
  list_refused h = (rw (← e, h), (rw (← e, h), rw (← e, h)))

module _ {s : Store} {ms answers₀ mst xrf answers : List ℕ} {i : ℕ} (g : Settled s ms answers₀ mst xrf answers i) where
  -- one single settle
  pub settled_more : (mst' xrf' : List ℕ) (a : Answer) (n : ℕ) → i < length ms
      → a ≡ settle_answer (store mst xrf) (get_or ms i 0) → store mst' xrf' ≡ settle_leaves (store mst xrf) (get_or ms i 0)
      → length mst' ≡ length mst → length xrf' ≡ length xrf → n ≡ number_of a
      → Settled s ms answers₀ mst' xrf' (set answers i n) (i + 1)
  settled_more mst' xrf' a n h ea el lm lx en =
      let front = take i ms in
      let k : length (map number_of (settle_each_answers s front)) ≡ i =
      length-map (settle_each_answers s front) number_of ∙ answers_count s front ∙ length-take-le i ms g.within in
      let v : n ≡ number_of (settle_answer (settle_each_leaves s front) (get_or ms i 0)) = en ∙ ap number_of (ea ∙ ap (λ (x : Store). settle_answer x (get_or ms i 0)) g.left) in
      let q = g.equal in
      record {
        within = omega arith;
        right = g.right;
        equal = g.equal;
        mst_long = lm ∙ g.mst_long;
        xrf_long = lx ∙ g.xrf_long;
        answers_long = length-set answers i n ∙ g.answers_long;
        left = el ∙ ap (λ (x : Store). settle_leaves x (get_or ms i 0)) g.left ∙ sym (leaves_more s ms i h);
        told =
            ap (λ (l : List ℕ). set l i n) g.told
            ∙ ap (λ (j : ℕ). set (overwrite answers₀ 0 (map number_of (settle_each_answers s front))) j n) (sym (zero-add _ ∙ k))
            ∙ overwrite_more answers₀ 0 (map number_of (settle_each_answers s front)) n (omega arith)
            ∙ rw (v, answers_more s ms i h, map-append) refl;
      }

  -- the whole list is settled
  pub settled_all : length ms ≤ i
      → ((Ok tt) ≡ settle_list_answer (length ms) (length answers₀)) × ((store mst xrf ≡ settle_list_leaves s ms (length answers₀)) × (answers ≡ settle_list_tells s ms answers₀))
  unfolding settle_list_answer settle_list_leaves settle_list_tells after number_of
  settled_all h =
      let t : take i ms ≡ ms = take_all i ms h in
      let k : length (map number_of (settle_each_answers s ms)) ≡ length answers₀ = length-map (settle_each_answers s ms) number_of ∙ answers_count s ms ∙ g.equal in (
        rw g.right,
        (
          rw g.right (g.left ∙ ap (settle_each_leaves s) t),
          rw g.right (g.told ∙ ap (λ (l : List ℕ). overwrite answers₀ 0 (map number_of (settle_each_answers s l))) t ∙ overwrite_whole answers₀ (map number_of (settle_each_answers s ms)) k),
        ),
      )
