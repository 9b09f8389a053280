-- What the check and the recount answer, by what the gate and the passes found: one law for each `return` of `sound_apart`, `count_live`, `check` and
-- `recount`. That a tally with the walk's answer is whether every entry is sound is `walk_decides`.
use Rattle.std.specs.Prelude.{Option, Some, None, Result, Ok, Err}
use Rattle.std.specs.Option.{ok_or}
use Prim.Native.Nat.{ℕ, ◌+◌, ◌-◌, ◌≤◌}
use native.Mathlib.Omega.{arith}
use mathlib.Core.Path.{◌≡◌, refl, sym, ap, ◌∙◌}
use mathlib.Core.Bool.{Bool, true, false, not, ◌&&◌, cond, and-false}
use mathlib.Core.List.{List, [], ◌∷◌}
use lib.IntN.{pos}
use lib.ListN.{length}
use borrow.Author.Tests.{not-true, not-false}
use Rattle.layout.specs.Sizes.{capacity_of}
use Rattle.files.specs.Control.{next_of, end_of, count_is, count_most, with_count}
use Rattle.files.specs.declared.control.Control.{Control}
use Rattle.store.specs.Answer.{number_of, refuse, give, Answer}
use Rattle.store.specs.Reading.{lengths_permitted, control_fine, entry_for}
use Rattle.store.specs.Gate.{gate_of}
use Rattle.store.specs.declared.answer.Refusal.TheVariants.{BadLength, BadControl, NotSound}
use Rattle.store.specs.declared.answer.Refusal.{Refusal}
use Rattle.store.proofs.Gates.{Refusing, refusing, done_number, after_done, after_refused, refused_is, done_is, given_refused, given_done, holds, gate_done, gate_shut, open_from, gate_open, open_xrf}
use Rattle.soundness.specs.Sound.{bit, heads_right, rest_free, steps, is_live, live_count, count_right, body_apart, body_sound, check_answer}
use Rattle.soundness.specs.Recount.{recount_answer, recounted_mst, recount_leaves}
use Rattle.soundness.specs.Passes.{entries_fine, named_total, tally, tally_of, walk_of, apart_of, counted_of}
use Rattle.soundness.specs.declared.passes.Tally.{Tally}
use Rattle.soundness.proofs.Sums.{sum_few}
use Rattle.soundness.proofs.Counting.{bit_le}
use Rattle.soundness.proofs.Deciding.{entries_wrong, walk_decides}
use Rattle.soundness.proofs.PassAnswers.{open_next, open_low, named_parts, cond_none}
use Rattle.store.specs.Store.{Store, store}

module _ (mst xrf : List ℕ) (t : Option Tally) (e : t ≡ tally_of (store mst xrf)) where
  not_fine : t ≡ None → entries_fine (store mst xrf) ≡ false
  unfolding tally_of
  not_fine h = cond_none (entries_fine (store mst xrf)) (tally (named_total (store mst xrf)) (live_count (store mst xrf))) (sym e ∙ h)

  tally_both : (x : Tally) → t ≡ Some x
      → (entries_fine (store mst xrf) ≡ true) × (named_total (store mst xrf) ≡ x.named) × (live_count (store mst xrf) ≡ x.live)
  unfolding tally_of
  tally_both x h = named_parts (entries_fine (store mst xrf)) (named_total (store mst xrf)) (live_count (store mst xrf)) x (sym e ∙ h)

  pub tally_fine : (x : Tally) → t ≡ Some x → entries_fine (store mst xrf) ≡ true
  tally_fine x h = (tally_both x h).0

-- what is found of a store that is not sound apart from RECCNT, and of one that is
unsound_is : (mst xrf : List ℕ) → body_apart (store mst xrf) ≡ false → None ≡ apart_of (store mst xrf)
unfolding apart_of
unsound_is mst xrf h = rw h

sound_is : (mst xrf : List ℕ) (live : ℕ) → body_apart (store mst xrf) ≡ true → live_count (store mst xrf) ≡ live → Some live ≡ apart_of (store mst xrf)
unfolding apart_of
sound_is mst xrf live h e = rw (h, e)

-- ---- behind an open gate

module _ (mst xrf : List ℕ) (k : Control) (g : gate_of (store mst xrf) ≡ Ok k) where
  pub body_next : k.next.0 ≤ capacity_of (length xrf) + 1
  body_next = let f = gate_open mst xrf k g in omega arith

  module _ (w : Bool) (u : w ≡ heads_right xrf) where
    pub body_heads : not w ≡ true → None ≡ apart_of (store mst xrf)
    unfolding body_apart
    body_heads n = unsound_is mst xrf (rw (← u, not-true w n))

    module _ (v : Bool) (s : v ≡ rest_free xrf k.next.0) where
      rest_is : rest_free xrf (next_of mst) ≡ v
      rest_is = rw (← open_next mst xrf k g) (sym s)

      pub body_rest : not v ≡ true → None ≡ apart_of (store mst xrf)
      unfolding body_apart
      body_rest n = unsound_is mst xrf (rw (rest_is, not-true v n, and-false))

      module _ (t : Option Tally) (c : t ≡ tally_of (store mst xrf)) where
        pub body_wrong : t ≡ None → None ≡ apart_of (store mst xrf)
        unfolding body_apart
        body_wrong n = unsound_is mst xrf (rw (entries_wrong mst xrf (not_fine mst xrf t c n) (steps mst 64), and-false))

        module _ (m : not w ≡ false) (n : not v ≡ false) (x : Tally) (h : t ≡ Some x) (r : Bool) (y : r ≡ walk_of (store mst xrf) x.named) where
          walked : r ≡ body_apart (store mst xrf)
          unfolding body_apart
          walked =
              let q = tally_both mst xrf t c x h in
              y
              ∙ ap (walk_of (store mst xrf)) (sym q.1)
              ∙ walk_decides mst xrf (gate_open mst xrf k g).next_low q.0
              ∙ rw (← u, rest_is, not-false w m, not-false v n)

          pub body_astray : not r ≡ true → None ≡ apart_of (store mst xrf)
          body_astray z = unsound_is mst xrf (sym walked ∙ not-true r z)

          pub body_walked : not r ≡ false → Some x.live ≡ apart_of (store mst xrf)
          body_walked z = sound_is mst xrf x.live (sym walked ∙ not-false r z) (tally_both mst xrf t c x h).2

pub ruleset body_answers = (open_xrf, open_low, body_next, body_heads, body_rest, tally_fine, body_wrong, body_astray, body_walked, arith)

-- ---- what the check and the recount ask alike

module _ (mst xrf : List ℕ) where
  pub counted_shut : (r : Refusal) → gate_of (store mst xrf) ≡ Err r → Err r ≡ counted_of (store mst xrf)
  unfolding counted_of recount_answer
  counted_shut r h =
      let f = gate_shut mst xrf r h in
      refused_is (recount_answer (store mst xrf)) _ r (f.answers (refuse NotSound (not (body_apart (store mst xrf))) ∷ []))

  -- the store as it was opened is the one that was lent
  module _ (s : Store) (same : (s.mst ≡ mst) × (s.xrf ≡ xrf)) (k : Control) (g : gate_of s ≡ Ok k) (a : Option ℕ) (e : a ≡ apart_of s) where
    is : s ≡ store mst xrf
    is = rw (same.0, same.1)

    q : a ≡ apart_of (store mst xrf)
    q = e ∙ ap apart_of is

    recount_is : recount_answer (store mst xrf) ≡ cond (not (body_apart (store mst xrf))) (Err NotSound) (Ok tt)
    unfolding recount_answer
    recount_is = let f = gate_open mst xrf k (ap gate_of (sym is) ∙ g) in rw (f.lengths, f.control)

    by_body : (b : Bool) (n : ℕ) → ok_or (cond b (Some n) None) NotSound ≡ give (cond (not b) (Err NotSound) (Ok tt)) n
    unfolding give
    by_body true n = refl
    by_body false n = refl

    pub counted_live : ok_or a NotSound ≡ counted_of (store mst xrf)
    unfolding counted_of apart_of
    counted_live = rw (q, recount_is) (by_body (body_apart (store mst xrf)) (live_count (store mst xrf)))

pub ruleset counted_answers = (counted_shut, counted_live)

-- ---- the check and the recount

-- 1, 2 and 14
abbrev asked_list : Bool → Bool → Bool → Answer
asked_list lengths control body = cond (not lengths) (Err BadLength) (cond (not control) (Err BadControl) (cond (not body) (Err NotSound) (Ok tt)))

-- where what both ask is refused, the check is
alike : (lengths control body right : Bool) → Refusing (asked_list lengths control body) → asked_list lengths control (body && right) ≡ asked_list lengths control body
alike true true true right h = absurd (h done_number)
alike true true false right h = refl
alike true false body right h = refl
alike false control body right h = refl

-- no more entries are live than there are MFNs
pub live_most : (mst xrf : List ℕ) → live_count (store mst xrf) ≤ next_of mst - 1
unfolding live_count
live_most mst xrf = sum_few (next_of mst - 1) (λ (m : ℕ). bit (is_live (entry_for (store mst xrf) m))) (λ m. bit_le (is_live (entry_for (store mst xrf) m)))

module _ (mst xrf : List ℕ) (c : Result ℕ Refusal) (e : c ≡ counted_of (store mst xrf)) where
  refused_by : (r : Refusal) → c ≡ Err r → recount_answer (store mst xrf) ≡ Err r
  unfolding counted_of
  refused_by r h = given_refused (recount_answer (store mst xrf)) (live_count (store mst xrf)) r (sym e ∙ h)

  pub check_refused : (r : Refusal) → c ≡ Err r → Err r ≡ check_answer (store mst xrf)
  unfolding check_answer recount_answer body_sound
  check_refused r h =
      let p = refused_by r h in
      sym p
      ∙ sym (alike (lengths_permitted (store mst xrf)) (control_fine (store mst xrf)) (body_apart (store mst xrf)) (count_right (store mst xrf)) (rw p (refusing r)))

  pub recount_refused : (r : Refusal) → c ≡ Err r → (Err r ≡ recount_answer (store mst xrf)) × (store mst xrf ≡ recount_leaves (store mst xrf))
  unfolding recount_leaves
  recount_refused r h =
      let p = refused_by r h in
      (sym p, sym (after_refused (recount_answer (store mst xrf)) _ (store mst xrf) (rw p (refusing r))))

  module _ (live : ℕ) (n : c ≡ Ok live) where
    parts : (recount_answer (store mst xrf) ≡ Ok tt) × (live_count (store mst xrf) ≡ live)
    unfolding counted_of
    parts = given_done (recount_answer (store mst xrf)) (live_count (store mst xrf)) live (sym e ∙ n)

    asked : (lengths_permitted (store mst xrf) ≡ true) × (control_fine (store mst xrf) ≡ true) × (body_apart (store mst xrf) ≡ true)
    unfolding recount_answer number_of
    asked =
        let g = gate_done mst xrf _ parts.0 in
        (g.0, g.1, (holds (body_apart (store mst xrf)) (Err NotSound) (Ok tt) (λ z. omega arith) g.2).0)

    check_is : check_answer (store mst xrf) ≡ cond (not (count_right (store mst xrf))) (Err NotSound) (Ok tt)
    unfolding check_answer body_sound
    check_is = rw (asked.0, asked.1, asked.2)

    pub count_asks : (64 ≤ length mst) × (live ≤ count_most)
    count_asks =
        let f = open_from mst xrf (record { 0 = next_of mst }) (end_of mst) asked.0 asked.1 refl refl in
        let most = live_most mst xrf in
        let z = f.sizes in
        (omega arith, omega (arith, parts.1))

    module _ (b : Bool) (w : b ≡ count_is mst live) where
      right : count_right (store mst xrf) ≡ b
      unfolding count_right
      right = rw parts.1 (sym w)

      pub check_sound : b ≡ true → (Ok tt) ≡ check_answer (store mst xrf)
      check_sound t = sym (check_is ∙ rw (right, t))

      pub check_miscounted : b ≡ false → (Err NotSound) ≡ check_answer (store mst xrf)
      check_miscounted t = sym (check_is ∙ rw (right, t))

      pub recount_kept : b ≡ true → ((Ok tt) ≡ recount_answer (store mst xrf)) × (store mst xrf ≡ recount_leaves (store mst xrf))
      unfolding recount_leaves recounted_mst
      recount_kept t =
          (sym parts.0, sym (after_done (recount_answer (store mst xrf)) _ (store mst xrf) parts.0 ∙ rw (parts.1, ← w, t)))

      pub recount_put : b ≡ false → (out : List ℕ) → out ≡ with_count mst (pos live)
          → ((Ok tt) ≡ recount_answer (store mst xrf)) × (store out xrf ≡ recount_leaves (store mst xrf))
      unfolding recount_leaves recounted_mst
      recount_put t out o =
          (sym parts.0, sym (after_done (recount_answer (store mst xrf)) _ (store mst xrf) parts.0 ∙ rw (parts.1, ← w, t, o)))

pub ruleset check_answers = (check_refused, count_asks, check_sound, check_miscounted)
