-- A recount: it is done exactly if the store is sound apart from RECCNT, the store is sound then, and no byte but those of RECCNT is changed.
use Rattle.std.specs.Prelude.{Ok, Err}
use Prim.Native.Nat.{ℕ, ◌-◌, ◌≤◌}
use native.Mathlib.Omega.{arith}
use mathlib.Core.Path.{◌≡◌, refl, sym, ap, ◌∙◌}
use mathlib.Core.Logic.{⊎_elim}
use mathlib.Core.Bool.{Bool, true, false, cond}
use mathlib.Core.List.{List}
use lib.IntN.{ℤ, pos}
use lib.ListN.{length, get_or}
use Rattle.word.proofs.Tests.{tests}
use Rattle.files.specs.Control.{next_of, count_of, count_is, count_most, with_count}
use Rattle.files.specs.NamedBytes.{CountByte}
use Rattle.files.proofs.Count.{is_number_lem, count_is_lem, count_length, count_kept, next_of_count, count_of_count}
use Rattle.layout.specs.declared.entry.Entry.{Entry}
use Rattle.store.specs.Store.{Store, store}
use Rattle.store.specs.Answer.{number_of}
use Rattle.store.specs.Reading.{entry_for}
use Rattle.store.specs.declared.answer.Refusal.TheVariants.{NotSound}
use Rattle.store.proofs.Gates.{after_done, after_cases, gate_done, holds}
use Rattle.soundness.specs.Sound.{bit, is_live, live_count, body_apart, sound_apart, sound_of}
use Rattle.soundness.specs.Recount.{recount_answer, recounted_mst, recount_leaves, Recounts}
use Rattle.soundness.proofs.SoundEntries.{Sound, apart_stands, stands_counted, sound, sound_apart_lem, stands}
use Rattle.soundness.proofs.Recounting.{control_in, count_entry, count_sound}
use Rattle.soundness.proofs.CheckAnswers.{live_most}
use Rattle.soundness.proofs.Sums.{sum_same}

-- the number of live entries does not depend on RECCNT
pub count_live : {mst xrf : List ℕ} (s : Sound mst xrf) (z : ℤ) → live_count (store (with_count mst z) xrf) ≡ live_count (store mst xrf)
unfolding live_count
count_live {mst} {xrf} s z =
    rw (next_of_count mst z (control_in s z))
    (sum_same (next_of mst - 1) (λ (m : ℕ). bit (is_live (entry_for (store (with_count mst z) xrf) m))) (λ (m : ℕ). bit (is_live (entry_for (store mst xrf) m)))
    (λ m lo hi. ap (λ (e : Entry). bit (is_live e)) (count_entry s z m)))

module _ (mst xrf : List ℕ) where
  abbrev whole : Store
  whole = store mst xrf

  recount_done : sound_apart whole ≡ true → recount_answer whole ≡ Ok tt
  unfolding sound_apart recount_answer
  recount_done e = let q = simp tests at e in rw (q.0.0, q.0.1, q.1)

  recount_only : recount_answer whole ≡ Ok tt → sound_apart whole ≡ true
  unfolding sound_apart recount_answer number_of
  recount_only e =
      let g = gate_done mst xrf _ e in
      let b = holds (body_apart whole) (Err NotSound) (Ok tt) (λ z. omega arith) g.2 in
      simp tests ((g.0, g.1), b.0)

  -- what is written is right
  module _ (s : Sound mst xrf) where
    small : live_count whole ≤ count_most
    small = let f = s.sizes in let g = s.numbers in omega (arith, live_most mst xrf)

    counted : count_of (recounted_mst mst (live_count whole)) ≡ pos (live_count whole)
    unfolding recounted_mst
    counted = go (count_is mst (live_count whole)) refl
      where
        go : (b : Bool) → count_is mst (live_count whole) ≡ b → count_of (cond b mst (with_count mst (pos (live_count whole)))) ≡ pos (live_count whole)
        go true h = count_is_lem mst (live_count whole) h
        go false h = count_of_count mst (live_count whole) (control_in s (pos 0)) small

    right : sound_of (store (recounted_mst mst (live_count whole)) xrf) ≡ true
    unfolding recounted_mst
    right = go (count_is mst (live_count whole)) refl
      where
        go : (b : Bool) → count_is mst (live_count whole) ≡ b → sound_of (store (cond b mst (with_count mst (pos (live_count whole)))) xrf) ≡ true
        go true h = sound mst xrf s (count_is_lem mst (live_count whole) h)
        go false h =
            let z : ℤ = pos (live_count whole) in
            sound (with_count mst z) xrf (count_sound s z)
            (count_of_count mst (live_count whole) (control_in s z) small ∙ ap pos (sym (count_live s z)))

    bytes : (i : ℕ) → (CountByte i → ⊥) → get_or (recounted_mst mst (live_count whole)) i 0 ≡ get_or mst i 0
    unfolding recounted_mst
    bytes i off = go (count_is mst (live_count whole))
      where
        go : (b : Bool) → get_or (cond b mst (with_count mst (pos (live_count whole)))) i 0 ≡ get_or mst i 0
        go true = refl
        go false = count_kept mst (pos (live_count whole)) (control_in s (pos 0)) i off

    size : length (recounted_mst mst (live_count whole)) ≡ length mst
    unfolding recounted_mst
    size = go (count_is mst (live_count whole))
      where
        go : (b : Bool) → length (cond b mst (with_count mst (pos (live_count whole)))) ≡ length mst
        go true = refl
        go false = count_length mst (pos (live_count whole)) (control_in s (pos 0))

  -- done or refused
  pub recount_left : recount_answer whole ≡ Ok tt → recount_leaves whole ≡ store (recounted_mst mst (live_count whole)) xrf
  unfolding recount_leaves
  recount_left e = after_done (recount_answer whole) (store (recounted_mst mst (live_count whole)) xrf) whole e

  either : (P : Store → Type 0) → (recount_answer whole ≡ Ok tt → P (store (recounted_mst mst (live_count whole)) xrf)) → P whole → P (recount_leaves whole)
  unfolding recount_leaves
  either P new old =
      ⊎_elim (λ d. rw d.1 (new d.0)) (λ r. rw r.1 old)
      (after_cases (recount_answer whole) (store (recounted_mst mst (live_count whole)) xrf) whole)

  of_done : recount_answer whole ≡ Ok tt → Sound mst xrf
  of_done e = apart_stands mst xrf (recount_only e)

  nothing_changed : sound_of whole ≡ true → recount_leaves whole ≡ whole
  unfolding recounted_mst
  nothing_changed e =
      let n : count_is mst (live_count whole) ≡ true = is_number_lem mst (live_count whole) (stands_counted mst xrf e) in
      recount_left (recount_done (sound_apart_lem mst xrf (stands mst xrf e))) ∙ rw n

-- THE THEOREM
pub recounts : (s : Store) → Recounts s
recounts s =
    let mst : List ℕ = s.mst in
    let xrf : List ℕ = s.xrf in
    record {
      done = recount_done mst xrf;
      only = recount_only mst xrf;
      sound = λ e. rw (recount_left mst xrf e) (right mst xrf (of_done mst xrf e));
      count = λ e. rw (recount_left mst xrf e) (counted mst xrf (of_done mst xrf e));
      long = either mst xrf (λ (t : Store). length t.mst ≡ length mst) (λ e. size mst xrf (of_done mst xrf e)) refl;
      kept = λ i off. either mst xrf (λ (t : Store). get_or t.mst i 0 ≡ get_or mst i 0) (λ e. bytes mst xrf (of_done mst xrf e) i off) refl;
      xrf = either mst xrf (λ (t : Store). t.xrf ≡ xrf) (λ e. refl) refl;
      nothing = nothing_changed mst xrf;
    }
