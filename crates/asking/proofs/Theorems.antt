-- WHICH ENTRY the test of one record alone says, on any bytes: the answer by whether the record
-- passes, the number by `tells_which`.
use Prim.Native.Nat.{ℕ, ◌≤◌}
use native.Mathlib.Omega.{arith}
use mathlib.Core.Path.{◌≡◌, refl, sym, ◌∙◌}
use mathlib.Core.Logic.{◌⊎◌, inl, inr, ⊎_elim}
use mathlib.Core.Bool.{Bool, true, false}
use mathlib.Core.List.{List}
use lib.ListN.{length}
use Rattle.word.proofs.Tests.{false_true}
use Rattle.layout.specs.Leader.{leader_of}
use Rattle.record.specs.Record.{leader_right, record_right, broken_entry}
use Rattle.record.specs.Theorems.{TellsWhich}
use Rattle.record.proofs.Theorems.{tells_which}
use Rattle.store.specs.Answer.{number_of}
use Rattle.asking.specs.RecordTest.{record_test_of}
use Rattle.asking.specs.Theorems.{SaysWhichEntry}

module _ (rec : List ℕ) (m : ℕ) (deleted : Bool) where
  abbrev answered : ℕ
  answered = number_of (record_test_of rec m deleted).answer

  told : TellsWhich rec m deleted
  told = tells_which rec m deleted

  zero_of : record_right rec m deleted ≡ true → answered ≡ 0
  unfolding record_test_of number_of
  zero_of e = rw e

  eight_of : record_right rec m deleted ≡ false → answered ≡ 8
  unfolding record_test_of number_of
  eight_of e = rw e

  either : (b : Bool) → (b ≡ true) ⊎ (b ≡ false)
  either true = inl refl
  either false = inr refl

  right_of : answered ≡ 0 → record_right rec m deleted ≡ true
  right_of h = ⊎_elim (λ e. e) (λ e. absurd (omega (arith, h, eight_of e))) (either (record_right rec m deleted))

  wrong_of : answered ≡ 8 → record_right rec m deleted ≡ false
  wrong_of h = ⊎_elim (λ e. absurd (omega (arith, h, zero_of e))) (λ e. e) (either (record_right rec m deleted))

  -- a record does not pass whose leader fails, or of which an entry is told
  failed : (record_right rec m deleted ≡ true → ⊥) → answered ≡ 8
  failed h = ⊎_elim (λ e. absurd (h e)) eight_of (either (record_right rec m deleted))

  by_leader : leader_right m deleted (length rec) (leader_of rec) ≡ false → answered ≡ 8
  by_leader e = failed (λ h. false_true (sym e ∙ (told.passes.0 h).0))

  by_entry : (n : ℕ) → 1 ≤ n → broken_entry rec m deleted ≡ n → answered ≡ 8
  by_entry n l e = failed (λ h. omega (arith, e, (told.passes.0 h).1))

  -- with 8 and 0 the leader is what fails
  is_leader : answered ≡ 8 → broken_entry rec m deleted ≡ 0 → leader_right m deleted (length rec) (leader_of rec) ≡ false
  is_leader h e = ⊎_elim (λ r. absurd (false_true (sym (wrong_of h) ∙ r))) (λ l. l) (told.none.0 e)

  pub says_which_entry : SaysWhichEntry rec m deleted
  unfolding record_test_of
  says_which_entry =
      record {
        passes = (right_of, zero_of);
        unbroken = λ h. (told.passes.0 (right_of h)).1;
        fails = (wrong_of, eight_of);
        leader = ((λ q. is_leader q.0 q.1), (λ e. (by_leader e, told.none.1 (inr e))));
        first = λ n l. ((λ q. (told.first n l).0 q.1), (λ q. let e = (told.first n l).1 q in (by_entry n l e, e)));
      }
