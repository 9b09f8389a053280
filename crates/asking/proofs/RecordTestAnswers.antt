-- What the test of one record alone says, by what `test_record` found.
use Rattle.std.specs.Prelude.{Result, Ok, Err}
use Prim.Native.Nat.{ℕ}
use mathlib.Core.Path.{◌≡◌, sym, ◌∙◌}
use mathlib.Core.Bool.{Bool}
use mathlib.Core.List.{List}
use Rattle.layout.specs.declared.leader.Leader.{Leader}
use Rattle.record.specs.Inner.{test_of}
use Rattle.record.specs.declared.test.Broken.{Broken}
use Rattle.record.proofs.Facts.{test_right, test_broken}
use Rattle.record.proofs.Theorems.{tells_which}
use Rattle.asking.specs.RecordTest.{tested, record_test_of}

module _ (rec : List ℕ) (m : ℕ) (deleted : Bool) (t : Result Leader Broken) (p : t ≡ test_of rec m deleted) where
  pub test_passes : (l : Leader) → t ≡ Ok l → tested (Ok tt) ≡ record_test_of rec m deleted
  unfolding record_test_of
  test_passes l q =
      let f = test_right rec m deleted l (sym p ∙ q) in
      rw (f.0, ((tells_which rec m deleted).passes.0 f.0).1)

  pub test_fails : (b : Broken) → t ≡ Err b → tested (Err b) ≡ record_test_of rec m deleted
  unfolding record_test_of
  test_fails b q =
      let f = test_broken rec m deleted b (sym p ∙ q) in
      rw (f.0, f.1)

pub ruleset record_test_answers = (test_passes, test_fails)
