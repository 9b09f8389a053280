-- What the test of one record alone answers, as statements: 0 or 8, and which entry. Request C-16;
-- proved in proofs/Theorems.
use Rattle.std.specs.Prelude.{ℕ, ◌-◌, ◌≤◌, ◌≡◌, ◌↔◌, Bool, true, false, List, length}
use Rattle.layout.specs.Leader.{leader_of}
use Rattle.record.specs.Directory.{isis}
use Rattle.record.specs.Record.{leader_right, record_right}
use Rattle.record.specs.Theorems.{FirstWrong}
use Rattle.store.specs.Answer.{number_of}
use Rattle.asking.specs.RecordTest.{record_test_of}

-- THE CLAIM, of any bytes
pub record SaysWhichEntry (rec : List ℕ) (m : ℕ) (deleted : Bool) : Type 0 where
  -- 0 exactly if the record passes, and then the number is 0
  pub passes : (number_of (record_test_of rec m deleted).answer ≡ 0) ↔ (record_right rec m deleted ≡ true)
  pub unbroken : number_of (record_test_of rec m deleted).answer ≡ 0 → (record_test_of rec m deleted).entry ≡ 0
  -- 8 exactly if it does not
  pub fails : (number_of (record_test_of rec m deleted).answer ≡ 8) ↔ (record_right rec m deleted ≡ false)
  -- 8 and the number 0 exactly if its leader already fails
  pub leader : ((number_of (record_test_of rec m deleted).answer ≡ 8) × ((record_test_of rec m deleted).entry ≡ 0))
      ↔ (leader_right m deleted (length rec) (leader_of rec) ≡ false)
  -- 8 and the number n exactly if the leader passes and entry n, counted from 1, is the first that
  -- is not right
  pub first : (n : ℕ) → 1 ≤ n
      → ((number_of (record_test_of rec m deleted).answer ≡ 8) × ((record_test_of rec m deleted).entry ≡ n))
      ↔ ((leader_right m deleted (length rec) (leader_of rec) ≡ true) × FirstWrong isis rec ((leader_of rec).mfrl - (leader_of rec).base) (leader_of rec).nvf n)
