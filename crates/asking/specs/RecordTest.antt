-- The record test on one record alone. Request C-16. A record is read from its first byte up to the
-- store's end; its back pointer is not asked, since that needs the mark and the addresses.
use Rattle.std.specs.Prelude.{ℕ, Bool, not, cond, List, eqb, Result, Ok, Err}
use Rattle.record.specs.Record.{record_right, broken_entry, number_told}
use Rattle.record.specs.declared.test.Broken.{Broken}
use Rattle.store.specs.Answer.{Answer}
use Rattle.store.specs.declared.answer.Refusal.TheVariants.{BadRecord}

-- the answer, and the number of the first entry that breaks a rule, counted from 1; 0 where the
-- record passes or its leader already fails
pub record RecordTest : Type 0 where
  pub answer : Answer
  pub entry : ℕ

-- what a test that came out so says
abbrev pub tested : Result Unit Broken → RecordTest
tested (Ok _) = record { answer = Ok tt; entry = 0 }
tested (Err b) = record { answer = Err BadRecord; entry = number_told b }

-- 0 if the record passes, otherwise 8; and the number of the first entry that breaks a rule
unfoldable pub record_test_of : List ℕ → ℕ → Bool → RecordTest
record_test_of rec m deleted = record { answer = cond (record_right rec m deleted) (Ok tt) (Err BadRecord); entry = broken_entry rec m deleted }

-- deleted as a number: 0 or not
abbrev pub is_deleted : ℕ → Bool
is_deleted n = not (eqb n 0)
