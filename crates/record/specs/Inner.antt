-- Inner: serves functions of this crate and what is read of them above, no part of what is promised.
use Rattle.std.specs.Prelude.{ℕ, zero, suc, ◌+◌, Bool, cond, List, length, Option, Some, None, Result, Ok, Err}
use Rattle.layout.specs.Leader.{leader_of}
use Rattle.record.specs.Directory.{Widths, len_in, entry_right}
use Rattle.record.specs.Record.{leader_right, record_right, broken_entry}
use Rattle.layout.specs.declared.leader.Leader.{Leader}
use Rattle.record.specs.declared.test.Broken.{Broken}
use Rattle.record.specs.declared.test.Broken.TheVariants.{Leader as BadLeader, Entry as BadEntry}

-- what is broken, by the number that is told of it: 0 is the leader, and n entry n
abbrev pub broken_of : ℕ → Broken
broken_of zero = BadLeader
broken_of (suc n) = BadEntry (suc n)

-- what the test answers: the leader of a record that passes, or what is broken, the leader or the first entry that breaks a rule
unfoldable pub test_of : List ℕ → ℕ → Bool → Result Leader Broken
test_of rec m deleted = cond (record_right rec m deleted) (Ok (leader_of rec)) (Err (broken_of (broken_entry rec m deleted)))

-- the leader of a record, where it is right
unfoldable pub right_leader : List ℕ → ℕ → Bool → Option Leader
right_leader rec m deleted = cond (leader_right m deleted (length rec) (leader_of rec)) (Some (leader_of rec)) None

-- the sum of the lengths behind k entries from entry i on, after lengths that sum to pos; or the number of the first that is not right
unfoldable pub past : Widths → List ℕ → ℕ → ℕ → ℕ → ℕ → Result ℕ ℕ
past w rec room zero i pos = Ok pos
past w rec room (suc k) i pos = cond (entry_right w rec room i pos) (past w rec room k (i + 1) (pos + len_in w rec i)) (Err (i + 1))

-- what a directory's test tells, by the number: 0 is none
abbrev pub told : ℕ → Result Unit ℕ
told zero = Ok tt
told (suc n) = Err (suc n)
