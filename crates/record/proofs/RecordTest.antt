-- What the functions of the record test return, by what their tests found. Each law's premises are what is known at one `return`, so that
-- `search test_answers` finds them there. And what a test that passed tells the caller.
use Prim.Native.Nat.{ℕ, zero, suc, ◌+◌, ◌*◌, ◌-◌, ◌<◌, ◌≤◌}
use native.Mathlib.Omega.{arith}
use mathlib.Core.Path.{◌≡◌, refl, sym, ◌∙◌}
use mathlib.Core.Bool.{Bool, true, false, cond}
use mathlib.Core.List.{List}
use lib.Dec.{eqb}
use lib.ListN.{length}
use borrow.Author.Tests.{ne_eqb}
use Rattle.layout.specs.Leader.{leader_of}
use Rattle.layout.specs.declared.leader.Leader.{Leader}
use Rattle.record.specs.Directory.{isis, directory_right}
use Rattle.record.specs.Record.{leader_right, fields_broken, record_right, broken_entry, Readable}
use Rattle.record.specs.Inner.{broken_of, right_leader, told, test_of}
use Rattle.std.proofs.Common.{Some, None, Ok, Err}
use Rattle.record.specs.declared.test.Broken.TheVariants.{Leader as BadLeader, Entry as BadEntry}
use Rattle.record.proofs.Facts.{LeaderFacts, leader_facts, test_right, right_readable}
use Rattle.record.proofs.DirectoryTest.{right_none}

-- ---- the leader

told_cases : (b : Bool) (l k : Leader) → Some k ≡ cond b (Some l) None → (b ≡ true) × (k ≡ l)
told_cases true l k e = (refl, (cc))
told_cases false l k e = absurd (cc)

none_case : (b : Bool) (l : Leader) → None ≡ cond b (Some l) None → b ≡ false
none_case true l e = absurd (cc)
none_case false l e = refl

module _ (rec : List ℕ) (m : ℕ) (deleted : Bool) where
  abbrev passes : Bool
  passes = leader_right m deleted (length rec) (leader_of rec)

  pub leader_short : length rec < 18 → None ≡ right_leader rec m deleted
  unfolding right_leader
  leader_short h = by passes refl
    where
      by : (b : Bool) → leader_right m deleted (length rec) (leader_of rec) ≡ b → None ≡ cond b (Some (leader_of rec)) None
      by true e = let f = leader_facts m deleted (length rec) (leader_of rec) e in absurd (omega arith)
      by false e = refl

  -- it is not right, so no entry is looked at
  pub answer_leader : None ≡ right_leader rec m deleted → Err BadLeader ≡ test_of rec m deleted
  unfolding right_leader test_of record_right broken_entry
  answer_leader e = rw (none_case passes (leader_of rec) e)

  module _ (l : Leader) (e : Some l ≡ right_leader rec m deleted) where
    leader_told : (passes ≡ true) × (l ≡ leader_of rec)
    unfolding right_leader
    leader_told = told_cases passes (leader_of rec) l e

    facts : LeaderFacts m deleted (length rec) l
    facts = let q = leader_told in rw q.1 (leader_facts m deleted (length rec) (leader_of rec) q.0)

    pub need_room : l.base ≤ l.mfrl
    need_room = facts.base_in

    pub need_directory : (18 + 6 * l.nvf ≤ length rec) × (l.nvf ≤ 65535) × (l.mfrl - l.base ≤ 65535)
    need_directory = let f = facts in omega arith

    -- its entries are asked
    broken_is : broken_entry rec m deleted ≡ fields_broken rec l
    unfolding broken_entry
    broken_is = let q = leader_told in rw (q.0, ← q.1)

    right_is : record_right rec m deleted ≡ eqb (fields_broken rec l) 0
    unfolding record_right directory_right
    right_is = let q = leader_told in rw (q.0, ← q.1) (right_none isis rec (l.mfrl - l.base) l.nvf 0 0)

    answered : (n : ℕ) → fields_broken rec l ≡ n → test_of rec m deleted ≡ cond (eqb n 0) (Ok l) (Err (broken_of n))
    unfolding test_of
    answered n k = rw (right_is, broken_is, ← leader_told.1, k)

    by_none : (n : ℕ) → Ok tt ≡ told n → Ok l ≡ cond (eqb n 0) (Ok l) (Err (broken_of n))
    by_none zero k = refl
    by_none (suc n) k = absurd (cc)

    by_first : (n k : ℕ) → Err k ≡ told n → Err (BadEntry k) ≡ cond (eqb n 0) (Ok l) (Err (broken_of n))
    by_first zero k h = absurd (cc)
    by_first (suc n) k h = rw (ne_eqb (suc n) 0 (λ z. omega arith)) (cc)

    pub answer_right : Ok tt ≡ told (fields_broken rec l) → Ok l ≡ test_of rec m deleted
    answer_right k = by_none (fields_broken rec l) k ∙ sym (answered (fields_broken rec l) refl)

    pub answer_wrong : (k : ℕ) → Err k ≡ told (fields_broken rec l) → Err (BadEntry k) ≡ test_of rec m deleted
    answer_wrong k h = by_first (fields_broken rec l) k h ∙ sym (answered (fields_broken rec l) refl)

-- ---- what a test that passed tells

pub readable : (rec : List ℕ) (m : ℕ) (deleted : Bool) (l : Leader) → test_of rec m deleted ≡ Ok l → Readable rec
readable rec m deleted l e = right_readable rec m deleted (test_right rec m deleted l e).0
