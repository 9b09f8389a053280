-- What each answer makes of what is given and of the lent list.
use Prim.Native.Nat.{ℕ, ◌≤◌, ◌<◌}
use mathlib.Core.Path.{◌≡◌}
use mathlib.Core.Bool.{Bool, true, false}
use mathlib.Core.List.{List}
use lib.ListN.{length}
use borrow.Author.Tests.{lt-ltb, le-ltb}
use Rattle.word.specs.Overwrite.{overwrite}
use Rattle.std.proofs.Common.{Result, Ok, Err}
use Rattle.posting.specs.declared.answer.Refusal.{Refusal}
use Rattle.posting.specs.declared.answer.Refusal.TheVariants.{NoRoom, Broken}
use Rattle.postings.specs.Calls.{given, given_of, given_out}

-- what is given or refused, and the lent list afterwards
pub record Answered (right : Bool) (items out : List ℕ) (r : Result ℕ Refusal) (last : List ℕ) : Type 0 where
  pub answers : given r ≡ given_of right items out
  pub writes : last ≡ given_out right items out

module _ (right : Bool) (items out : List ℕ) where
  pub answered_broken : right ≡ false → Answered right items out (Err Broken) out
  unfolding given_of given_out
  answered_broken e = record { answers = rw e; writes = rw e }

  module _ (e : right ≡ true) where
    pub answered_full : length out < length items → Answered right items out (Err NoRoom) out
    unfolding given_of given_out
    answered_full h = record { answers = rw (e, lt-ltb _ _ h); writes = rw (e, lt-ltb _ _ h) }

    pub answered : (n : ℕ) (last : List ℕ) → length items ≤ length out → n ≡ length items → last ≡ overwrite out 0 items
        → Answered right items out (Ok n) last
    unfolding given_of given_out
    answered n last h c p = record { answers = rw (e, le-ltb _ _ h, c); writes = rw (e, le-ltb _ _ h, p) }
