-- What the sentences on a right draft say, one by one.
use Prim.Native.Nat.{ℕ, ◌≤◌}
use mathlib.Core.Path.{◌≡◌}
use mathlib.Core.Bool.{true}
use mathlib.Core.List.{List}
use lib.ListN.{length}
use Rattle.layout.specs.Sizes.{record_most}
use Rattle.word.proofs.Tests.{tests}
use Rattle.drafts.specs.Draft.{sum, tags_permitted, need_of, draft_right}

-- a right draft
pub record DraftFacts (tags lens bytes : List ℕ) : Type 0 where
  pub equal : length tags ≡ length lens
  pub tags_right : tags_permitted tags ≡ true
  pub total : sum lens ≡ length bytes
  pub need : need_of (length tags) (length bytes) ≤ record_most

pub draft_facts : (tags lens bytes : List ℕ) → draft_right tags lens bytes ≡ true → DraftFacts tags lens bytes
unfolding draft_right
draft_facts tags lens bytes e =
    let q = simp tests at e in
    record { equal = q.0.0.0; tags_right = q.0.0.1; total = q.0.1; need = q.1 }
