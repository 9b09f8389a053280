-- What a call on lists answers, and the lent list afterwards. Document 02, C-14.
use Rattle.std.specs.Prelude.{ℕ, Bool, cond, List, ltb, length, Result, Ok, Err}
use Rattle.word.specs.Overwrite.{overwrite}
use Rattle.posting.specs.Answer.{Answer, done, leaves}
use Rattle.postings.specs.Segment.{spot}
use Rattle.postings.specs.Rules.{list_of, list_right}
use Rattle.posting.specs.declared.answer.Refusal.{Refusal}
use Rattle.posting.specs.declared.answer.Refusal.TheVariants.{NoRoom, Broken}

-- an answer, and how many items were given: none where it is a refusal
pub record Given : Type 0 where
  pub answer : Answer
  pub count : ℕ

abbrev pub given : Result ℕ Refusal → Given
given (Ok n) = record { answer = done; count = n }
given (Err r) = record { answer = Err r; count = 0 }

-- items that are to be given to a lent list: 23 where a rule is broken, then 17 where it has more items than room
unfoldable pub given_of : Bool → List ℕ → List ℕ → Given
given_of right items out =
    cond right
    (cond (ltb (length out) (length items)) (record { answer = Err NoRoom; count = 0 }) (record { answer = done; count = length items }))
    (record { answer = Err Broken; count = 0 })

-- the lent list afterwards: the items from its front on, and the rest of it kept
unfoldable pub given_out : Bool → List ℕ → List ℕ → List ℕ
given_out right items out = leaves (given_of right items out).answer (overwrite out 0 items) out

-- ---- the call; a place is given as its 32 bits

abbrev pub postings_given : List ℕ → ℕ → ℕ → List ℕ → Given
postings_given f b w out = given_of (list_right f (spot b w)) (list_of f (spot b w)) out

abbrev pub postings_out : List ℕ → ℕ → ℕ → List ℕ → List ℕ
postings_out f b w out = given_out (list_right f (spot b w)) (list_of f (spot b w)) out
