-- A whole list is settled in one call: a fold of settle over the list of MFNs. What a settle
-- answers and leaves is said in `writing/specs` and not again here. Request C-13.
use Rattle.std.specs.Prelude.{ℕ, Bool, not, ◌&&◌, List, [], ◌∷◌, map, eqb, leb, length}
use Rattle.store.specs.Store.{Store}
use Rattle.store.specs.Answer.{Row, refuse, lowest, number_of, after, Answer}
use Rattle.store.specs.declared.answer.Refusal.TheVariants.{NoRoomInList}
use Rattle.writing.specs.Refusals.{settle_answer}
use Rattle.writing.specs.Calls.{settle_leaves}

-- ---- settling each in order

-- the answers
unfoldable pub settle_each_answers : Store → List ℕ → List Answer
settle_each_answers s [] = []
settle_each_answers s (m ∷ ms) = settle_answer s m ∷ settle_each_answers (settle_leaves s m) ms

-- the bytes
unfoldable pub settle_each_leaves : Store → List ℕ → Store
settle_each_leaves s [] = s
settle_each_leaves s (m ∷ ms) = settle_each_leaves (settle_leaves s m) ms

-- ---- the call

-- up to 4,096 MFNs
abbrev pub list_most : ℕ
list_most = 4096

-- the lent list of answers has the same length, and neither is over-long
unfoldable pub lists_right : ℕ → ℕ → Bool
lists_right mfns answers = eqb mfns answers && leb mfns list_most

-- unequal or over-long lists: refusal 17; otherwise the call itself answers 0. It asks for the two
-- lengths alone
abbrev pub settle_list_refusals : ℕ → ℕ → List Row
settle_list_refusals mfns answers = refuse NoRoomInList (not (lists_right mfns answers)) ∷ []

unfoldable pub settle_list_answer : ℕ → ℕ → Answer
settle_list_answer mfns answers = lowest (settle_list_refusals mfns answers)

-- both buffers afterwards, where the list of answers has so many elements; refused, nothing is
-- changed
unfoldable pub settle_list_leaves : Store → List ℕ → ℕ → Store
settle_list_leaves s ms lent = after (settle_list_answer (length ms) lent) (settle_each_leaves s ms) s

-- the list of answers afterwards, each by its number; refused, it is unchanged too
unfoldable pub settle_list_tells : Store → List ℕ → List ℕ → List ℕ
settle_list_tells s ms answers = after (settle_list_answer (length ms) (length answers)) (map number_of (settle_each_answers s ms)) answers
