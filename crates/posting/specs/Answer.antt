-- The answers of the calls on postings. Document 02, C-14: 23, then 17; both leave the output unchanged.
use Rattle.std.specs.Prelude.{ℕ, List, Result, Ok, Err}
use Rattle.posting.specs.declared.answer.Refusal.{Refusal}
use Rattle.posting.specs.declared.answer.Refusal.TheVariants.{NoRoom, Broken}

-- done, or why not
abbrev pub Answer : Type 0
Answer = Result Unit Refusal

abbrev pub done : Answer
done = Ok tt

-- the number of each answer, also where something is given with it
abbrev pub refusal_number : Refusal → ℕ
refusal_number NoRoom = 17
refusal_number Broken = 23

abbrev pub number_of : {A : Type 0} → Result A Refusal → ℕ
number_of (Ok _) = 0
number_of (Err r) = refusal_number r

-- a lent list afterwards: the new one where the call is done, the old one where it is refused
abbrev pub leaves : Answer → List ℕ → List ℕ → List ℕ
leaves (Ok _) new old = new
leaves (Err _) new old = old
