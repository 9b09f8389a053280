-- What is reported of a call: five numbers, the answers that it lists behind them, and the bytes shown.
use Rattle.std.specs.Prelude.{ℕ, List, [], ◌∷◌}
use Rattle.script.specs.declared.report.Outcome.{Outcome}

-- the answer's number, the MFN, the length of what is shown, the count, how many answers are listed
abbrev pub outcome_size : ℕ
outcome_size = 5

-- in that order
abbrev pub five_of : Outcome → List ℕ
five_of o = o.answer ∷ o.mfn ∷ o.len ∷ o.count ∷ o.listed ∷ []
