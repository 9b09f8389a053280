-- The tests on a mark, by the derived comparison.
use mathlib.Core.Path.{◌≡◌, refl, sym, ◌∙◌}
use mathlib.Core.Bool.{Bool, true, false, not}
use denote.Enum.Bare.{sameb}
use Rattle.word.proofs.Tests.{false_true}
use Rattle.layout.specs.Entry.{is_settled, is_changed}
use Rattle.layout.specs.declared.entry.Mark.{Mark}
use Rattle.layout.specs.declared.entry.Mark.TheVariants.{Settled, Changed, New}
use Rattle.layout.specs.contracts.entry.Mark as mark

-- a mark that is not changed
pub mark_other : (k : Mark) (w : Bool) → w ≡ not (sameb mark.the_type k Changed) → w ≡ true → is_changed k ≡ false
mark_other Settled w e h = refl
mark_other Changed w e h = absurd (false_true (sym e ∙ h))
mark_other New w e h = refl

pub mark_changed : (k : Mark) (w : Bool) → w ≡ not (sameb mark.the_type k Changed) → w ≡ false → k ≡ Changed
mark_changed Settled w e h = absurd (false_true (sym h ∙ e))
mark_changed Changed w e h = refl
mark_changed New w e h = absurd (false_true (sym h ∙ e))

-- one that is settled, and one that is pending
pub mark_settled : (k : Mark) (w : Bool) → w ≡ sameb mark.the_type k Settled → w ≡ true → is_settled k ≡ true
mark_settled Settled w e h = refl
mark_settled Changed w e h = absurd (false_true (sym e ∙ h))
mark_settled New w e h = absurd (false_true (sym e ∙ h))

pub mark_pending : (k : Mark) (w : Bool) → w ≡ sameb mark.the_type k Settled → w ≡ false → is_settled k ≡ false
mark_pending Settled w e h = absurd (false_true (sym h ∙ e))
mark_pending Changed w e h = refl
mark_pending New w e h = refl
