use mathlib.Core.Path.{◌≡◌}
use mathlib.Core.Bool.{true}
use Rattle.index.specs.Layout.{plain}
use Rattle.index.specs.Rules.{punts_right}
use Rattle.index.proofs.rules.punts_right.Given as goal

abbrev pub invariant-loop-i : goal.invariant-loop-i
invariant-loop-i l = punts_right l.file (plain l.s) l.n l.i ≡ true
