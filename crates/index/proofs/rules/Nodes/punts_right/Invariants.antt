use mathlib.Core.Path.{◌≡◌}
use mathlib.Core.Bool.{true}
use Rattle.index.specs.Rules.{punts_right}
use Rattle.index.proofs.rules.Nodes.punts_right.Given as goal

abbrev pub invariant-loop-i : goal.invariant-loop-i
invariant-loop-i l = punts_right l.self.file.now l.self.shape l.n l.i ≡ true
