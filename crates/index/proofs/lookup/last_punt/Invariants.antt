-- What all entries give is what those below i do.
use mathlib.Core.Path.{◌≡◌}
use Rattle.index.specs.Lookup.{punt_for, last_punt}
use Rattle.index.proofs.lookup.last_punt.Given as goal

abbrev pub invariant-loop-i : goal.invariant-loop-i
invariant-loop-i l =
    punt_for l.nodes.file.now l.nodes.shape l.key l.n ≡ last_punt l.nodes.file.now l.nodes.shape l.key l.n l.i
