-- Before turn i `key` is key i - 1: that all keys ascend says that those behind it do.
use Prim.Native.Nat.{◌+◌, ◌-◌, ◌*◌}
use mathlib.Core.Path.{◌≡◌}
use Rattle.word.specs.Overwrite.{part}
use Rattle.terms.specs.Key.{ascending, ascending_after}
use Rattle.terms.specs.Inner.{big, keys_run}
use Rattle.terms.proofs.key.keys_ascend.Given as goal

abbrev pub invariant-loop-i : goal.invariant-loop-i
invariant-loop-i l =
    (l.key + l.step ≡ l.at + l.i * l.step) ×
    (ascending (keys_run l.file l.at l.step l.width l.count) ≡ ascending_after (part l.file l.key l.width) (keys_run l.file (l.key + l.step) l.step l.width (l.count - l.i))) ×
    (l.x ≡ big (part l.file l.key 8))
