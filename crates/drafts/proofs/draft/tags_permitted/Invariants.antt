-- `tags_permitted`: the tags before i are in range.
use mathlib.Core.Path.{◌≡◌}
use mathlib.Core.Bool.{true}
use lib.ListN.{take}
use Rattle.std.specs.List.{list_all}
use Rattle.layout.specs.Sizes.{tag_permitted}
use Rattle.drafts.proofs.draft.tags_permitted.Given as goal

abbrev pub invariant-loop-i : goal.invariant-loop-i
invariant-loop-i l = list_all tag_permitted (take l.i l.tags) ≡ true
