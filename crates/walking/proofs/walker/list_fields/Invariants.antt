-- `list_fields`: what the fields that were handed out give is written over the front of each list.
use Rattle.std.proofs.Common.{◌≡◌, length}
use Rattle.walking.specs.Walker.{spot_tag, spot_start, spot_length}
use Rattle.walking.proofs.Walking.{written}
use Rattle.walking.proofs.walker.list_fields.Given as goal

abbrev pub invariant-loop-index : goal.invariant-loop-index
invariant-loop-index l =
    (l.tags ≡ written spot_tag l.rec (length l.yielded) l.initial.tags)
    × (l.starts ≡ written (spot_start l.at) l.rec (length l.yielded) l.initial.starts)
    × (l.lens ≡ written spot_length l.rec (length l.yielded) l.initial.lens)
