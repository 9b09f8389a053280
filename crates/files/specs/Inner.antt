-- Inner: serves functions of this crate and what is read of them above, no part of what is promised.
use Rattle.std.specs.Prelude.{ℕ, cond, List, Option, Some, None}
use Rattle.files.specs.Control.{offsets_from, old_offsets_from, next_of, end_of, control_right}
use Rattle.files.specs.declared.control.Rule.{Rule}
use Rattle.files.specs.declared.control.Rule.TheVariants.{Today, Old}
use Rattle.files.specs.declared.control.Control.{Control}

-- the number that offsets are counted from, by a rule
abbrev pub offsets_by : Rule → ℕ
offsets_by Today = offsets_from
offsets_by Old = old_offsets_from

-- what is read of the control record: NXTMFN and the end, where it is right
unfoldable pub control_of : List ℕ → ℕ → Option Control
control_of mst capacity = cond (control_right mst capacity) (Some (record { next = record { 0 = next_of mst }; end = end_of mst })) None
