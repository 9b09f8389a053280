-- A walk that the field walker makes, as the fields that it has left to hand out.
use Rattle.std.specs.Prelude.{◌-◌, List}
use Rattle.walking.specs.Walker.{spots_from}
use Rattle.walking.specs.declared.walker.Spot.{Spot}
use Rattle.walking.specs.declared.walker.FieldWalker.{FieldWalker}

abbrev pub spots_left : FieldWalker → List Spot
spots_left w = spots_from w.rec.now (w.count - w.index) w.index
