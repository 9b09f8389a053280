-- Rows P1 to P12, by computation: each entry from its number to its bytes and from its bytes to its kind.
use mathlib.Core.Path.{◌≡◌, refl}
use mathlib.Core.List.{map}
use Rattle.word.specs.Integer.{u32_at}
use Rattle.word.specs.Signed.{signed_of, bits_of}
use Rattle.layout.specs.Sizes.{end_moved}
use Rattle.layout.specs.Entry.{well_placed, marked_place, place_of, entry_of}
use Rattle.files.specs.Rows.{calculated, rows}

pub rows_right : map calculated rows ≡ rows
unfolding calculated rows entry_of place_of marked_place well_placed u32_at signed_of bits_of end_moved
rows_right = refl
