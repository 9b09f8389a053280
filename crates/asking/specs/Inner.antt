-- Inner: serves functions of this crate, no part of what is promised. All fields of a version, over
-- the fronts of the lists that are lent.
use Rattle.std.specs.Prelude.{ℕ, ◌-◌, List, [], ◌∷◌, Result}
use Rattle.word.specs.Overwrite.{part}
use Rattle.layout.specs.Leader.{leader_of}
use Rattle.store.specs.Answer.{refuse, lowest, give}
use Rattle.store.specs.declared.answer.Refusal.{Refusal}
use Rattle.store.specs.declared.answer.Refusal.TheVariants.{NoRoomInList}
use Rattle.asking.specs.Listing.{Lists, short_for, leaves}
use Rattle.views.specs.declared.views.Version.{Version}

abbrev pub version_bytes : List ℕ → Version → List ℕ
version_bytes mst v = part mst v.at (v.end - v.at)

unfoldable pub listed_in : List ℕ → Version → Lists → Result ℕ Refusal
listed_in mst v l = give (lowest (refuse NoRoomInList (short_for (version_bytes mst v) l) ∷ [])) (leader_of (version_bytes mst v)).nvf

unfoldable pub left_in : List ℕ → Version → Lists → Lists
left_in mst v l = leaves (lowest (refuse NoRoomInList (short_for (version_bytes mst v) l) ∷ [])) v.at (version_bytes mst v) l
