-- The walk over a record's fields. Document 01, "Records": a field walker keeps the record it walks and its place in the directory, and hands
-- out tag and field in directory order. Its place is a directory index, counted from 0.
use Rattle.std.specs.Prelude.{ℕ, zero, suc, ◌+◌, Bool, cond, List, [], ◌∷◌, ◌++◌, map, leb, Option, Some, None}
use Rattle.word.specs.Overwrite.{part}
use Rattle.layout.specs.Leader.{leader_of}
use Rattle.record.specs.Directory.{tag_at, pos_at, len_at}
use Rattle.record.specs.Fields.{Field}
use Rattle.walking.specs.declared.walker.Spot.{Spot}

-- the directory has no entry i: the walk is over
abbrev pub at_end : List ℕ → ℕ → Bool
at_end rec i = leb (leader_of rec).nvf i

-- the field at index i, as a walk hands it out: its tag, and where in the record it lies
abbrev pub spot_at : List ℕ → ℕ → Spot
spot_at rec i = record { tag = record { 0 = tag_at rec i }; start = (leader_of rec).base + pos_at rec i; len = len_at rec i }

-- the field that this is
abbrev pub field_in : List ℕ → Spot → Field
field_in rec s = record { tag = s.tag.0; bytes = part rec s.start s.len }

-- what a walk has handed out when it has come to index k: the field at each index before it, in directory order
unfoldable pub spots_before : List ℕ → ℕ → List Spot
spots_before rec zero = []
spots_before rec (suc k) = spots_before rec k ++ (spot_at rec k ∷ [])

-- what a walk has left to hand out that has come to index i, k fields before the end
unfoldable pub spots_from : List ℕ → ℕ → ℕ → List Spot
spots_from rec zero i = []
spots_from rec (suc k) i = spot_at rec i ∷ spots_from rec k (i + 1)

-- all that a walk hands out
abbrev pub spots_of : List ℕ → List Spot
spots_of rec = spots_before rec (leader_of rec).nvf

-- a field's tag, its start in the bytes in which the record begins at `at`, and its length
abbrev pub spot_tag : Spot → ℕ
spot_tag s = s.tag.0

abbrev pub spot_start : ℕ → Spot → ℕ
spot_start at s = at + s.start

abbrev pub spot_length : Spot → ℕ
spot_length s = s.len

-- of each field that a walk hands out
abbrev pub tags_of : List ℕ → List ℕ
tags_of rec = map spot_tag (spots_of rec)

abbrev pub starts_of : ℕ → List ℕ → List ℕ
starts_of at rec = map (spot_start at) (spots_of rec)

abbrev pub lengths_of : List ℕ → List ℕ
lengths_of rec = map spot_length (spots_of rec)

-- what stands at index i, whatever the index: the field there, or nothing, past the last one
unfoldable pub walked_at : List ℕ → ℕ → Option Spot
walked_at rec i = cond (at_end rec i) None (Some (spot_at rec i))

-- the field that this is, if any
abbrev pub walked_fields : List ℕ → Option Spot → List Field
walked_fields rec (Some s) = field_in rec s ∷ []
walked_fields rec None = []
