-- The draft of a record: a list of tags, a list of lengths and the data. Document 01, "What the calls do".
use Rattle.std.specs.Prelude.{ℕ, ◌+◌, ◌*◌, ◌/◌, Bool, true, ◌&&◌, List, [], ◌∷◌, eqb, leb, length, take, drop}
use Rattle.layout.specs.Sizes.{record_most, tag_permitted}
use Rattle.record.specs.Fields.{Field}

unfoldable pub sum : List ℕ → ℕ
sum [] = 0
sum (n ∷ ns) = n + sum ns

-- every tag is in range
unfoldable pub tags_permitted : List ℕ → Bool
tags_permitted [] = true
tags_permitted (t ∷ ts) = tag_permitted t && tags_permitted ts

-- need = 18 + 6 × fields + data, rounded up to even
unfoldable pub need_of : ℕ → ℕ → ℕ
need_of fields size = (18 + 6 * fields + size + 1) / 2 * 2

-- the lists are equally long, tags are in range, the lengths sum to the data's length, and the need is at most 32,766
unfoldable pub draft_right : List ℕ → List ℕ → List ℕ → Bool
draft_right tags lens bytes =
    eqb (length tags) (length lens)
    && tags_permitted tags
    && eqb (sum lens) (length bytes)
    && leb (need_of (length tags) (length bytes)) record_most

-- the fields of a draft
unfoldable pub draft_fields : List ℕ → List ℕ → List ℕ → List Field
draft_fields [] lens bytes = []
draft_fields (t ∷ ts) [] bytes = []
draft_fields (t ∷ ts) (n ∷ ns) bytes = record { tag = t; bytes = take n bytes } ∷ draft_fields ts ns (drop n bytes)

-- a list of tags, a list of lengths and the data
pub record Draft : Type 0 where
  pub tags : List ℕ
  pub lens : List ℕ
  pub bytes : List ℕ

abbrev pub draft : List ℕ → List ℕ → List ℕ → Draft
draft tags lens bytes = record { tags = tags; lens = lens; bytes = bytes }

-- the draft is right, and its fields
abbrev pub is_right : Draft → Bool
is_right d = draft_right d.tags d.lens d.bytes

abbrev pub fields_in : Draft → List Field
fields_in d = draft_fields d.tags d.lens d.bytes
