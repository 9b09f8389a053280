-- The fields that a record's directory names, and the search among them. Document 01, "Records" and answer 12; request C-15, answer 15.
use Rattle.std.specs.Prelude.{ℕ, zero, suc, ◌+◌, ◌-◌, Bool, ◌||◌, cond, List, [], ◌∷◌, ◌++◌, eqb, ltb, Result, Ok, Err}
use Rattle.std.proofs.Math.Option.{Option, some, none}
use Rattle.word.specs.Overwrite.{part}
use Rattle.layout.specs.Leader.{leader_of}
use Rattle.record.specs.Directory.{tag_at, pos_at, len_at}
use Rattle.record.specs.declared.fields.Span.{Span}
use Rattle.record.specs.declared.fields.NotFound.{NotFound}
use Rattle.record.specs.declared.fields.NotFound.TheVariants.{Missing, Fewer}

-- a field: its tag and its bytes
pub record Field : Type 0 where
  pub tag : ℕ
  pub bytes : List ℕ

-- the field of directory entry i: LEN bytes from BASE + POS on
abbrev pub field_at : List ℕ → ℕ → ℕ → Field
field_at rec base i = record { tag = tag_at rec i; bytes = part rec (base + pos_at rec i) (len_at rec i) }

-- k fields from entry i on
unfoldable pub fields_from : List ℕ → ℕ → ℕ → ℕ → List Field
fields_from rec base zero i = []
fields_from rec base (suc k) i = field_at rec base i ∷ fields_from rec base k (i + 1)

-- the fields of a record, in directory order
unfoldable pub fields_of : List ℕ → List Field
fields_of rec = fields_from rec (leader_of rec).base (leader_of rec).nvf 0

-- the bytes of the occ-th field of a tag, counted from 1
unfoldable pub field_named : List Field → ℕ → ℕ → Option (List ℕ)
field_named [] tag occ = none
field_named (f ∷ fs) tag occ =
    cond (eqb f.tag tag) (cond (eqb occ 1) (some f.bytes) (field_named fs tag (occ - 1))) (field_named fs tag occ)

-- how many fields have a tag
unfoldable pub occurrences_of : List Field → ℕ → ℕ
occurrences_of [] tag = 0
occurrences_of (f ∷ fs) tag = cond (eqb f.tag tag) (suc (occurrences_of fs tag)) (occurrences_of fs tag)

-- occurrence 0 is asked, or the tag does not occur
unfoldable pub is_missing : List Field → ℕ → ℕ → Bool
is_missing fs tag occ = eqb occ 0 || eqb (occurrences_of fs tag) 0

-- the tag occurs fewer times than asked
unfoldable pub is_fewer : List Field → ℕ → ℕ → Bool
is_fewer fs tag occ = ltb (occurrences_of fs tag) occ

-- where in the record the field of directory entry i lies
abbrev pub span_at : List ℕ → ℕ → ℕ → Span
span_at rec base i = record { start = base + pos_at rec i; len = len_at rec i }

-- where in the record the occ-th field of a tag lies, among k entries from entry i on
unfoldable pub find_from : List ℕ → ℕ → ℕ → ℕ → ℕ → ℕ → Result Span NotFound
find_from rec base zero i tag occ = Err Missing
find_from rec base (suc k) i tag occ =
    cond (eqb (tag_at rec i) tag)
    (cond (eqb occ 1) (Ok (span_at rec base i)) (find_from rec base k (i + 1) tag (occ - 1)))
    (find_from rec base k (i + 1) tag occ)

-- THE SEARCH: missing; or fewer, with the number of occurrences; or where the field lies
unfoldable pub find_of : List ℕ → ℕ → ℕ → Result Span NotFound
find_of rec tag occ =
    cond (is_missing (fields_of rec) tag occ) (Err Missing)
    (cond (is_fewer (fields_of rec) tag occ) (Err (Fewer (occurrences_of (fields_of rec) tag)))
    (find_from rec (leader_of rec).base (leader_of rec).nvf 0 tag occ))

-- the bytes that lie there
abbrev pub found_bytes : List ℕ → Result Span NotFound → Option (List ℕ)
found_bytes rec (Ok s) = some (part rec s.start s.len)
found_bytes rec (Err n) = none

-- the data of fields, one after the other
unfoldable pub data_of : List Field → List ℕ
data_of [] = []
data_of (f ∷ fs) = f.bytes ++ data_of fs
