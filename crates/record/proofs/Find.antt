-- The field search of a right record, told by its fields: what is found are the bytes of the field that is asked for, and where nothing is
-- found there is no such field.
use Prim.Native.Nat.{ℕ, ◌+◌}
use native.Mathlib.Omega.{arith}
use mathlib.Core.Path.{◌≡◌, sym, ◌∙◌}
use mathlib.Core.Bool.{Bool}
use mathlib.Core.List.{List}
use mathlib.Core.Option.{some, none}
use lib.ListN.{drop, length-take}
use Rattle.word.specs.Overwrite.{part}
use Rattle.word.proofs.Overwrite.{part_part}
use Rattle.layout.specs.declared.leader.Leader.{Leader}
use Rattle.record.specs.Fields.{Field, fields_of, field_named, find_of, found_bytes}
use Rattle.record.specs.Record.{Readable}
use Rattle.std.proofs.Common.{Ok}
use Rattle.record.specs.declared.fields.Span.{Span}
use Rattle.record.proofs.Facts.{readable_facts, right_readable}
use Rattle.record.proofs.Search.{find_field_is, found_in}
use Rattle.record.proofs.Local.{ReadsAs}

-- the record lies in a buffer, and so does the field
pub found_there : (d : List ℕ) (at n : ℕ) → Readable (part d at n) → (tag occ : ℕ) (s : Span)
    → find_of (part d at n) tag occ ≡ Ok s → field_named (fields_of (part d at n)) tag occ ≡ some (part d (at + s.start) s.len)
found_there d at n r tag occ s e =
    let rec : List ℕ = part d at n in
    let h = found_in rec tag occ s r e in
    rw (← find_field_is rec tag occ, e, part_part d at n s.start s.len (omega (arith, (readable_facts r).record_in, length-take n (drop at d))))

pub reads_found : (d : List ℕ) (at n : ℕ) {m : ℕ} {deleted : Bool} {l : Leader} {fs : List Field} → ReadsAs (part d at n) m deleted l fs → (tag occ : ℕ) (s : Span)
    → find_of (part d at n) tag occ ≡ Ok s → field_named fs tag occ ≡ some (part d (at + s.start) s.len)
reads_found d at n {m} {deleted} r tag occ s e =
    rw r.fields at (found_there d at n (right_readable (part d at n) m deleted r.right) tag occ s e)

pub reads_none : {rec : List ℕ} {m : ℕ} {deleted : Bool} {l : Leader} {fs : List Field} → ReadsAs rec m deleted l fs → (tag occ : ℕ)
    → found_bytes rec (find_of rec tag occ) ≡ none → field_named fs tag occ ≡ none
reads_none {rec} r tag occ e = rw (← r.fields) (sym (find_field_is rec tag occ) ∙ e)
