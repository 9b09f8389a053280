-- What a search in a right record shows is what its list of fields names.
use Rattle.std.specs.Prelude.{Result, Ok, Err}
use Prim.Native.Nat.{ℕ, ◌+◌}
use mathlib.Core.Path.{◌≡◌, refl}
use mathlib.Core.Bool.{Bool}
use mathlib.Core.List.{List}
use Rattle.word.specs.Overwrite.{part}
use Rattle.layout.specs.declared.leader.Leader.{Leader}
use Rattle.record.specs.Fields.{Field, field_named, find_of}
use Rattle.record.specs.declared.fields.Span.{Span}
use Rattle.record.specs.declared.fields.NotFound.{NotFound}
use Rattle.record.proofs.Local.{ReadsAs}
use Rattle.record.proofs.Find.{reads_found, reads_none}
use Rattle.views.specs.Views.{found_start, found_length}
use Rattle.ledger.specs.LedgerAnswers.{bytes_of}

-- a view that is done shows the field's bytes
pub shown_done : (d : List ℕ) (at n : ℕ) {m : ℕ} {deleted : Bool} {l : Leader} {fs : List Field} → ReadsAs (part d at n) m deleted l fs → (tag occ : ℕ)
    → part d (at + found_start (find_of (part d at n) tag occ)) (found_length (find_of (part d at n) tag occ)) ≡ bytes_of (field_named fs tag occ)
shown_done d at n {fs = fs} r tag occ = go (find_of (part d at n) tag occ) refl
  where
    go : (f : Result Span NotFound) → find_of (part d at n) tag occ ≡ f → part d (at + found_start f) (found_length f) ≡ bytes_of (field_named fs tag occ)
    go (Ok s) e = rw (reads_found d at n r tag occ s e)
    go (Err x) e = rw (reads_none r tag occ (rw e))
