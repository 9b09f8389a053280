-- Inner: serves the functions of this crate, no part of what is promised. A call that shows a field
-- finds the version that it reads, current or settled, and then shows a field of it.
use Rattle.std.specs.Prelude.{ℕ, ◌+◌, ◌-◌, ◌≤◌, ◌≡◌, Bool, ◌&&◌, cond, List, [], ◌∷◌, length, Option, Some, None, Result, Ok, Err}
use Rattle.word.specs.Overwrite.{part}
use Rattle.files.specs.Control.{end_of}
use Rattle.layout.specs.Entry.{place_address}
use Rattle.layout.specs.declared.entry.Mark.TheVariants.{Changed}
use Rattle.layout.specs.declared.entry.Place.{Place}
use Rattle.layout.specs.declared.leader.Leader.{Leader}
use Rattle.record.specs.Fields.{find_of}
use Rattle.record.specs.Record.{Readable}
use Rattle.walking.specs.Walker.{walked_at}
use Rattle.record.specs.declared.fields.Span.{Span}
use Rattle.record.specs.declared.fields.NotFound.{NotFound}
use Rattle.record.specs.declared.fields.NotFound.TheVariants.{Fewer, Missing}
use Rattle.walking.specs.declared.walker.Spot.{Spot}
use Rattle.store.specs.Store.{Store}
use Rattle.store.specs.Answer.{refuse, lowest, give, Answer}
use Rattle.store.specs.Reading.{place_for, is_settled, is_changed, is_new, back_address}
use Rattle.store.specs.declared.answer.Refusal.{Refusal}
use Rattle.store.specs.declared.answer.Refusal.TheVariants.{Deleted, NeverSettled, NoField, FewerFields}
use Rattle.views.specs.Views.{on_current, on_settled, settled_address}
use Rattle.views.specs.declared.views.Version.{Version}

-- ---- the version

abbrev pub version_at : ℕ → ℕ → Version
version_at at end = record { at = at; end = end }

-- the current version of MFN m, and its settled version, where none of the refusals before 12
-- applies
unfoldable pub current_version : Store → ℕ → Result Version Refusal
current_version s m = give (lowest (on_current s m [])) (version_at (place_address (place_for s m)) (end_of s.mst))

unfoldable pub settled_version : Store → ℕ → Result Version Refusal
settled_version s m = give (lowest (on_settled s m [])) (version_at (settled_address s.mst (place_for s m)) (end_of s.mst))

-- the settled version of a record that was found with it: 9 and 11 by the mark; else the back place
-- under changed, and the record's own place
unfoldable pub settled_of : ℕ → Place → Leader → Result Version Refusal
settled_of end p l =
    give (lowest (refuse Deleted (p.deleted && is_settled p.mark) ∷ refuse NeverSettled (is_new p.mark) ∷ []))
    (version_at (cond (is_changed p.mark) (back_address l) (place_address p)) end)

-- the two places have addresses
pub record Located (p : Place) (l : Leader) : Type 0 where
  pub block : 1 ≤ p.block.0
  pub back_block : p.mark ≡ Changed → 1 ≤ l.mfbwb.0

-- a version can be read from its address up to the end
pub record ReadableAt (mst : List ℕ) (at end : ℕ) : Type 0 where
  pub end_in : end ≤ length mst
  pub before : at ≤ end
  pub readable : Readable (part mst at (end - at))

-- ---- what is shown of it

-- one more answer, behind the refusals of a version
abbrev pub lastly : Answer → Bool → Answer
lastly a applies = cond applies a (Ok tt)

-- what a search in the record at an address shows
abbrev pub shown_found : ℕ → Result Span NotFound → Result Span Refusal
shown_found at (Ok s) = Ok (record { start = at + s.start; len = s.len })
shown_found at (Err (Fewer n)) = Err (FewerFields n)
shown_found at (Err Missing) = Err NoField

unfoldable pub shown_in : List ℕ → ℕ → ℕ → Version → Result Span Refusal
shown_in mst tag occ v = shown_found v.at (find_of (part mst v.at (v.end - v.at)) tag occ)

-- what stands at a directory index of the record at an address
abbrev pub shown_walked : ℕ → Option Spot → Result Spot Refusal
shown_walked at (Some s) = Ok (record { tag = s.tag; start = at + s.start; len = s.len })
shown_walked at None = Err NoField

unfoldable pub walked_in : List ℕ → ℕ → Version → Result Spot Refusal
walked_in mst i v = shown_walked v.at (walked_at (part mst v.at (v.end - v.at)) i)
