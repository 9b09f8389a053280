-- The fields of a record by their directory index, counted from 0: the tag, and where in the MST
-- the field lies; tag 0, nowhere and empty, where the call is refused. Document 01, "Records": a
-- field walker hands out tag and field in directory order.
use Rattle.std.specs.Prelude.{ℕ, ◌+◌, List, [], ◌∷◌, Result, Ok, Err}
use Rattle.layout.specs.declared.sizes.Tag.{Tag}
use Rattle.layout.specs.Leader.{leader_of}
use Rattle.layout.specs.Entry.{place_address}
use Rattle.record.specs.Directory.{tag_at, pos_at, len_at}
use Rattle.walking.specs.Walker.{at_end}
use Rattle.walking.specs.declared.walker.Spot.{Spot}
use Rattle.store.specs.Store.{Store}
use Rattle.store.specs.Answer.{Row, refuse, lowest, after, Answer}
use Rattle.store.specs.Reading.{place_for, record_at, shown_settled}
use Rattle.store.specs.declared.answer.Refusal.{Refusal}
use Rattle.store.specs.declared.answer.Refusal.TheVariants.{NoField}
use Rattle.views.specs.Views.{on_current, on_settled, settled_address}

-- the answer, the field's tag, and where in the MST the field lies
pub record ShownField : Type 0 where
  pub answer : Answer
  pub tag : Tag
  pub start : ℕ
  pub len : ℕ

-- what a call that came out so shows
abbrev pub shown_field : Result Spot Refusal → ShownField
shown_field (Ok s) = record { answer = Ok tt; tag = s.tag; start = s.start; len = s.len }
shown_field (Err r) = record { answer = Err r; tag = record { 0 = 0 }; start = 0; len = 0 }

-- 12 where the directory has no entry of that index, of the current version and of the settled one
abbrev pub field_refusals : Store → ℕ → ℕ → List Row
field_refusals s m i = on_current s m (refuse NoField (at_end (record_at s.mst (place_for s m)) i) ∷ [])

unfoldable pub field_answer : Store → ℕ → ℕ → Answer
field_answer s m i = lowest (field_refusals s m i)

abbrev pub settled_field_refusals : Store → ℕ → ℕ → List Row
settled_field_refusals s m i = on_settled s m (refuse NoField (at_end (shown_settled s.mst (place_for s m)) i) ∷ [])

unfoldable pub settled_field_answer : Store → ℕ → ℕ → Answer
settled_field_answer s m i = lowest (settled_field_refusals s m i)

-- directory entry i of a record at an address: its tag, and LEN bytes from BASE + POS on
unfoldable pub handed_out : Answer → ℕ → List ℕ → ℕ → ShownField
handed_out a at rec i =
    record {
      answer = a;
      tag = record { 0 = after a (tag_at rec i) 0 };
      start = after a (at + ((leader_of rec).base + pos_at rec i)) 0;
      len = after a (len_at rec i) 0;
    }

unfoldable pub field_of : Store → ℕ → ℕ → ShownField
field_of s m i = handed_out (field_answer s m i) (place_address (place_for s m)) (record_at s.mst (place_for s m)) i

unfoldable pub settled_field_of : Store → ℕ → ℕ → ShownField
settled_field_of s m i =
    handed_out (settled_field_answer s m i) (settled_address s.mst (place_for s m)) (shown_settled s.mst (place_for s m)) i
