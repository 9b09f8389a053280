-- What the calls that hand out a record's fields one after the other show of the version that they
-- read. The theorem stands last: at each index they hand out the record's field of that number, and
-- from the number of its fields on they answer 12.
use Rattle.std.specs.Prelude.{Option, Some, None, Result, Ok, Err}
use Rattle.std.specs.Option.{ok_or}
use Prim.Native.Nat.{ℕ, ◌+◌, ◌-◌, ◌^◌, ◌≤◌, ◌<◌}
use native.Mathlib.Omega.{arith}
use mathlib.Core.Path.{◌≡◌, refl, sym, ap, ◌∙◌}
use mathlib.Core.Bool.{Bool, true, false, cond}
use mathlib.Core.List.{List, [], ◌∷◌}
use mir.Syntax.{w64}
use mir.Val.{Fits}
use lib.ListN.{length, take, drop}
use borrow.Author.Tests.{le-leb, lt-leb}
use Rattle.word.specs.Overwrite.{part}
use Rattle.word.proofs.Overwrite.{part_part, part_short}
use Rattle.layout.specs.Entry.{place_address}
use Rattle.files.specs.Control.{end_of}
use Rattle.layout.specs.Leader.{leader_of}
use Rattle.record.specs.Directory.{pos_at, len_at}
use Rattle.record.specs.Fields.{Field, fields_of}
use Rattle.walking.specs.Walker.{at_end, spot_at, walked_at}
use Rattle.walking.specs.declared.walker.Spot.{Spot}
use Rattle.record.proofs.FieldData.{fields_count}
use Rattle.record.proofs.Facts.{readable_facts}
use Rattle.walking.proofs.Walking.{field_in_lem, walked_here, walked_is, walked_in_lem}
use Rattle.store.specs.Answer.{number_of, Row, refuse, lowest, after, Answer}
use Rattle.store.specs.Reading.{place_for, record_from, shown_settled, current_fields}
use Rattle.views.specs.Views.{on_current, on_settled, settled_address}
use Rattle.views.specs.Fields.{ShownField, shown_field, field_answer, settled_field_answer, handed_out, field_of, settled_field_of}
use Rattle.views.specs.Versions.{current_version, settled_version, shown_walked, walked_in, ReadableAt}
use Rattle.store.specs.declared.answer.Refusal.{Refusal}
use Rattle.store.specs.declared.answer.Refusal.TheVariants.{NoField}
use Rattle.views.specs.declared.views.Version.{Version}
use Rattle.views.proofs.VersionAnswers.{current_then, settled_then, settled_from, current_readable, settled_readable, NoVersion, FoundVersion, current_none, current_there, settled_none, settled_there, version_within}
use Rattle.store.specs.Store.{store}

-- ---- what is handed out

-- a refused call hands out nothing
handed_refused : (e : Refusal) (at : ℕ) (rec : List ℕ) (i : ℕ) → shown_field (Err e) ≡ handed_out (Err e) at rec i
unfolding handed_out after
handed_refused e at rec i = refl

-- one more answer: 12 past the last entry of the directory
abbrev past_the_end : List ℕ → ℕ → List Row
past_the_end rec i = refuse NoField (at_end rec i) ∷ []

handed_walked : (at : ℕ) (rec : List ℕ) (i : ℕ) → shown_field (shown_walked at (walked_at rec i)) ≡ handed_out (lowest (past_the_end rec i)) at rec i
unfolding walked_at handed_out after
handed_walked at rec i = by (at_end rec i)
  where
    by : (over : Bool) → shown_field (shown_walked at (cond over None (Some (spot_at rec i)))) ≡ handed_out (cond over (Err NoField) (Ok tt)) at rec i
    by true = refl
    by false = refl

-- ---- the field at an index of a version

module _ (mst : List ℕ) (i : ℕ) (v : Version) (o : Option Spot) (x : o ≡ walked_at (part mst v.at (v.end - v.at)) i) where
  walked : (y : Option Spot) → o ≡ y → walked_in mst i v ≡ shown_walked v.at y
  unfolding walked_in
  walked y e = rw (← x, e)

  pub walk_ended : (e : Refusal) → ok_or o NoField ≡ Err e → Err e ≡ walked_in mst i v
  walk_ended e d = by o refl d
    where
      by : (y : Option Spot) → o ≡ y → ok_or y NoField ≡ Err e → Err e ≡ walked_in mst i v
      by None q d = sym d ∙ sym (walked None q)
      by (Some s) q d = let z : ◌≡◌ {A = ℕ} 0 1 = cc in absurd (omega arith)

  module _ (s : Spot) (d : ok_or o NoField ≡ Ok s) where
    there : o ≡ Some s
    there = by o d
      where
        by : (y : Option Spot) → ok_or y NoField ≡ Ok s → y ≡ Some s
        by None d = let z : ◌≡◌ {A = ℕ} 0 1 = cc in absurd (omega arith)
        by (Some t) d = let z : t ≡ s = cc in ap Some z

    pub walk_found : Ok (record { tag = s.tag; start = v.at + s.start; len = s.len }) ≡ walked_in mst i v
    walk_found = sym (walked (Some s) there)

    pub walk_within : ReadableAt mst v.at v.end → v.at + s.start + s.len ≤ length mst
    walk_within h = version_within mst v.at v.end h s.start s.len (walked_in_lem (part mst v.at (v.end - v.at)) i s h.readable (sym x ∙ there))

    pub walk_sum : ReadableAt mst v.at v.end → length mst < 2 ^ 64 → Fits w64 (v.at + s.start)
    walk_sum h n = omega (arith, walk_within h)

-- ---- a call

module _ (mst : List ℕ) (table : List Row → List Row) (at i : ℕ) where
  abbrev asked : Answer
  asked = lowest (table (past_the_end (record_from mst at) i))

  unversioned : (e : Refusal) → NoVersion table e → shown_field (Err e) ≡ handed_out asked at (record_from mst at) i
  unversioned e n = rw (n.answers (past_the_end (record_from mst at) i)) (handed_refused e at (record_from mst at) i)

  versioned : (v : Version) (r : Result Spot Refusal) → FoundVersion mst table at v → r ≡ walked_in mst i v
      → shown_field r ≡ handed_out asked at (record_from mst at) i
  unfolding walked_in
  versioned v r n s =
      rw (n.answers (past_the_end (record_from mst at) i), s, n.at_is, n.end_is) (handed_walked at (record_from mst at) i)

module _ (mst xrf : List ℕ) (m i : ℕ) (x : Result Version Refusal) (p : x ≡ current_version (store mst xrf) m) where
  pub field_refused : (e : Refusal) → x ≡ Err e → shown_field (Err e) ≡ field_of (store mst xrf) m i
  unfolding field_of field_answer
  field_refused e q =
      unversioned mst (on_current (store mst xrf) m) (place_address (place_for (store mst xrf) m)) i e (current_none mst xrf m x p e q)

  pub field_handed : (v : Version) (r : Result Spot Refusal) → x ≡ Ok v → r ≡ walked_in mst i v → shown_field r ≡ field_of (store mst xrf) m i
  unfolding field_of field_answer
  field_handed v r q s =
      versioned mst (on_current (store mst xrf) m) (place_address (place_for (store mst xrf) m)) i v r (current_there mst xrf m x p v q) s

module _ (mst xrf : List ℕ) (m i : ℕ) (x : Result Version Refusal) (p : x ≡ settled_version (store mst xrf) m) where
  pub settled_field_refused : (e : Refusal) → x ≡ Err e → shown_field (Err e) ≡ settled_field_of (store mst xrf) m i
  unfolding settled_field_of settled_field_answer
  settled_field_refused e q =
      rw (← settled_from mst (place_for (store mst xrf) m))
      (unversioned mst (on_settled (store mst xrf) m) (settled_address mst (place_for (store mst xrf) m)) i e (settled_none mst xrf m x p e q))

  pub settled_field_handed : (v : Version) (r : Result Spot Refusal) → x ≡ Ok v → r ≡ walked_in mst i v → shown_field r ≡ settled_field_of (store mst xrf) m i
  unfolding settled_field_of settled_field_answer
  settled_field_handed v r q s =
      rw (← settled_from mst (place_for (store mst xrf) m))
      (versioned mst (on_settled (store mst xrf) m) (settled_address mst (place_for (store mst xrf) m)) i v r (settled_there mst xrf m x p v q) s)

pub ruleset walk_answers =
    (walk_ended, walk_found, walk_within, walk_sum, field_refused, field_handed, settled_field_refused, settled_field_handed, arith)

-- ---- every field is handed out, and no more

-- the field that is shown
abbrev pub field_shown : List ℕ → ShownField → Field
field_shown mst s = record { tag = s.tag.0; bytes = part mst s.start s.len }

-- what a call hands out at index i of a list of fields: the field of that number, counted from 0,
-- and 12 past the last one
pub record HandsOut (mst : List ℕ) (fields : List Field) (i : ℕ) (s : ShownField) : Type 0 where
  pub there : i < length fields → (s.answer ≡ Ok tt) × (field_shown mst s ∷ [] ≡ take 1 (drop i fields))
  pub past : length fields ≤ i → s.answer ≡ Err NoField

module _ (mst : List ℕ) (at end i : ℕ) (h : ReadableAt mst at end) where
  abbrev rec : List ℕ
  rec = part mst at (end - at)

  -- the bytes of a field, as a part of the MST and as one of the record
  bytes_same : i < (leader_of rec).nvf → part mst (at + ((leader_of rec).base + pos_at rec i)) (len_at rec i) ≡ part rec ((leader_of rec).base + pos_at rec i) (len_at rec i)
  bytes_same l =
      sym
      (part_part mst at (end - at) ((leader_of rec).base + pos_at rec i) (len_at rec i)
      (omega (arith, field_in_lem rec i h.readable l, (readable_facts h.readable).record_in, part_short mst at (end - at))))

  hands_out : (a : Answer) → a ≡ Ok tt → HandsOut mst (fields_of rec) i (handed_out (after a (lowest (past_the_end rec i)) a) at rec i)
  unfolding handed_out after number_of
  hands_out a e =
      record {
        there =
            λ l.
            let n : i < (leader_of rec).nvf = omega (arith, fields_count rec) in
            (rw (e, lt-leb _ _ n), rw (e, lt-leb _ _ n, ← walked_is rec i, walked_here rec i n, bytes_same n));
        past = λ l. let n : (leader_of rec).nvf ≤ i = omega (arith, fields_count rec) in rw (e, le-leb _ _ n);
      }

module _ (mst xrf : List ℕ) (m i : ℕ) where
  -- where the current version is found, the fields that are handed out are its fields
  pub handed_out_lem : lowest (on_current (store mst xrf) m []) ≡ Ok tt → HandsOut mst (current_fields mst (place_for (store mst xrf) m)) i (field_of (store mst xrf) m i)
  unfolding field_of field_answer
  handed_out_lem e =
      rw (current_then mst xrf m (past_the_end (record_from mst (place_address (place_for (store mst xrf) m))) i))
      (hands_out mst (place_address (place_for (store mst xrf) m)) (end_of mst) i (current_readable mst xrf m e) (lowest (on_current (store mst xrf) m [])) e)

  -- and those of the settled version the fields of the record that the settled view reads
  pub settled_handed_out : lowest (on_settled (store mst xrf) m []) ≡ Ok tt
      → HandsOut mst (fields_of (shown_settled mst (place_for (store mst xrf) m))) i (settled_field_of (store mst xrf) m i)
  unfolding settled_field_of settled_field_answer
  settled_handed_out e =
      rw (settled_then mst xrf m (past_the_end (shown_settled mst (place_for (store mst xrf) m)) i), ← settled_from mst (place_for (store mst xrf) m))
      (hands_out mst (settled_address mst (place_for (store mst xrf) m)) (end_of mst) i (settled_readable mst xrf m e) (lowest (on_settled (store mst xrf) m [])) e)
