-- What the views show of the version that they read. Each law's premises are what is known at one
-- place of the code, so that the check finds them there by `view_answers`; a callee's result is a
-- variable with what the callee ensures of it.
use Rattle.std.specs.Prelude.{Result, Ok, Err}
use Prim.Native.Nat.{ℕ, ◌+◌, ◌-◌, ◌^◌, ◌≤◌, ◌<◌}
use native.Mathlib.Omega.{arith}
use mathlib.Core.Path.{◌≡◌, refl, sym, ◌∙◌}
use mathlib.Core.List.{List}
use mir.Syntax.{w64}
use mir.Val.{Fits}
use lib.ListN.{length}
use borrow.Author.Tests.{ne_eqb}
use Rattle.word.specs.Overwrite.{part}
use Rattle.layout.specs.Entry.{place_address}
use Rattle.record.specs.Fields.{fields_of, occurrences_of, find_of}
use Rattle.record.specs.declared.fields.Span.{Span}
use Rattle.record.specs.declared.fields.NotFound.{NotFound}
use Rattle.record.specs.declared.fields.NotFound.TheVariants.{Fewer, Missing}
use Rattle.record.proofs.Search.{FoundBy, by_missing, by_fewer, by_span, found_by, found_in}
use Rattle.store.specs.Answer.{refusal_number, number_of, Row, lowest, after, Answer}
use Rattle.store.specs.Reading.{place_for, record_from}
use Rattle.views.specs.Views.{on_current, on_settled, among_fields, Shown, occurrences_told, shown, view_answer, settled_view_answer, found_start, found_length, occurrences_with, shown_at, view_of, settled_address, settled_view_of}
use Rattle.views.specs.Versions.{current_version, settled_version, ReadableAt, shown_found, shown_in}
use Rattle.store.specs.declared.answer.Refusal.{Refusal}
use Rattle.store.specs.declared.answer.Refusal.TheVariants.{BadLength, BadControl, BadDraft, NoMfn, NoSlot, BadEntry, Gone, BadRecord, Deleted, NotPending, NeverSettled, NoField, NoRoom, NotSound, FewerFields, NoRoomInList}
use Rattle.views.specs.declared.views.Version.{Version}
use Rattle.views.proofs.VersionAnswers.{settled_from, NoVersion, FoundVersion, current_none, current_there, settled_none, settled_there, version_within}
use Rattle.store.specs.Store.{store}

-- ---- what is shown

-- no number of occurrences comes with an answer below 12
pub uncounted : (a : Answer) (n : ℕ) → number_of a < 12 → occurrences_with a n ≡ 0
unfolding occurrences_with
uncounted a n l = rw (ne_eqb (number_of a) 15 (λ z. omega arith))

untold : (e : Refusal) → refusal_number e < 12 → occurrences_told e ≡ 0
untold BadLength l = refl
untold BadControl l = refl
untold BadDraft l = refl
untold NoMfn l = refl
untold NoSlot l = refl
untold BadEntry l = refl
untold Gone l = refl
untold BadRecord l = refl
untold Deleted l = refl
untold NotPending l = refl
untold NeverSettled l = refl
untold NoField l = refl
untold NoRoom l = refl
untold NotSound l = refl
untold (FewerFields n) l = absurd (omega arith)
untold NoRoomInList l = refl

-- a view that is refused before its fields are asked is empty
shown_refused : (e : Refusal) (at : ℕ) (rec : List ℕ) (tag occ : ℕ) → refusal_number e < 12 → shown (Err e) ≡ shown_at (Err e) at rec tag occ
unfolding shown_at after number_of
shown_refused e at rec tag occ l = rw (untold e l, uncounted (Err e) (occurrences_of (fields_of rec) tag) l)

-- 12 and 15, of what was found
shown_found_lem : (at : ℕ) (rec : List ℕ) (tag occ : ℕ)
    → shown (shown_found at (find_of rec tag occ)) ≡ shown_at (lowest (among_fields (fields_of rec) tag occ)) at rec tag occ
unfolding shown_at after number_of occurrences_with
shown_found_lem at rec tag occ = go (find_of rec tag occ) (found_by rec tag occ)
  where
    n : ℕ
    n = occurrences_of (fields_of rec) tag

    a : Answer
    a = lowest (among_fields (fields_of rec) tag occ)

    go : (f : Result Span NotFound) → FoundBy (fields_of rec) tag occ f
        → shown (shown_found at f) ≡ record { answer = a; start = after a (at + found_start f) 0; len = after a (found_length f) 0; occurrences = occurrences_with a n }
    go _ (by_missing m) = rw m
    go _ (by_fewer m f) = rw (m, f)
    go _ (by_span s m f) = rw (m, f)

-- ---- a field in a version

module _ (mst : List ℕ) (tag occ : ℕ) (v : Version) (f : Result Span NotFound) (x : f ≡ find_of (part mst v.at (v.end - v.at)) tag occ) where
  pub show_missing : f ≡ Err Missing → Err NoField ≡ shown_in mst tag occ v
  unfolding shown_in
  show_missing d = rw (← x, d)

  pub show_fewer : (n : ℕ) → f ≡ Err (Fewer n) → Err (FewerFields n) ≡ shown_in mst tag occ v
  unfolding shown_in
  show_fewer n d = rw (← x, d)

  module _ (s : Span) (d : f ≡ Ok s) where
    pub show_found : Ok (record { start = v.at + s.start; len = s.len }) ≡ shown_in mst tag occ v
    unfolding shown_in
    show_found = rw (← x, d)

    pub show_within : ReadableAt mst v.at v.end → v.at + s.start + s.len ≤ length mst
    show_within h = version_within mst v.at v.end h s.start s.len (found_in (part mst v.at (v.end - v.at)) tag occ s h.readable (sym x ∙ d))

    pub show_sum : ReadableAt mst v.at v.end → length mst < 2 ^ 64 → Fits w64 (v.at + s.start)
    show_sum h n = omega (arith, show_within h)

-- ---- a view

module _ (mst : List ℕ) (table : List Row → List Row) (at tag occ : ℕ) where
  abbrev asked : Answer
  asked = lowest (table (among_fields (fields_of (record_from mst at)) tag occ))

  unversioned : (e : Refusal) → NoVersion table e → shown (Err e) ≡ shown_at asked at (record_from mst at) tag occ
  unversioned e n = rw (n.answers (among_fields (fields_of (record_from mst at)) tag occ)) (shown_refused e at (record_from mst at) tag occ n.low)

  versioned : (v : Version) (r : Result Span Refusal) → FoundVersion mst table at v → r ≡ shown_in mst tag occ v
      → shown r ≡ shown_at asked at (record_from mst at) tag occ
  unfolding shown_in
  versioned v r n s =
      rw (n.answers (among_fields (fields_of (record_from mst at)) tag occ), s, n.at_is, n.end_is) (shown_found_lem at (record_from mst at) tag occ)

module _ (mst xrf : List ℕ) (m tag occ : ℕ) (x : Result Version Refusal) (p : x ≡ current_version (store mst xrf) m) where
  pub view_refused : (e : Refusal) → x ≡ Err e → shown (Err e) ≡ view_of (store mst xrf) m tag occ
  unfolding view_of view_answer
  view_refused e q =
      unversioned mst (on_current (store mst xrf) m) (place_address (place_for (store mst xrf) m)) tag occ e (current_none mst xrf m x p e q)

  pub view_shown : (v : Version) (r : Result Span Refusal) → x ≡ Ok v → r ≡ shown_in mst tag occ v → shown r ≡ view_of (store mst xrf) m tag occ
  unfolding view_of view_answer
  view_shown v r q s =
      versioned mst (on_current (store mst xrf) m) (place_address (place_for (store mst xrf) m)) tag occ v r (current_there mst xrf m x p v q) s

module _ (mst xrf : List ℕ) (m tag occ : ℕ) (x : Result Version Refusal) (p : x ≡ settled_version (store mst xrf) m) where
  pub settled_view_refused : (e : Refusal) → x ≡ Err e → shown (Err e) ≡ settled_view_of (store mst xrf) m tag occ
  unfolding settled_view_of settled_view_answer
  settled_view_refused e q =
      rw (← settled_from mst (place_for (store mst xrf) m))
      (unversioned mst (on_settled (store mst xrf) m) (settled_address mst (place_for (store mst xrf) m)) tag occ e (settled_none mst xrf m x p e q))

  pub settled_view_shown : (v : Version) (r : Result Span Refusal) → x ≡ Ok v → r ≡ shown_in mst tag occ v → shown r ≡ settled_view_of (store mst xrf) m tag occ
  unfolding settled_view_of settled_view_answer
  settled_view_shown v r q s =
      rw (← settled_from mst (place_for (store mst xrf) m))
      (versioned mst (on_settled (store mst xrf) m) (settled_address mst (place_for (store mst xrf) m)) tag occ v r (settled_there mst xrf m x p v q) s)

pub ruleset view_answers =
    (show_missing, show_fewer, show_found, show_within, show_sum, view_refused, view_shown, settled_view_refused, settled_view_shown, arith)

-- ---- the field itself

module _ (mst xrf : List ℕ) (m tag occ : ℕ) (s : Shown) (n : ℕ) (h : n ≡ number_of s.answer) where
  pub view_number : s ≡ view_of (store mst xrf) m tag occ → n ≡ number_of (view_answer (store mst xrf) m tag occ)
  unfolding view_of shown_at
  view_number e = rw (h, e)

  pub settled_number : s ≡ settled_view_of (store mst xrf) m tag occ → n ≡ number_of (settled_view_answer (store mst xrf) m tag occ)
  unfolding settled_view_of shown_at
  settled_number e = rw (h, e)
