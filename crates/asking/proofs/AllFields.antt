-- The calls that hand out all fields at once. Where one is done, the fronts of the lists name
-- exactly the fields of the version that it reads, in directory order, as many as it counts, and
-- what stood behind them stands there still; where it is refused, it counts nothing and leaves the
-- lists as they were.
use Rattle.std.specs.Prelude.{Ok}
use Prim.Native.Nat.{ℕ, ◌+◌, ◌-◌, ◌≤◌, zero-le}
use native.Mathlib.Omega.{arith}
use mathlib.Core.Path.{◌≡◌, refl, sym, ◌∙◌, ap}
use mathlib.Core.Logic.{⊎_elim}
use mathlib.Core.List.{List, [], ◌∷◌, map}
use lib.ListN.{length, take, drop, length-map}
use Rattle.word.specs.Overwrite.{part, overwrite}
use Rattle.word.proofs.Overwrite.{overwrite_front, overwrite_drop_after, part_part, part_short}
use Rattle.layout.specs.Entry.{place_address}
use Rattle.files.specs.Control.{end_of}
use Rattle.layout.specs.Leader.{leader_of}
use Rattle.record.specs.Fields.{fields_of}
use Rattle.walking.specs.Walker.{field_in, spots_of, spot_tag, spot_start, spot_length}
use Rattle.walking.specs.declared.walker.Spot.{Spot}
use Rattle.record.proofs.FieldData.{fields_count}
use Rattle.record.proofs.Facts.{readable_facts}
use Rattle.walking.proofs.Walking.{spots_are, spots_length, Within, spots_within}
use Rattle.store.specs.Answer.{number_of, refuse, after, Answer}
use Rattle.store.specs.Reading.{place_for, record_at, shown_settled, current_fields}
use Rattle.store.specs.Store.{store}
use Rattle.store.specs.declared.answer.Refusal.TheVariants.{NoRoomInList}
use Rattle.store.proofs.Gates.{Refusing, after_refused, after_cases}
use Rattle.views.specs.Views.{settled_address}
use Rattle.asking.specs.Listing.{Lists, short_for, counted, leaves, all_fields_answer, all_fields_of, all_fields_leaves, settled_all_fields_answer, settled_all_fields_of, settled_all_fields_leaves, fields_named, NamesAll}
use Rattle.views.specs.Versions.{ReadableAt}
use Rattle.views.proofs.VersionAnswers.{current_then, settled_then, settled_from, current_readable, settled_readable}

-- ---- the fields of a record at an address

module _ (mst : List ℕ) (at end : ℕ) where
  abbrev rec : List ℕ
  rec = part mst at (end - at)

  -- the bytes of a field, as a part of the MST and as one of the record
  names_spots : (n : ℕ) (ss : List Spot) → Within n ss → n ≤ end - at → fields_named mst (map spot_tag ss) (map (spot_start at) ss) (map spot_length ss) ≡ map (field_in rec) ss
  unfolding fields_named
  names_spots n [] w h = refl
  names_spots n (s ∷ ss) w h = rw (part_part mst at (end - at) s.start s.len (omega (arith, w.0)), names_spots n ss w.1 h)

  module _ (h : ReadableAt mst at end) (l : Lists) where
    abbrev n : ℕ
    n = (leader_of rec).nvf

    module _ (f : Spot → ℕ) (d : List ℕ) where
      long : length (map f (spots_of rec)) ≡ n
      long = length-map (spots_of rec) f ∙ spots_length rec

      front : take n (overwrite d 0 (map f (spots_of rec))) ≡ map f (spots_of rec)
      front =
          let e : n ≡ 0 + length (map f (spots_of rec)) = omega (arith, long) in
          ap (λ (k : ℕ). take k (overwrite d 0 (map f (spots_of rec)))) e ∙ overwrite_front d 0 (map f (spots_of rec)) zero-le

      behind : drop n (overwrite d 0 (map f (spots_of rec))) ≡ drop n d
      behind = overwrite_drop_after d 0 (map f (spots_of rec)) n (omega (arith, long))

    names_all : NamesAll mst (fields_of rec) (counted (Ok tt) rec).count l (leaves (Ok tt) at rec l)
    unfolding after number_of
    names_all =
        record {
          count = sym (fields_count rec);
          names =
              rw (front spot_tag l.tags, front (spot_start at) l.starts, front spot_length l.lens, ← spots_are rec)
              (names_spots (leader_of rec).mfrl (spots_of rec) (spots_within rec h.readable) (omega (arith, (readable_facts h.readable).record_in, part_short mst at (end - at))));
          tags_kept = behind spot_tag l.tags;
          starts_kept = behind (spot_start at) l.starts;
          lens_kept = behind spot_length l.lens;
        }

-- ---- of the version that a call reads

-- where one more answer makes no refusal, there was none before it
done_before : (a last : Answer) → after a last a ≡ Ok tt → a ≡ Ok tt
done_before a last e = ⊎_elim (λ d. d.0) (λ r. sym r.1 ∙ e) (after_cases a last a)

module _ (mst xrf : List ℕ) (m : ℕ) (l : Lists) where
  -- the current version's fields are named
  pub all_fields_named : all_fields_answer (store mst xrf) m l ≡ Ok tt
      → NamesAll mst (current_fields mst (place_for (store mst xrf) m)) (all_fields_of (store mst xrf) m l).count l (all_fields_leaves (store mst xrf) m l)
  unfolding all_fields_answer all_fields_of all_fields_leaves
  all_fields_named e =
      let d = done_before _ _ (sym (current_then mst xrf m (refuse NoRoomInList (short_for (record_at mst (place_for (store mst xrf) m)) l) ∷ [])) ∙ e) in
      rw e (names_all mst (place_address (place_for (store mst xrf) m)) (end_of mst) (current_readable mst xrf m d) l)

  -- and of the settled view's record
  pub settled_all_fields_named : settled_all_fields_answer (store mst xrf) m l ≡ Ok tt
      → NamesAll mst (fields_of (shown_settled mst (place_for (store mst xrf) m))) (settled_all_fields_of (store mst xrf) m l).count l (settled_all_fields_leaves (store mst xrf) m l)
  unfolding settled_all_fields_answer settled_all_fields_of settled_all_fields_leaves
  settled_all_fields_named e =
      let d = done_before _ _ (sym (settled_then mst xrf m (refuse NoRoomInList (short_for (shown_settled mst (place_for (store mst xrf) m)) l) ∷ [])) ∙ e) in
      rw (e, ← settled_from mst (place_for (store mst xrf) m))
      (names_all mst (settled_address mst (place_for (store mst xrf) m)) (end_of mst) (settled_readable mst xrf m d) l)

  -- a refused call counts nothing, and leaves the lists
  pub all_fields_refused : Refusing (all_fields_answer (store mst xrf) m l) → ((all_fields_of (store mst xrf) m l).count ≡ 0) × (all_fields_leaves (store mst xrf) m l ≡ l)
  unfolding all_fields_of all_fields_leaves
  all_fields_refused h = (after_refused {A = ℕ} _ _ 0 h, after_refused {A = Lists} _ _ l h)

  pub settled_all_fields_refused : Refusing (settled_all_fields_answer (store mst xrf) m l)
      → ((settled_all_fields_of (store mst xrf) m l).count ≡ 0) × (settled_all_fields_leaves (store mst xrf) m l ≡ l)
  unfolding settled_all_fields_of settled_all_fields_leaves
  settled_all_fields_refused h = (after_refused {A = ℕ} _ _ 0 h, after_refused {A = Lists} _ _ l h)
