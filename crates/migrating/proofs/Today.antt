-- By the rule of today the readings are the library's own.
use Prim.Native.Nat.{ℕ, zero, suc, ◌-◌}
use mathlib.Core.Path.{◌≡◌, refl, sym}
use mathlib.Core.List.{List}
use Rattle.layout.specs.declared.entry.Entry.{Entry}
use Rattle.layout.specs.declared.entry.Entry.TheVariants.{Gone, Malformed, At}
use Rattle.files.specs.Control.{offsets_from, next_of, end_of}
use Rattle.store.specs.Store.{Store}
use Rattle.store.specs.Reading.{entry_for, record_fine, settled_fine, version_fine}
use Rattle.views.specs.Views.{view_answer, settled_view_answer, view_of, settled_view_of}
use Rattle.views.specs.Fields.{field_answer, field_of, settled_field_answer, settled_field_of}
use Rattle.asking.specs.State.{state_answer, state_of}
use Rattle.asking.specs.Listing.{Lists, all_fields_answer, all_fields_of, all_fields_leaves, settled_all_fields_answer, settled_all_fields_of, settled_all_fields_leaves}
use Rattle.soundness.specs.Sound.{step_right, next_step, steps_in, arrives_in, steps, arrives, place_sound, entry_sound, entries_sound, live_count, count_right, body_apart, body_sound, sound_of, sound_apart}
use Rattle.soundness.proofs.Counting.{all_to_same}
use Rattle.migrating.specs.Readings.{fine_by, settled_fine_by, state_by, view_by, settled_view_by, field_by, settled_field_by, all_fields_by, settled_all_fields_by, next_step_by, steps_in_by, arrives_in_by, steps_by, arrives_by, entry_sound_by, body_apart_by, apart_by, body_sound_by, sound_by, live_count_by}
use Rattle.migrating.specs.Theorems.{AsToday, all_fields_in, settled_all_fields_in}

module _ (mst : List ℕ) where
  next_today : (at : ℕ) → next_step_by offsets_from mst at ≡ next_step mst at
  unfolding next_step_by next_step step_right
  next_today at = refl

  steps_in_today : (n at : ℕ) → steps_in_by offsets_from n mst at ≡ steps_in n mst at
  unfolding steps_in_by steps_in
  steps_in_today zero at = refl
  steps_in_today (suc n) at = rw (next_today at, steps_in_today n (next_step mst at))

  arrives_in_today : (n at : ℕ) → arrives_in_by offsets_from n mst at ≡ arrives_in n mst at
  unfolding arrives_in_by arrives_in
  arrives_in_today zero at = refl
  arrives_in_today (suc n) at = rw (next_today at, arrives_in_today n (next_step mst at))

  pub steps_today : steps_by offsets_from mst ≡ steps mst 64
  unfolding steps_by steps
  steps_today = steps_in_today (end_of mst - 64) 64

  arrives_today : arrives_by offsets_from mst ≡ arrives mst 64
  unfolding arrives_by arrives
  arrives_today = arrives_in_today (end_of mst - 64) 64

  entry_today : (l : List ℕ) (m : ℕ) (e : Entry) → entry_sound_by offsets_from mst l m e ≡ entry_sound mst l m e
  unfolding entry_sound_by entry_sound place_sound fine_by settled_fine_by record_fine settled_fine
  entry_today l m Gone = refl
  entry_today l m Malformed = refl
  entry_today l m (At p) = refl

body_today : (s : Store) → body_apart_by offsets_from s ≡ body_apart s
unfolding body_apart_by body_apart entries_sound
body_today s =
    rw (
      arrives_today s.mst,
      steps_today s.mst,
      all_to_same (next_of s.mst - 1)
          (λ m. entry_sound_by offsets_from s.mst (steps s.mst 64) m (entry_for s m))
          (λ m. entry_sound s.mst (steps s.mst 64) m (entry_for s m))
          (λ m low high. entry_today s.mst (steps s.mst 64) m (entry_for s m)),
    )

apart_today : (s : Store) → apart_by offsets_from s ≡ sound_apart s
unfolding apart_by sound_apart
apart_today s = rw (body_today s)

live_today : (s : Store) → live_count_by offsets_from s ≡ live_count s
unfolding live_count_by live_count
live_today s = refl

sound_today : (s : Store) → sound_by offsets_from s ≡ sound_of s
unfolding sound_by sound_of body_sound_by body_sound count_right
sound_today s = rw (body_today s, live_today s)

module _ (s : Store) (m : ℕ) where
  state_today : state_of s m ≡ state_by offsets_from s m
  unfolding state_by state_of state_answer fine_by record_fine
  state_today = refl

  module _ (tag occ : ℕ) where
    view_today : view_of s m tag occ ≡ view_by offsets_from s m tag occ
    unfolding view_by view_of view_answer fine_by record_fine
    view_today = refl

    settled_today : settled_view_of s m tag occ ≡ settled_view_by offsets_from s m tag occ
    unfolding settled_view_by settled_view_of settled_view_answer fine_by settled_fine_by record_fine settled_fine version_fine
    settled_today = refl

  module _ (i : ℕ) where
    field_today : field_of s m i ≡ field_by offsets_from s m i
    unfolding field_by field_of field_answer fine_by record_fine
    field_today = refl

    settled_field_today : settled_field_of s m i ≡ settled_field_by offsets_from s m i
    unfolding settled_field_by settled_field_of settled_field_answer fine_by settled_fine_by record_fine settled_fine version_fine
    settled_field_today = refl

  module _ (l : Lists) where
    all_fields_today : all_fields_in s m l ≡ all_fields_by offsets_from s m l
    unfolding all_fields_by all_fields_of all_fields_leaves all_fields_answer fine_by record_fine
    all_fields_today = refl

    settled_all_fields_today : settled_all_fields_in s m l ≡ settled_all_fields_by offsets_from s m l
    unfolding settled_all_fields_by settled_all_fields_of settled_all_fields_leaves settled_all_fields_answer fine_by settled_fine_by record_fine settled_fine version_fine
    settled_all_fields_today = refl

pub as_today : (s : Store) → AsToday s
as_today s =
    record {
      given = record {
        state = state_today s;
        view = view_today s;
        settled = settled_today s;
        field = field_today s;
        settled_field = settled_field_today s;
        all_fields = all_fields_today s;
        settled_all_fields = settled_all_fields_today s;
        steps_are = sym (steps_today s.mst);
        apart = sym (apart_today s);
        live = sym (live_today s);
      };
      sound = sym (sound_today s);
    }
