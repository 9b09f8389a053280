-- THE CLAIMS of specs/Theorems hold of every store: a card and what a migration, or a recount, leaves of it read the same (Same), and by the rule of
-- today that is what the library gives (Today).
use Rattle.std.specs.Prelude.{Ok, Err}
use Prim.Native.Nat.{ℕ, ◌≤◌}
use native.Mathlib.Omega.{arith}
use mathlib.Core.Path.{◌≡◌, refl, ◌∙◌}
use mathlib.Core.Bool.{Bool, true, false, cond}
use mathlib.Core.List.{List}
use lib.IntN.{pos}
use lib.ListN.{length}
use Rattle.word.proofs.Tests.{tests}
use Rattle.layout.specs.Sizes.{capacity_of}
use Rattle.files.specs.Control.{offsets_from, old_offsets_from, old_control_right, migrated_mst, count_is, with_count}
use Rattle.files.proofs.ControlRecord.{one_rule, old_long, migrated_part, migrated_length, migrated_next, migrated_offset, migrated_end, migrated_right}
use Rattle.files.proofs.ControlMoves.{migrated_kept}
use Rattle.files.proofs.Count.{migrated_count, count_length, count_part, next_of_count, end_of_count, control_right_count}
use Rattle.store.specs.Store.{Store, store}
use Rattle.store.specs.Answer.{number_of}
use Rattle.store.specs.Reading.{lengths_permitted, control_fine}
use Rattle.store.specs.declared.answer.Refusal.TheVariants.{BadLength, BadControl}
use Rattle.store.proofs.Gates.{holds, after_done, gate_done, lengths_facts}
use Rattle.soundness.specs.Sound.{live_count, sound_apart, sound_of}
use Rattle.soundness.specs.Recount.{recount_answer, recounted_mst, recount_leaves}
use Rattle.soundness.proofs.Recount.{recount_left, recounts}
use Rattle.migrating.specs.Migrate.{old_control_fine, migrate_answer, migrate_leaves}
use Rattle.migrating.specs.Readings.{found_rows, found_shown, view_by, settled_view_by, index_rows, index_shown, field_by, settled_field_by, list_rows, list_shown, all_fields_by, settled_all_fields_by, apart_by, body_sound_by, sound_by}
use Rattle.migrating.specs.Theorems.{GivenBy, ChangesCount, Keeps, Migrates, RecountKeeps}
use Rattle.migrating.proofs.Today.{as_today}
use Rattle.migrating.proofs.Same.{SameBehind, found_empty, index_empty, list_empty, lengths_same, state_same, current_same, settled_same, view_bytes_same, settled_bytes_same, field_bytes_same, settled_field_bytes_same, steps_are_same, apart_same, live_same, sound_same}

-- ---- two cards that are the same behind the control record

module _ {from : ℕ} {mst mst' xrf : List ℕ} (b : SameBehind from mst mst' (capacity_of (length xrf))) where
  new : GivenBy offsets_from (store mst' xrf) (store mst' xrf)
  new = (as_today (store mst' xrf)).given

  given : GivenBy from (store mst xrf) (store mst' xrf)
  unfolding view_by settled_view_by field_by settled_field_by all_fields_by settled_all_fields_by
  given =
      record {
        state = λ m. new.state m ∙ state_same mst mst' xrf b m;
        view = λ m tag occ. new.view m tag occ ∙ current_same mst mst' xrf b m (found_rows tag occ) (found_shown tag occ) (found_empty tag occ);
        settled = λ m tag occ. new.settled m tag occ ∙ settled_same mst mst' xrf b m (found_rows tag occ) (found_shown tag occ) (found_empty tag occ);
        field = λ m i. new.field m i ∙ current_same mst mst' xrf b m (index_rows i) (index_shown i) (index_empty i);
        settled_field = λ m i. new.settled_field m i ∙ settled_same mst mst' xrf b m (index_rows i) (index_shown i) (index_empty i);
        all_fields = λ m l. new.all_fields m l ∙ current_same mst mst' xrf b m (list_rows l) (list_shown l) (list_empty l);
        settled_all_fields = λ m l. new.settled_all_fields m l ∙ settled_same mst mst' xrf b m (list_rows l) (list_shown l) (list_empty l);
        steps_are = new.steps_are ∙ steps_are_same mst mst' xrf b;
        apart = new.apart ∙ apart_same mst mst' xrf b;
        live = new.live ∙ live_same mst mst' xrf b;
      }

  kept : Keeps from (store mst xrf) (store mst' xrf)
  kept =
      record {
        right = b.right_now;
        next = b.next;
        end = b.end;
        given = given;
        view_bytes = λ m tag occ. rw (given.view m tag occ) (view_bytes_same mst mst' xrf b m tag occ);
        settled_bytes = λ m tag occ. rw (given.settled m tag occ) (settled_bytes_same mst mst' xrf b m tag occ);
        field_bytes = λ m i. rw (given.field m i) (field_bytes_same mst mst' xrf b m i);
        settled_field_bytes = λ m i. rw (given.settled_field m i) (settled_field_bytes_same mst mst' xrf b m i);
      }

-- one after another
behind_again : {from : ℕ} {a b c : List ℕ} {capacity : ℕ} → SameBehind from a b capacity → SameBehind offsets_from b c capacity → SameBehind from a c capacity
behind_again x y =
    record {
      right = x.right;
      right_now = y.right_now;
      long = y.long ∙ x.long;
      next = y.next ∙ x.next;
      end = y.end ∙ x.end;
      parts = λ at n h. y.parts at n h ∙ x.parts at n h;
    }

module _ (s : Store) where
  -- ---- what was asked

  -- a store that is right by the rule of today
  pub today_refused : lengths_permitted s ≡ true → control_fine s ≡ true → migrate_answer s ≡ Err BadControl
  unfolding migrate_answer
  today_refused l c = rw (l, one_rule s.mst (capacity_of (length s.xrf)) c)

  -- one that is right by the old rule
  migrated : lengths_permitted s ≡ true → old_control_fine s ≡ true → migrate_answer s ≡ Ok tt
  unfolding migrate_answer
  migrated l c = rw (l, c)

  module _ (d : migrate_answer s ≡ Ok tt) where
    asked : (lengths_permitted s ≡ true) × (old_control_fine s ≡ true)
    unfolding migrate_answer number_of
    asked =
        let a = holds (lengths_permitted s) (Err BadLength) _ (λ z. omega arith) d in
        let b = holds (old_control_fine s) (Err BadControl) (Ok tt) (λ z. omega arith) a.1 in
        (a.0, b.0)

    old : old_control_right s.mst (capacity_of (length s.xrf)) ≡ true
    old = asked.1

    leaves : migrate_leaves s ≡ store (migrated_mst s.mst) s.xrf
    unfolding migrate_leaves
    leaves = after_done (migrate_answer s) (store (migrated_mst s.mst) s.xrf) s d

    -- ---- what is left

    changes : ChangesCount s (migrate_leaves s)
    changes =
        rw leaves
        (record {
          long = migrated_length s.mst (capacity_of (length s.xrf)) old;
          count = migrated_offset s.mst (capacity_of (length s.xrf)) old;
          kept = migrated_kept s.mst (old_long s.mst (capacity_of (length s.xrf)) old);
          xrf = refl;
        })

    migrated_behind : SameBehind old_offsets_from s.mst (migrated_mst s.mst) (capacity_of (length s.xrf))
    migrated_behind =
        let c : ℕ = capacity_of (length s.xrf) in
        record {
          right = old;
          right_now = migrated_right s.mst c old;
          long = migrated_length s.mst c old;
          next = migrated_next s.mst c old;
          end = migrated_end s.mst c old;
          parts = migrated_part s.mst;
        }

    keeps : Keeps old_offsets_from s (migrate_leaves s)
    keeps = rw leaves (kept migrated_behind)

    as_sound : sound_of (migrate_leaves s) ≡ sound_by old_offsets_from s
    as_sound =
        rw leaves
        ((as_today (store (migrated_mst s.mst) s.xrf)).sound
        ∙ sound_same s.mst (migrated_mst s.mst) s.xrf migrated_behind (migrated_count s.mst (old_long s.mst (capacity_of (length s.xrf)) old)))

  -- ---- a store that is sound by the old rule apart from RECCNT

  sound_done : apart_by old_offsets_from s ≡ true → migrate_answer s ≡ Ok tt
  unfolding apart_by
  sound_done h = let q = simp tests at h in migrated q.0.0 q.0.1

  apart_kept : apart_by old_offsets_from s ≡ true → sound_apart (migrate_leaves s) ≡ true
  apart_kept h = (keeps (sound_done h)).given.apart ∙ h

  -- and with it
  sound_kept : sound_by old_offsets_from s ≡ true → sound_of (migrate_leaves s) ≡ true
  unfolding sound_by body_sound_by apart_by
  sound_kept h = let q = simp tests at h in as_sound (sound_done (simp tests ((q.0.0, q.0.1), q.1.0))) ∙ h

-- ---- a recount

recounted_behind : (mst xrf : List ℕ) → recount_answer (store mst xrf) ≡ Ok tt
    → SameBehind offsets_from mst (recounted_mst mst (live_count (store mst xrf))) (capacity_of (length xrf))
unfolding recounted_mst recount_answer
recounted_behind mst xrf d = go (count_is mst n)
  where
    n : ℕ
    n = live_count (store mst xrf)

    asked : (64 ≤ length mst) × (control_fine (store mst xrf) ≡ true)
    asked = let g = gate_done mst xrf _ d in let f = lengths_facts mst xrf g.0 in (omega arith, g.1)

    go : (b : Bool) → SameBehind offsets_from mst (cond b mst (with_count mst (pos n))) (capacity_of (length xrf))
    go true = record { right = asked.1; right_now = asked.1; long = refl; next = refl; end = refl; parts = λ at k h. refl }
    go false =
        let l = asked.0 in
        record {
          right = asked.1;
          right_now = control_right_count mst (pos n) l (capacity_of (length xrf)) ∙ asked.1;
          long = count_length mst (pos n) l;
          next = next_of_count mst (pos n) l;
          end = end_of_count mst (pos n) l;
          parts = count_part mst (pos n);
        }

pub recount_keeps : (s : Store) → RecountKeeps s
recount_keeps s d = rw (recount_left s.mst s.xrf d) (kept (recounted_behind s.mst s.xrf d))

-- behind a migration
still_keeps : (s : Store) → apart_by old_offsets_from s ≡ true → Keeps old_offsets_from s (recount_leaves (migrate_leaves s))
still_keeps s h =
    let d = sound_done s h in
    let r : recount_answer (store (migrated_mst s.mst) s.xrf) ≡ (Ok tt) = rw (leaves s d) at ((recounts (migrate_leaves s)).done (apart_kept s h)) in
    rw (leaves s d, recount_left (migrated_mst s.mst) s.xrf r)
    (kept (behind_again (migrated_behind s d) (recounted_behind (migrated_mst s.mst) s.xrf r)))

-- ---- THE CLAIM OF A MIGRATION

pub migrates : (s : Store) → Migrates s
migrates s =
    record {
      changes = changes s;
      keeps = keeps s;
      done = sound_done s;
      apart = apart_kept s;
      sound = sound_kept s;
      as_sound = as_sound s;
      recounted = λ h. (recounts (migrate_leaves s)).sound ((recounts (migrate_leaves s)).done (apart_kept s h));
      still_keeps = still_keeps s;
      once = λ d.
          rw (leaves s d)
          (today_refused (store (migrated_mst s.mst) s.xrf)
          (lengths_same s.mst (migrated_mst s.mst) s.xrf (migrated_behind s d) ∙ (asked s d).0)
          (migrated_right s.mst (capacity_of (length s.xrf)) (old s d)));
      today = today_refused s;
    }
