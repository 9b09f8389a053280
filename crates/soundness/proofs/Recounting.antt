-- A write of RECCNT leaves all that is read of a store but RECCNT itself: it is a move that touches no step. So what a call leaves of a sound store
-- it leaves as well where RECCNT is written behind it (`counted_leaves`).
use Prim.Native.Nat.{ℕ, ◌≤◌, ◌<◌}
use native.Mathlib.Omega.{arith}
use mathlib.Core.Path.{◌≡◌, ap, ◌∙◌}
use mathlib.Core.List.{List}
use lib.IntN.{ℤ}
use lib.ListN.{length}
use Rattle.layout.specs.Sizes.{capacity_of}
use Rattle.layout.specs.Entry.{place_address}
use Rattle.files.specs.CrossReference.{entry_at}
use Rattle.files.specs.Control.{next_of, end_of, with_count}
use Rattle.files.specs.NamedBytes.{CountByte, the_count}
use Rattle.files.proofs.Count.{count_length, count_kept, next_of_count, end_of_count, control_right_count}
use Rattle.layout.specs.declared.entry.Place.{Place}
use Rattle.layout.specs.declared.entry.Entry.TheVariants.{At}
use Rattle.layout.specs.declared.leader.Leader.{Leader}
use Rattle.record.specs.Fields.{Field}
use Rattle.store.specs.Reading.{lengths_permitted, entry_for, leader_at, back_address}
use Rattle.store.specs.Store.{Store, store}
use Rattle.soundness.specs.Sound.{steps}
use Rattle.soundness.specs.Touching.{MayChange, control_integer, own_record, new_byte}
use Rattle.soundness.proofs.Stepping.{member_facts, MfrlKept, mfrl_kept, steps_same, arrives_same}
use Rattle.soundness.proofs.SoundEntries.{PlaceStands, EntryStands, is_gone_lem, is_at, Sound, sound_from, at_stands}
use Rattle.soundness.proofs.Moves.{MstMoved, stays, beyond, SameReading, Kept, step_before, place_kept}
use Rattle.soundness.proofs.Leaving.{Leaves}

module _ {mst xrf : List ℕ} (s : Sound mst xrf) (z : ℤ) where
  abbrev recounted : List ℕ
  recounted = with_count mst z

  pub control_in : 64 ≤ length mst
  control_in = let f = s.sizes in omega arith

  end_is : end_of recounted ≡ end_of mst
  end_is = end_of_count mst z control_in

  next_is : next_of recounted ≡ next_of mst
  next_is = next_of_count mst z control_in

  mfrls : MfrlKept mst recounted (steps mst 64)
  unfolding CountByte
  mfrls a i =
      let g = member_facts mst a 64 s.way i in
      mfrl_kept mst recounted a (omega arith) (omega (arith, end_is))
      (λ j lo hi. count_kept mst z control_in j (λ b. omega (arith, b.1)))

  counts : MstMoved mst xrf recounted CountByte 0 (end_of mst) 0
  counts =
      let f = s.numbers in
      record {
        long = count_length mst z control_in;
        control = control_right_count mst z control_in (capacity_of (length xrf)) ∙ s.control;
        next = stays next_is (omega arith);
        end_up = omega (arith, end_is);
        touched = beyond (omega arith) (omega (arith, end_is));
        named = λ i b. the_count b;
        kept = λ i off side. count_kept mst z control_in i off;
        way = arrives_same mst recounted end_is 64 mfrls ∙ s.way;
        steps_kept = λ a i. rw (steps_same mst recounted end_is 64 mfrls) i;
      }

  pub count_entry : (o : ℕ) → entry_for (store recounted xrf) o ≡ entry_for (store mst xrf) o
  count_entry o = ap (λ (e : ℕ). entry_at xrf e o) end_is

  count_place : (o : ℕ) (p : Place) → PlaceStands mst o p → Kept mst recounted o p
  count_place o p f =
      place_kept s counts o p f (step_before s counts (omega arith) (place_address p) f.step)
      (λ c. step_before s counts (omega arith) (back_address (leader_at mst p)) (f.settled c).step)

  pub count_sound : Sound recounted xrf
  unfolding lengths_permitted
  count_sound =
      sound_from
      (rw (count_length mst z control_in) s.lengths)
      counts.control
      s.heads
      (λ o low high. s.free o (omega (arith, next_is)) high)
      counts.way
      (λ o low high. each o (s.entries o low (omega (arith, next_is))))
    where
      each : (o : ℕ) → EntryStands mst xrf o → EntryStands recounted xrf o
      each o (is_gone_lem e) = is_gone_lem (count_entry o ∙ e)
      each o (is_at p e f) = is_at p (count_entry o ∙ e) (count_place o p f).stands

  pub count_same_reading : (o : ℕ) (p : Place) → 1 ≤ o → o < next_of mst → entry_for (store mst xrf) o ≡ At p → SameReading mst recounted p
  count_same_reading o p low high e = (count_place o p (at_stands s o p low high e)).same

-- one reading after another
same_again : {a b c : List ℕ} {p : Place} → SameReading a b p → SameReading b c p → SameReading a c p
same_again x y =
    record {
      leader = y.leader ∙ x.leader;
      fields = y.fields ∙ x.fields;
      settled = λ c. record { leader = (y.settled c).leader ∙ (x.settled c).leader; fields = (y.settled c).fields ∙ (x.settled c).fields };
    }

-- what is touched before RECCNT is written
touch_again : {s : Store} {mst xrf : List ℕ} {m i : ℕ} (re : List ℕ) → end_of re ≡ end_of mst → MayChange s (store mst xrf) m i → MayChange s (store re xrf) m i
touch_again re e (control_integer b) = control_integer b
touch_again re e (own_record p q b) = own_record p q b
touch_again re e (new_byte a b) = new_byte a (rw e b)

module _ {mst xrf mst' xrf' : List ℕ} {m end next mfrl : ℕ} {p : Place} {fs old : List Field} (z : ℤ) (low : 1 ≤ m) (high : m < next) (up : next_of mst ≤ next)
    (l : Leaves mst xrf mst' xrf' m end next p mfrl fs old) where
  own : SameReading mst' (with_count mst' z) p
  own = count_same_reading l.sound z m p low (rw l.next_is high) l.entry

  pub counted_leaves : Leaves mst xrf (with_count mst' z) xrf' m end next p mfrl fs old
  counted_leaves =
      let long = control_in l.sound z in
      record {
        sound = count_sound l.sound z;
        mst_long = count_length mst' z long ∙ l.mst_long;
        xrf_long = l.xrf_long;
        end_is = end_of_count mst' z long ∙ l.end_is;
        next_is = next_of_count mst' z long ∙ l.next_is;
        entry = count_entry l.sound z m ∙ l.entry;
        record_length_lem = ap (λ (k : Leader). k.mfrl) own.leader ∙ l.record_length_lem;
        fields = own.fields ∙ l.fields;
        settled_all = λ c. (own.settled c).fields ∙ l.settled_all c;
        touches =
            record {
              mst_length = count_length mst' z long ∙ l.mst_long;
              xrf_length = l.xrf_long;
              mst_kept = λ i off.
                  count_kept mst' z long i (λ b. off (control_integer (the_count b)))
                  ∙ l.touches.mst_kept i (λ b. off (touch_again (with_count mst' z) (end_of_count mst' z long) b));
              xrf_kept = l.touches.xrf_kept;
            };
        others = λ o ne a b. count_entry l.sound z o ∙ l.others o ne a b;
        same = λ o q ne a b e.
            same_again (l.same o q ne a b e)
            (count_same_reading l.sound z o q a (rw l.next_is (omega arith)) (l.others o ne a b ∙ e));
      }
