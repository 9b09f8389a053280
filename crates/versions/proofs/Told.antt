-- What a call found, as what its writing half is told: an open gate, a right draft and a record
-- that was found give the records of specs/Asked.
use Prim.Native.Nat.{ℕ, ◌+◌, ◌≤◌}
use native.Mathlib.Omega.{arith}
use mathlib.Core.Path.{◌≡◌, sym, ◌∙◌}
use mathlib.Core.Bool.{Bool, true, false, not}
use mathlib.Core.List.{List}
use lib.ListN.{length}
use borrow.Author.Tests.{not-false}
use Rattle.layout.specs.Sizes.{fields_most, record_most}
use Rattle.files.specs.Control.{end_of}
use Rattle.layout.specs.declared.sizes.Mfn.{Mfn}
use Rattle.layout.specs.declared.entry.Place.{Place}
use Rattle.layout.specs.declared.leader.Leader.{Leader}
use Rattle.drafts.specs.Draft.{need_of, draft_right}
use Rattle.drafts.proofs.DraftFacts.{draft_facts}
use Rattle.store.specs.Reading.{leader_at}
use Rattle.versions.specs.Asked.{HasSlot, AtEnd, DraftFits, RecordRead}
use Rattle.store.proofs.Gates.{OpenFacts, KnownFacts}

-- a need is at least the leader
pub need_low : (fields size : ℕ) → 18 ≤ need_of fields size
unfolding need_of
need_low fields size = omega arith

few_fields : (n s : ℕ) → need_of n s ≤ record_most → n ≤ fields_most
unfolding need_of
few_fields n s h = omega arith

small_data : (n s : ℕ) → need_of n s ≤ record_most → s ≤ record_most
unfolding need_of
small_data n s h = omega arith

pub draft_fits : (tags lens bytes : List ℕ) → draft_right tags lens bytes ≡ true → DraftFits tags lens bytes
draft_fits tags lens bytes e =
    let f = draft_facts tags lens bytes e in
    record {
      right = e;
      few = few_fields (length tags) (length bytes) f.need;
      small = small_data (length tags) (length bytes) f.need;
      low = need_low (length tags) (length bytes);
      high = f.need;
    }

module _ (mst xrf : List ℕ) (m : ℕ) (next : Mfn) (end : ℕ) (o : OpenFacts mst xrf next end) where
  pub is_at_end : (size : ℕ) → 18 ≤ size → end_of mst + size ≤ length mst → AtEnd mst end size
  is_at_end size h k =
      record {
        end_is = o.end_is;
        low = omega arith;
        offset = rw o.end_is o.end_offset;
        some = h;
        room = omega arith;
        blocks = o.sizes.mst_high;
      }

  module _ (p : Place) (l : Leader) (k : KnownFacts mst xrf m p l) where
    pub slot_known : HasSlot xrf m
    slot_known = record { low = k.mfn.low; high = omega arith }

    pub read_known : RecordRead mst end p l
    read_known =
        record {
          end_is = o.end_is;
          end_low = omega arith;
          end_in = omega arith;
          block = k.place.block;
          block_fits = omega arith;
          offset = k.place.offset;
          place_inside = omega arith;
          leader_is = k.leader_is;
          right = rw k.facts.leader.mfn k.facts.right;
          record_in = omega arith;
          short = k.facts.leader.high;
          few = omega arith;
        }

-- by the record's own leader
pub read_own : (mst : List ℕ) (end : ℕ) (p : Place) (l : Leader) → RecordRead mst end p l → RecordRead mst end p (leader_at mst p)
read_own mst end p l r = rw (← r.leader_is) r

-- a draft that was tested can be counted
pub draft_counted : (tags lens bytes : List ℕ) (d : Bool) → d ≡ draft_right tags lens bytes → not d ≡ false → (length tags ≤ 65535) × (length bytes ≤ 65535)
draft_counted tags lens bytes d e h =
    let f = draft_fits tags lens bytes (sym e ∙ not-false d h) in
    (omega arith, omega arith)
