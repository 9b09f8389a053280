-- Fields that can be written as a record: tags in range, and a need of at most 32,766. The fields of a right draft are such, and so are those
-- of a right record, whose need is at most its MFRL, since both are even.
use Prim.Native.Nat.{ℕ, zero, suc, ◌+◌, ◌*◌, ◌-◌, ◌/◌, ◌≤◌}
use native.Mathlib.Nat.{suc_inj, suc-ne-zero}
use native.Mathlib.Omega.{arith}
use mathlib.Core.Path.{◌≡◌, refl, sym, ap, ◌∙◌}
use mathlib.Core.Bool.{Bool, true}
use mathlib.Core.List.{List, [], ◌∷◌}
use lib.ListN.{length, take, drop}
use lib.Seq.{take_all, take-add}
use Rattle.layout.specs.Sizes.{record_most, record_length}
use Rattle.layout.specs.Leader.{leader_of}
use Rattle.layout.specs.declared.leader.Leader.{Leader}
use Rattle.word.proofs.Tests.{tests}
use Rattle.layout.proofs.Facts.{record_length_from}
use Rattle.record.specs.Directory.{len_at, directory_right}
use Rattle.record.specs.Fields.{Field, fields_from, fields_of, data_of}
use Rattle.record.specs.Record.{Readable}
use Rattle.drafts.specs.Draft.{sum, tags_permitted, need_of, draft_right, draft_fields}
use Rattle.drafts.specs.Bytes.{used_by, need_for}
use Rattle.record.proofs.Facts.{EntryFacts, entry_facts, right_readable, readable_facts}
use Rattle.drafts.proofs.DraftFacts.{DraftFacts, draft_facts}
use Rattle.record.proofs.FieldData.{data_within}
use Rattle.drafts.proofs.DirectoryBytes.{used_is}
use Rattle.record.proofs.Local.{ReadsAs, reads_leader}

-- the tags of fields
unfoldable pub tags_of : List Field → List ℕ
tags_of [] = []
tags_of (f ∷ fs) = f.tag ∷ tags_of fs

-- fields that a right draft can have
pub record Draftable (fs : List Field) : Type 0 where
  pub tags : tags_permitted (tags_of fs) ≡ true
  pub need : need_for fs ≤ record_most

-- ---- the need

pub need_used : (fs : List Field) → used_by fs ≤ need_for fs
unfolding need_of
need_used fs = omega arith

-- it is the least even number that is not below
pub need_even : (fs : List Field) (n : ℕ) → used_by fs ≤ 2 * n → need_for fs ≤ 2 * n
unfolding need_of
need_even fs n h = omega arith

-- it is a record's length
pub need_length : (fs : List Field) → Draftable fs → record_length (need_for fs) ≡ true
unfolding need_of
need_length fs d = record_length_from (need_for fs) (omega arith) (omega arith) d.need

-- ---- the fields of a draft

draft_length : (tags lens bytes : List ℕ) → length tags ≡ length lens → length (draft_fields tags lens bytes) ≡ length tags
unfolding draft_fields
draft_length [] lens bytes e = refl
draft_length (t ∷ ts) [] bytes e = absurd (suc-ne-zero _ e)
draft_length (t ∷ ts) (n ∷ ns) bytes e = ap suc (draft_length ts ns (drop n bytes) (suc_inj e))

draft_tags : (tags lens bytes : List ℕ) → length tags ≡ length lens → tags_of (draft_fields tags lens bytes) ≡ tags
unfolding draft_fields tags_of
draft_tags [] lens bytes e = refl
draft_tags (t ∷ ts) [] bytes e = absurd (suc-ne-zero _ e)
draft_tags (t ∷ ts) (n ∷ ns) bytes e = ap (λ (r : List ℕ). t ∷ r) (draft_tags ts ns (drop n bytes) (suc_inj e))

draft_bytes : (tags lens bytes : List ℕ) → length tags ≡ length lens → data_of (draft_fields tags lens bytes) ≡ take (sum lens) bytes
unfolding draft_fields data_of sum
draft_bytes [] [] bytes e = refl
draft_bytes [] (n ∷ ns) bytes e = absurd (suc-ne-zero _ (sym e))
draft_bytes (t ∷ ts) [] bytes e = absurd (suc-ne-zero _ e)
draft_bytes (t ∷ ts) (n ∷ ns) bytes e = rw (draft_bytes ts ns (drop n bytes) (suc_inj e)) (sym (take-add n (sum ns) bytes))

module _ (tags lens bytes : List ℕ) (e : draft_right tags lens bytes ≡ true) where
  right : DraftFacts tags lens bytes
  right = draft_facts tags lens bytes e

  pub draft_count : length (draft_fields tags lens bytes) ≡ length tags
  draft_count = draft_length tags lens bytes right.equal

  pub draft_data : data_of (draft_fields tags lens bytes) ≡ bytes
  draft_data = draft_bytes tags lens bytes right.equal ∙ take_all (sum lens) bytes (omega (arith, right.total))

  pub draft_need : need_for (draft_fields tags lens bytes) ≡ need_of (length tags) (length bytes)
  draft_need = rw (draft_count, draft_data)

  pub draft_draftable : Draftable (draft_fields tags lens bytes)
  draft_draftable =
      record { tags = rw (draft_tags tags lens bytes right.equal) right.tags_right; need = rw draft_need right.need }

-- ---- the fields of a record

directory_tags : (rec : List ℕ) (room base k i pos : ℕ) → directory_right rec room k i pos ≡ true → tags_permitted (tags_of (fields_from rec base k i)) ≡ true
unfolding fields_from tags_of tags_permitted
directory_tags rec room base zero i pos e = refl
directory_tags rec room base (suc k) i pos e =
    let f : EntryFacts rec room k i pos = entry_facts rec room k i pos e in
    simp tests (f.tag, directory_tags rec room base k (i + 1) (pos + len_at rec i) f.rest)

module _ (rec : List ℕ) (r : Readable rec) where
  pub readable_used : used_by (fields_of rec) ≤ (leader_of rec).mfrl
  readable_used = omega (arith, used_is rec r, data_within rec r)

  pub readable_draftable : Draftable (fields_of rec)
  unfolding fields_of
  readable_draftable =
      record {
        tags = directory_tags rec ((leader_of rec).mfrl - (leader_of rec).base) (leader_of rec).base (leader_of rec).nvf 0 0 (readable_facts r).directory;
        need = need_even (fields_of rec) 16383 (omega (arith, readable_used, (readable_facts r).short));
      }

module _ {rec : List ℕ} {m : ℕ} {deleted : Bool} {l : Leader} {fs : List Field} (r : ReadsAs rec m deleted l fs) where
  pub reads_draftable : Draftable fs
  reads_draftable = rw r.fields at (readable_draftable rec (right_readable rec m deleted r.right))

  pub reads_need : need_for fs ≤ l.mfrl
  reads_need =
      let f = reads_leader r in
      let u : used_by fs ≤ l.mfrl = rw (r.leader, r.fields) at (readable_used rec (right_readable rec m deleted r.right)) in
      let h : l.mfrl ≡ 2 * (l.mfrl / 2) = omega arith in
      rw h (need_even fs (l.mfrl / 2) (omega arith))
