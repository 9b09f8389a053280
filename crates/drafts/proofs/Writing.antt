-- The writes of the record writer, one after the other, make one. `overwrite_next` joins a write to the one before it; a part that is kept
-- is overwritten with what stands there already (`overwrite_same`); and what is lent comes back as an overwrite (`returned_front`).
use Prim.Native.Nat.{ℕ, ◌+◌, ◌*◌, ◌-◌, ◌<◌, ◌≤◌}
use native.Mathlib.Omega.{arith}
use mathlib.Core.Path.{◌≡◌, refl, sym, ap, ◌∙◌}
use mathlib.Core.Bool.{true}
use mathlib.Core.List.{List, ◌++◌, append_assoc}
use lib.ListN.{length, get_or, take, drop, replicate, length-append, length-drop}
use lib.Seq.{length-take-le, take_all}
use borrow.Rule.Slice.PartMut.{mid_of, put_mid}
use Rattle.word.specs.Integer.{le}
use Rattle.word.specs.Overwrite.{overwrite, part}
use Rattle.word.proofs.Overwrite.{part_length, part_short, part_part, overwrite_length, overwrite_part_after, overwrite_back, overwrite_none, overwrite_same, drop_overwritten, overwrite_next, overwrite_over, lent_tail, returned_front}
use Rattle.word.proofs.Integers.{Bytes, bytes_part}
use Rattle.layout.specs.Sizes.{record_most}
use Rattle.layout.specs.Leader.{leader_bytes, leader_of}
use Rattle.layout.specs.declared.leader.Leader.{Leader}
use Rattle.layout.proofs.LeaderBytes.{leader_length}
use Rattle.record.specs.Fields.{Field, fields_of, data_of}
use Rattle.record.specs.Record.{Readable}
use Rattle.record.proofs.Facts.{readable_facts}
use Rattle.drafts.specs.Draft.{sum, draft_right, draft_fields}
use Rattle.drafts.specs.Bytes.{entry_bytes, directory_bytes, used_by, record_bytes}
use Rattle.drafts.specs.Inner.{framed}
use Rattle.drafts.proofs.DraftFacts.{draft_facts}
use Rattle.drafts.proofs.DirectoryBytes.{directory_length, body_part}
use Rattle.drafts.proofs.Draftable.{draft_count, draft_data, readable_used}
use Rattle.drafts.proofs.DraftFields.{need_facts, total_more, sum_take_le, entry_more}
use Rattle.drafts.proofs.Trip.{record_length_lem}

-- a write right behind another, `next` bytes on
written_next : {cur : List ℕ} (d : List ℕ) (at next : ℕ) (xs ys : List ℕ) → at ≤ length d → cur ≡ overwrite d at xs → next ≡ at + length xs
    → overwrite cur next ys ≡ overwrite d at (xs ++ ys)
written_next d at next xs ys h e n = rw (e, n) (overwrite_next d at xs ys h)

-- ---- an entry, and the directory of a draft

pub entry_put : {a b c : List ℕ} (d : List ℕ) (at tag pos len : ℕ) → at + 6 ≤ length d
    → a ≡ overwrite d at (le 2 tag) → b ≡ overwrite a (at + 2) (le 2 pos) → c ≡ overwrite b (at + 4) (le 2 len) → c ≡ overwrite d at (entry_bytes tag pos len)
entry_put d at tag pos len h e f g =
    g ∙ written_next d at (at + 4) (le 2 tag ++ le 2 pos) (le 2 len) (omega arith) (f ∙ written_next d at (at + 2) (le 2 tag) (le 2 pos) (omega arith) e refl) refl

module _ (d tags lens bytes : List ℕ) (right : draft_right tags lens bytes ≡ true) (room : 18 + 6 * length tags ≤ length d) where
  -- the loop over the fields: after i turns the first i entries stand at 18, and pos is the sum of their lengths
  pub entries_none : d ≡ overwrite d 18 (directory_bytes 0 (take 0 (draft_fields tags lens bytes)))
  unfolding directory_bytes
  entries_none = sym (overwrite_none d 18)

  module _ (i pos : ℕ) (p : pos ≡ sum (take i lens)) where
    pub entries_sum : i < length tags → pos + get_or lens i 0 ≡ sum (take (i + 1) lens)
    entries_sum h = let f = draft_facts tags lens bytes right in total_more lens pos i p (omega arith)

    pub entries_fit : i < length tags → pos + get_or lens i 0 ≤ record_most
    entries_fit h =
        let f = draft_facts tags lens bytes right in
        let n = need_facts (length tags) (length bytes) in
        omega (arith, entries_sum h, sum_take_le (i + 1) lens)

    pub entries_more : {cur last : List ℕ} → cur ≡ overwrite d 18 (directory_bytes 0 (take i (draft_fields tags lens bytes))) → i < length tags
        → last ≡ overwrite cur (18 + 6 * i) (entry_bytes (get_or tags i 0) pos (get_or lens i 0))
        → last ≡ overwrite d 18 (directory_bytes 0 (take (i + 1) (draft_fields tags lens bytes)))
    entries_more e h g =
        let f = draft_facts tags lens bytes right in
        let fs : List Field = draft_fields tags lens bytes in
        let k : length (take i fs) ≡ i = length-take-le i fs (omega (arith, draft_count tags lens bytes right)) in
        g
        ∙ written_next d 18 (18 + 6 * i) (directory_bytes 0 (take i fs)) (entry_bytes (get_or tags i 0) pos (get_or lens i 0)) (omega arith) e
        (omega (arith, directory_length 0 (take i fs)))
        ∙ ap (λ (n : ℕ). overwrite d 18 (directory_bytes 0 (take i fs) ++ entry_bytes (get_or tags i 0) n (get_or lens i 0))) p
        ∙ ap (overwrite d 18) (sym (entry_more i tags lens bytes h (omega arith) (omega arith)))

  pub entries_all : {last : List ℕ} (i : ℕ) → length tags ≤ i → last ≡ overwrite d 18 (directory_bytes 0 (take i (draft_fields tags lens bytes)))
      → last ≡ overwrite d 18 (directory_bytes 0 (draft_fields tags lens bytes))
  entries_all i h e =
      let fs : List Field = draft_fields tags lens bytes in
      e ∙ ap (λ (x : List Field). overwrite d 18 (directory_bytes 0 x)) (take_all i fs (omega (arith, draft_count tags lens bytes right)))

-- ---- fields whose body stands already, behind where their leader goes

module _ (d : List ℕ) (l : Leader) (fs : List Field) (used : ℕ) (u : used ≡ used_by fs) (body : part d 18 (used - 18) ≡ directory_bytes 0 fs ++ data_of fs) where
  -- leader, body and zeros are the record's bytes
  record_runs : record_bytes l fs ≡ leader_bytes l ++ part d 18 (used - 18) ++ replicate (l.mfrl - used) 0
  unfolding record_bytes
  record_runs =
      ap (λ (x : List ℕ). x ++ replicate (l.mfrl - used_by fs) 0)
      (append_assoc (leader_bytes l) (directory_bytes 0 fs) (data_of fs) ∙ ap (λ (x : List ℕ). leader_bytes l ++ x) (sym body))
      ∙ ap (λ (n : ℕ). leader_bytes l ++ part d 18 (used - 18) ++ replicate (l.mfrl - n) 0) (sym u)

  pub record_framed : used ≤ l.mfrl → l.mfrl ≤ length d → framed d used l ≡ overwrite d 0 (record_bytes l fs)
  unfolding framed
  record_framed fits room =
      let head : List ℕ = leader_bytes l in
      let kept : List ℕ = part d 18 (used - 18) in
      let zeros : List ℕ = replicate (l.mfrl - used) 0 in
      let low : 18 ≤ used = omega arith in
      let m : length head ≡ 18 = leader_length l in
      let n : length kept ≡ used - 18 = part_length d 18 (used - 18) (omega arith) in
      let k : length (overwrite d 0 head) ≡ length d = overwrite_length d 0 head (omega arith) in
      let both : overwrite d 0 head ≡ overwrite d 0 (head ++ kept) =
      sym (overwrite_same (overwrite d 0 head) 18 (used - 18) (omega arith))
      ∙ ap (overwrite (overwrite d 0 head) 18) (overwrite_part_after d 0 head 18 (used - 18) (omega arith))
      ∙ written_next d 0 18 head kept (omega arith) refl (omega arith) in
      written_next d 0 used (head ++ kept) zeros (omega arith) both (simp length-append (omega arith)) ∙ ap (overwrite d 0) (sym record_runs)

-- ---- the record of a draft

module _ (d : List ℕ) (l : Leader) (tags lens bytes : List ℕ) (right : draft_right tags lens bytes ≡ true) where
  -- out after the directory and after the data, and with its leader and zeros
  pub record_written : {D₁ D₂ D₃ : List ℕ} → D₁ ≡ overwrite d 18 (directory_bytes 0 (draft_fields tags lens bytes)) → D₂ ≡ overwrite D₁ (18 + 6 * length tags) bytes
      → D₃ ≡ framed D₂ (18 + 6 * length tags + length bytes) l → 18 + 6 * length tags + length bytes ≤ l.mfrl → l.mfrl ≤ length d
      → D₃ ≡ overwrite d 0 (record_bytes l (draft_fields tags lens bytes))
  record_written {D₁} {D₂} {D₃} e₁ e₂ e₃ fits room =
      let fs : List Field = draft_fields tags lens bytes in
      let dir : List ℕ = directory_bytes 0 fs in
      let used : ℕ = 18 + 6 * length tags + length bytes in
      let n : length dir ≡ 6 * length tags = directory_length 0 fs ∙ ap (λ (k : ℕ). 6 * k) (draft_count tags lens bytes right) in
      let m : length (dir ++ bytes) ≡ used - 18 = simp length-append (omega arith) in
      let both : D₂ ≡ overwrite d 18 (dir ++ bytes) = e₂ ∙ written_next d 18 (18 + 6 * length tags) dir bytes (omega arith) e₁ (omega arith) in
      let long : length D₂ ≡ length d = rw both (overwrite_length d 18 (dir ++ bytes) (omega arith)) in
      let u : used ≡ used_by fs = rw (draft_count tags lens bytes right, draft_data tags lens bytes right) in
      let body : part D₂ 18 (used - 18) ≡ dir ++ data_of fs =
      ap (λ (x : List ℕ). part x 18 (used - 18)) both
      ∙ ap (part (overwrite d 18 (dir ++ bytes)) 18) (sym m)
      ∙ overwrite_back d 18 (dir ++ bytes) (omega arith)
      ∙ rw (draft_data tags lens bytes right) in
      e₃
      ∙ record_framed D₂ l fs used u body fits (omega arith)
      ∙ ap (λ (x : List ℕ). overwrite x 0 (record_bytes l fs)) both
      ∙ overwrite_over d 0 (record_bytes l fs) 18 (dir ++ bytes) (omega arith) (omega arith) (omega (arith, record_length_lem l fs (omega arith)))

-- ---- a record's own fields again

pub record_rewritten : (rec : List ℕ) (l : Leader) → Readable rec → Bytes rec → (used : ℕ) → used ≡ used_by (fields_of rec) → l.mfrl ≡ (leader_of rec).mfrl
    → framed rec used l ≡ overwrite rec 0 (record_bytes l (fields_of rec))
record_rewritten rec l r small used u e =
    record_framed rec l (fields_of rec) used u (rw u (sym (body_part rec r small))) (omega (arith, readable_used rec r)) (omega (arith, (readable_facts r).record_in))

-- behind the record, in the buffer that has it: the body is copied, and framed in the tail that is lent
module _ (d : List ℕ) (at to : ℕ) (small : Bytes d) (r : Readable (part d at (to - at))) (l : Leader) (used : ℕ) (u : used ≡ used_by (fields_of (part d at (to - at))))
    (fits : used ≤ l.mfrl) (room : to + l.mfrl ≤ length d) where
  abbrev copied : List ℕ
  copied = part d (at + 18) (used - 18)

  own_body : copied ≡ directory_bytes 0 (fields_of (part d at (to - at))) ++ data_of (fields_of (part d at (to - at)))
  own_body =
      sym (part_part d at (to - at) 18 (used - 18) (omega (arith, readable_used (part d at (to - at)) r, (readable_facts r).record_in, part_short d at (to - at))))
      ∙ rw u (sym (body_part (part d at (to - at)) r (bytes_part d at (to - at) small)))

  pub record_copied : {D W : List ℕ} → D ≡ overwrite d (to + 18) copied → W ≡ framed (mid_of to (length D - to) D) used l
      → put_mid to (length D - to) D W ≡ overwrite d to (record_bytes l (fields_of (part d at (to - at))))
  record_copied {D} {W} e f =
      let fs : List Field = fields_of (part d at (to - at)) in
      let k : length copied ≡ used - 18 = part_length d (at + 18) (used - 18) (omega (arith, readable_used (part d at (to - at)) r, (readable_facts r).record_in, part_short d at (to - at))) in
      let long : length D ≡ length d = rw e (overwrite_length d (to + 18) copied (omega arith)) in
      let lent : mid_of to (length D - to) D ≡ overwrite (drop to d) 18 copied = lent_tail D to ∙ rw e (drop_overwritten d to 18 copied (omega arith)) in
      let stands : part (mid_of to (length D - to) D) 18 (used - 18) ≡ directory_bytes 0 fs ++ data_of fs =
      ap (λ (x : List ℕ). part x 18 (used - 18)) lent
      ∙ ap (part (overwrite (drop to d) 18 copied) 18) (sym k)
      ∙ overwrite_back (drop to d) 18 copied (simp length-drop (omega arith))
      ∙ own_body in
      let tail : length (mid_of to (length D - to) D) ≡ length d - to = rw (lent_tail D to, length-drop, long) in
      returned_front D to (record_bytes l fs) (f ∙ record_framed (mid_of to (length D - to) D) l fs used u stands fits (omega arith))
      ∙ ap (λ (x : List ℕ). overwrite x to (record_bytes l fs)) e
      ∙ overwrite_over d to (record_bytes l fs) (to + 18) copied (omega arith) (omega arith) (omega (arith, record_length_lem l fs (omega arith)))
