-- A written record reads back: the leader, the fields and the test, whatever follows the record and wherever in a buffer it stands. The
-- directory and the data are walked together: where entry i begins stand the entries of the fields that are left, and at their POS their
-- data (`entries_read`).
use Prim.Native.Nat.{ℕ, ◌+◌, ◌*◌, ◌-◌, ◌≤◌, ◌<◌}
use native.Mathlib.Nat.{add-zero, add_assoc, le_refl}
use native.Mathlib.Omega.{arith}
use mathlib.Core.Path.{◌≡◌, refl, sym, ap, ◌∙◌}
use mathlib.Core.Bool.{Bool, true}
use mathlib.Core.List.{List, [], ◌∷◌, ◌++◌, append_assoc}
use lib.ListN.{length, take, drop, replicate, length-append, length-replicate}
use lib.Seq.{drop-drop, drop_at, take_at}
use Rattle.word.specs.Integer.{u16_at, le}
use Rattle.word.specs.Overwrite.{overwrite, part}
use Rattle.word.proofs.Overwrite.{part_overwritten}
use Rattle.word.proofs.Integers.{u16_drop, u16_le, u16_le_at}
use Rattle.layout.specs.Sizes.{tag_most, record_length, tag_permitted}
use Rattle.layout.specs.Leader.{leader_of, leader_bytes}
use Rattle.layout.specs.declared.leader.Leader.{Leader}
use Rattle.word.proofs.Tests.{tests}
use Rattle.layout.proofs.Facts.{tag_facts, RecordLengthFacts, record_length_facts}
use Rattle.layout.proofs.LeaderBytes.{leader_length, Ranged, leader_of_bytes}
use Rattle.record.specs.Directory.{tag_at, pos_at, len_at, entries_right, directory_right}
use Rattle.record.specs.Fields.{Field, fields_from, data_of}
use Rattle.record.specs.Record.{leader_right}
use Rattle.drafts.specs.Draft.{tags_permitted}
use Rattle.drafts.specs.Bytes.{entry_bytes, directory_bytes, used_by, need_for, record_bytes, leader_for}
use Rattle.record.proofs.Facts.{entry_from, leader_from}
use Rattle.drafts.proofs.DirectoryBytes.{directory_length}
use Rattle.record.proofs.Local.{ReadsAs, reads_from, status_small}
use Rattle.drafts.proofs.Draftable.{tags_of, Draftable, need_used, need_length}

-- ---- one entry

-- s has xs from a on
read_at : (s xs : List ℕ) (a j k : ℕ) → drop a s ≡ xs → k ≡ a + j → u16_at s k ≡ u16_at xs j
read_at s xs a j k e h = ap (u16_at s) h ∙ sym (u16_drop s a j) ∙ ap (λ (x : List ℕ). u16_at x j) e

module _ (s : List ℕ) (i t p n : ℕ) (tail : List ℕ) (e : drop (18 + 6 * i) s ≡ entry_bytes t p n ++ tail) where
  entry_tag : t < 65536 → tag_at s i ≡ t
  entry_tag h = read_at s (entry_bytes t p n ++ tail) (18 + 6 * i) 0 (18 + 6 * i) e (omega arith) ∙ u16_le t (le 2 p ++ le 2 n ++ tail) h

  entry_pos : p < 65536 → pos_at s i ≡ p
  entry_pos h = read_at s (entry_bytes t p n ++ tail) (18 + 6 * i) 2 (20 + 6 * i) e (omega arith) ∙ u16_le_at (le 2 t) p (le 2 n ++ tail) 2 refl h

  entry_len : n < 65536 → len_at s i ≡ n
  entry_len h = read_at s (entry_bytes t p n ++ tail) (18 + 6 * i) 4 (22 + 6 * i) e (omega arith) ∙ u16_le_at (le 2 t ++ le 2 p) n tail 4 refl h

-- ---- the directory and the data

-- the tags of a list are permitted: the first, and the rest
record FirstTag (f : Field) (fs : List Field) : Type 0 where
  high : f.tag ≤ tag_most
  here : tag_permitted f.tag ≡ true
  rest : tags_permitted (tags_of fs) ≡ true

first_tag : (f : Field) (fs : List Field) → tags_permitted (tags_of (f ∷ fs)) ≡ true → FirstTag f fs
unfolding tags_permitted tags_of
first_tag f fs e = let q = simp tests at e in record { high = (tag_facts f.tag q.0).high; here = q.0; rest = q.1 }

-- the entries from entry i on are right, and are those of fs
record EntriesRead (s : List ℕ) (base room i pos : ℕ) (fs : List Field) : Type 0 where
  right : directory_right s room (length fs) i pos ≡ true
  same : fields_from s base (length fs) i ≡ fs

module _ (s : List ℕ) (base room : ℕ) (small : room < 65536) (behind after : List ℕ) where
  entries_read : (fs : List Field) (i pos : ℕ) → drop (18 + 6 * i) s ≡ directory_bytes pos fs ++ behind → drop (base + pos) s ≡ data_of fs ++ after
      → pos + length (data_of fs) ≤ room → tags_permitted (tags_of fs) ≡ true → EntriesRead s base room i pos fs
  unfolding directory_bytes data_of fields_from directory_right entries_right
  entries_read [] i pos d e h t = record { right = refl; same = refl }
  entries_read (f ∷ fs) i pos d e h t =
      let n : ℕ = length f.bytes in
      let a : ℕ = 18 + 6 * i in
      let q : FirstTag f fs = first_tag f fs t in
      let k : length (f.bytes ++ data_of fs) ≡ n + length (data_of fs) = length-append f.bytes (data_of fs) in
      let entries : List ℕ = directory_bytes (pos + n) fs ++ behind in
      let tag : tag_at s i ≡ f.tag = entry_tag s i f.tag pos n entries d (omega arith) in
      let here : pos_at s i ≡ pos = entry_pos s i f.tag pos n entries d (omega arith) in
      let len : len_at s i ≡ n = entry_len s i f.tag pos n entries d (omega arith) in
      let step : a + 6 ≡ 18 + 6 * (i + 1) = omega arith in
      let next : drop (18 + 6 * (i + 1)) s ≡ entries = rw step at (sym (drop-drop 6 a s) ∙ ap (drop 6) d) in
      let both : drop (base + pos) s ≡ f.bytes ++ (data_of fs ++ after) = e ∙ append_assoc f.bytes (data_of fs) after in
      let bytes : part s (base + pos) n ≡ f.bytes = ap (take n) both ∙ take_at f.bytes (data_of fs ++ after) n refl in
      let rest : drop (base + (pos + n)) s ≡ data_of fs ++ after =
      rw (add_assoc base pos n) at (sym (drop-drop n (base + pos) s) ∙ ap (drop n) both ∙ drop_at f.bytes (data_of fs ++ after) n refl) in
      let r : EntriesRead s base room (i + 1) (pos + n) fs = entries_read fs (i + 1) (pos + n) next rest (omega arith) q.rest in
      record {
        right = entry_from s room (length fs) i pos (record { tag = rw tag q.here; pos_is = here; len = omega arith; rest = rw len r.right });
        same = rw (tag, here, len, bytes, r.same);
      }

-- ---- the record's bytes

module _ (l : Leader) (fs : List Field) where
  record_runs : (rest : List ℕ)
      → record_bytes l fs ++ rest ≡ leader_bytes l ++ (directory_bytes 0 fs ++ (data_of fs ++ (replicate (l.mfrl - used_by fs) 0 ++ rest)))
  unfolding record_bytes
  record_runs rest = simp append_assoc

  pub record_length_lem : used_by fs ≤ l.mfrl → length (record_bytes l fs) ≡ l.mfrl
  unfolding record_bytes
  record_length_lem h =
      let a : length (leader_bytes l) ≡ 18 = leader_length l in
      let b : length (directory_bytes 0 fs) ≡ 6 * length fs = directory_length 0 fs in
      simp (length-append, length-replicate) (omega arith)

  -- the bytes after the data are 0
  pub record_padding : drop (used_by fs) (record_bytes l fs) ≡ replicate (l.mfrl - used_by fs) 0
  unfolding record_bytes
  record_padding =
      let a : length (leader_bytes l) ≡ 18 = leader_length l in
      let b : length (directory_bytes 0 fs) ≡ 6 * length fs = directory_length 0 fs in
      drop_at (leader_bytes l ++ directory_bytes 0 fs ++ data_of fs) (replicate (l.mfrl - used_by fs) 0) (used_by fs) (simp length-append (omega arith))

-- ---- what is written

-- fields, and a leader's MFN, MFRL and back pointer, that a record can be written of
pub record Writable (m mfrl b p : ℕ) (fs : List Field) : Type 0 where
  pub mfn : m < 4294967296
  pub block : b < 4294967296
  pub offset : p < 65536
  pub long : record_length mfrl ≡ true
  pub room : need_for fs ≤ mfrl
  pub fields : Draftable fs

-- with MFRL = need
pub need_writable : (m b p : ℕ) (fs : List Field) → m < 4294967296 → b < 4294967296 → p < 65536 → Draftable fs → Writable m (need_for fs) b p fs
need_writable m b p fs h i j d =
    record { mfn = h; block = i; offset = j; long = need_length fs d; room = le_refl (need_for fs); fields = d }

module _ (m mfrl b p : ℕ) (deleted : Bool) (fs : List Field) (w : Writable m mfrl b p fs) where
  used_in : used_by fs ≤ mfrl
  used_in = omega (arith, need_used fs, w.room)

  leader_ranged : Ranged (leader_for m mfrl b p deleted (length fs))
  leader_ranged =
      let f : RecordLengthFacts mfrl = record_length_facts mfrl w.long in
      let u : used_by fs ≤ mfrl = used_in in
      record {
        mfn = w.mfn;
        mfrl = omega arith;
        mfbwb = w.block;
        mfbwp = w.offset;
        base = omega arith;
        nvf = omega arith;
        status = omega (arith, status_small deleted);
      }

  leader_right_lem : (left : ℕ) → mfrl ≤ left → leader_right m deleted left (leader_for m mfrl b p deleted (length fs)) ≡ true
  leader_right_lem left h =
      leader_from m deleted left (leader_for m mfrl b p deleted (length fs)) refl w.long h refl (omega (arith, used_in)) refl

  pub written_length : length (record_bytes (leader_for m mfrl b p deleted (length fs)) fs) ≡ mfrl
  written_length = record_length_lem (leader_for m mfrl b p deleted (length fs)) fs used_in

  pub written_reads : (rest : List ℕ) → ReadsAs (record_bytes (leader_for m mfrl b p deleted (length fs)) fs ++ rest) m deleted (leader_for m mfrl b p deleted (length fs)) fs
  written_reads rest =
      let l : Leader = leader_for m mfrl b p deleted (length fs) in
      let s : List ℕ = record_bytes l fs ++ rest in
      let f : RecordLengthFacts mfrl = record_length_facts mfrl w.long in
      let u : used_by fs ≤ mfrl = used_in in
      let after : List ℕ = replicate (mfrl - used_by fs) 0 ++ rest in
      let runs : s ≡ leader_bytes l ++ (directory_bytes 0 fs ++ (data_of fs ++ after)) = record_runs l fs rest in
      let d : drop 18 s ≡ directory_bytes 0 fs ++ (data_of fs ++ after) =
      ap (drop 18) runs ∙ drop_at (leader_bytes l) (directory_bytes 0 fs ++ (data_of fs ++ after)) 18 (leader_length l) in
      let e : drop (18 + 6 * length fs + 0) s ≡ data_of fs ++ after =
      rw add-zero
      (sym (drop-drop (6 * length fs) 18 s)
      ∙ ap (drop (6 * length fs)) d
      ∙ drop_at (directory_bytes 0 fs) (data_of fs ++ after) (6 * length fs) (directory_length 0 fs)) in
      let r : EntriesRead s (18 + 6 * length fs) (mfrl - (18 + 6 * length fs)) 0 0 fs =
      entries_read s (18 + 6 * length fs) (mfrl - (18 + 6 * length fs)) (omega arith) (data_of fs ++ after) after fs 0 0 d e (omega arith) w.fields.tags in
      reads_from
      (ap leader_of runs ∙ leader_of_bytes l (directory_bytes 0 fs ++ (data_of fs ++ after)) leader_ranged)
      (leader_right_lem (length s) (omega (arith, length-append (record_bytes l fs) rest, written_length)))
      r.right
      r.same

  -- placed in a buffer, and read up to an end
  pub written_placed : (d : List ℕ) (at end : ℕ) → at + mfrl ≤ end → end ≤ length d
      → ReadsAs (part (overwrite d at (record_bytes (leader_for m mfrl b p deleted (length fs)) fs)) at (end - at)) m deleted (leader_for m mfrl b p deleted (length fs)) fs
  written_placed d at end h k =
      let xs : List ℕ = record_bytes (leader_for m mfrl b p deleted (length fs)) fs in
      let x : length xs ≡ mfrl = written_length in
      rw (part_overwritten d at xs (end - at) (omega arith) (omega arith)) (written_reads (part d (at + length xs) (end - at - length xs)))
