-- What is proved of a posting beside the calls' own promises. Document 02, C-14.
use Rattle.std.specs.Prelude.{ℕ, ◌≤◌, ◌<◌, ◌≡◌, true, List, length, get_or}
use Rattle.word.specs.Overwrite.{overwrite, part}
use Rattle.posting.specs.Answer.{done}
use Rattle.posting.specs.Posting.{posting_at, narrow, read_of, write_out, compare_of, compare_bytes}

-- every element is a byte; past the end 0 is read
abbrev pub OfBytes : List ℕ → Type 0
OfBytes s = (i : ℕ) → get_or s i 0 < 256

-- reading what was written gives the four numbers back
unfoldable pub ReadWritten : Type 0
ReadWritten =
    (m t o s : ℕ) (out : List ℕ) → narrow m t o s ≡ true → 8 ≤ length out
    → read_of (write_out m t o s out) ≡ record { answer = done; mfn = m; tag = t; occurrence = o; sequence = s }

-- writing what was read gives the eight bytes back
unfoldable pub WrittenRead : Type 0
WrittenRead =
    (s out : List ℕ) → OfBytes s → 8 ≤ length s → 8 ≤ length out
    → write_out (read_of s).mfn (read_of s).tag (read_of s).occurrence (read_of s).sequence out ≡ overwrite out 0 (part s 0 8)

-- comparing postings as numbers is comparing their eight bytes as unsigned, most significant first
unfoldable pub ComparesBytes : Type 0
ComparesBytes =
    (x y : List ℕ) → OfBytes x → OfBytes y → 8 ≤ length x → 8 ≤ length y
    → compare_of (posting_at x 0) (posting_at y 0) ≡ compare_bytes (part x 0 8) (part y 0 8)
