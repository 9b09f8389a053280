-- A posting: 64 bits, most significant first, PMFN 24, PTAG 16, POCC 8, PCNT 16. Document 02, C-14; source document 004, "Format of IFP file".
use Rattle.std.specs.Prelude.{ℕ, ◌+◌, ◌*◌, ◌/◌, ◌%◌, Bool, ◌&&◌, cond, List, [], ◌∷◌, ◌++◌, eqb, ltb, length, get_or, Result, Ok, Err}
use Rattle.word.specs.Overwrite.{overwrite}
use Rattle.posting.specs.Answer.{Answer, done, leaves}
use Rattle.posting.specs.declared.answer.Refusal.{Refusal}
use Rattle.posting.specs.declared.answer.Refusal.TheVariants.{NoRoom, Broken}
use Rattle.posting.specs.declared.codec.Posting as numbers

-- the number of four bytes at an offset, the highest byte first
unfoldable pub quad_at : List ℕ → ℕ → ℕ
quad_at s at = ((get_or s at 0 * 256 + get_or s (at + 1) 0) * 256 + get_or s (at + 2) 0) * 256 + get_or s (at + 3) 0

-- the posting in the eight bytes at an offset, as a number
unfoldable pub posting_at : List ℕ → ℕ → ℕ
posting_at s at = quad_at s at * 4294967296 + quad_at s (at + 4)

-- the four bytes of a number
abbrev pub quad_bytes : ℕ → List ℕ
quad_bytes n = n / 16777216 % 256 ∷ n / 65536 % 256 ∷ n / 256 % 256 ∷ n % 256 ∷ []

-- the eight bytes of a posting
unfoldable pub posting_bytes : ℕ → List ℕ
posting_bytes p = quad_bytes (p / 4294967296) ++ quad_bytes (p % 4294967296)

-- the posting of four numbers, and the four numbers of a posting
abbrev pub posting_of : ℕ → ℕ → ℕ → ℕ → ℕ
posting_of mfn tag occurrence sequence = mfn * 1099511627776 + tag * 16777216 + occurrence * 65536 + sequence

abbrev pub mfn_of : ℕ → ℕ
mfn_of p = p / 1099511627776

abbrev pub tag_of : ℕ → ℕ
tag_of p = p / 16777216 % 65536

abbrev pub occurrence_of : ℕ → ℕ
occurrence_of p = p / 65536 % 256

abbrev pub sequence_of : ℕ → ℕ
sequence_of p = p % 65536

-- no number is too wide to write
unfoldable pub narrow : ℕ → ℕ → ℕ → ℕ → Bool
narrow mfn tag occurrence sequence = ltb mfn 16777216 && ltb tag 65536 && ltb occurrence 256 && ltb sequence 65536

-- a posting that was read; four zeros where it was refused
pub record Posting : Type 0 where
  pub answer : Answer
  pub mfn : ℕ
  pub tag : ℕ
  pub occurrence : ℕ
  pub sequence : ℕ

-- what a reading gives, as such
abbrev pub posting_read : Result numbers.Posting Refusal → Posting
posting_read (Ok p) = record { answer = done; mfn = p.mfn; tag = p.tag; occurrence = p.occurrence; sequence = p.sequence }
posting_read (Err r) = record { answer = Err r; mfn = 0; tag = 0; occurrence = 0; sequence = 0 }

-- reading: the first eight bytes; 23 where there are fewer
unfoldable pub read_of : List ℕ → Posting
read_of s =
    cond (ltb (length s) 8)
    (record { answer = Err Broken; mfn = 0; tag = 0; occurrence = 0; sequence = 0 })
    (record {
      answer = done;
      mfn = mfn_of (posting_at s 0);
      tag = tag_of (posting_at s 0);
      occurrence = occurrence_of (posting_at s 0);
      sequence = sequence_of (posting_at s 0);
    })

-- writing: 23 where a number is too wide, then 17 where there are fewer than eight bytes
unfoldable pub write_answer : ℕ → ℕ → ℕ → ℕ → List ℕ → Answer
write_answer mfn tag occurrence sequence out = cond (narrow mfn tag occurrence sequence) (cond (ltb (length out) 8) (Err NoRoom) done) (Err Broken)

unfoldable pub write_out : ℕ → ℕ → ℕ → ℕ → List ℕ → List ℕ
write_out mfn tag occurrence sequence out =
    leaves (write_answer mfn tag occurrence sequence out) (overwrite out 0 (posting_bytes (posting_of mfn tag occurrence sequence))) out

-- 0 less, 1 equal, 2 greater
abbrev pub compare_of : ℕ → ℕ → ℕ
compare_of a b = cond (ltb a b) 0 (cond (eqb a b) 1 2)

-- comparing bytes as unsigned numbers: the first that differ decide
unfoldable pub compare_bytes : List ℕ → List ℕ → ℕ
compare_bytes [] [] = 1
compare_bytes [] (y ∷ ys) = 0
compare_bytes (x ∷ xs) [] = 2
compare_bytes (x ∷ xs) (y ∷ ys) = cond (ltb x y) 0 (cond (eqb x y) (compare_bytes xs ys) 2)
