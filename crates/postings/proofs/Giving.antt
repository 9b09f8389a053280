-- The loop that gives a run, and the ways through `postings`.
use Prim.Native.Nat.{ℕ, ◌+◌, ◌*◌, ◌≤◌, ◌<◌}
use native.Mathlib.Omega.{arith}
use mathlib.Core.Path.{◌≡◌, sym, ap, ◌∙◌}
use mathlib.Core.List.{List}
use lib.ListN.{length, set}
use Rattle.word.specs.Overwrite.{overwrite}
use Rattle.word.proofs.Overwrite.{overwrite_none, overwrite_more}
use Rattle.posting.specs.Posting.{posting_at}
use Rattle.std.proofs.Common.{Ok, Err}
use Rattle.posting.specs.declared.answer.Refusal.TheVariants.{NoRoom}
use Rattle.postings.specs.declared.segment.Place.{Place}
use Rattle.postings.specs.Rules.{list_of, list_right}
use Rattle.postings.specs.Cursor.{rest_of, row}
use Rattle.postings.specs.declared.list.Opened.{Opened}
use Rattle.postings.proofs.Opening.{SoundList}
use Rattle.postings.proofs.Answers.{Answered, answered_full, answered}
use Rattle.postings.proofs.Runs.{row_length, row_more}

-- ---- a run is given

module _ (f : List ℕ) (at : ℕ) (d : List ℕ) (i : ℕ) where
  pub copied_none : d ≡ overwrite d i (row f 0 at)
  unfolding row
  copied_none = sym (overwrite_none d i)

  pub copied_more : (k p : ℕ) (out : List ℕ) → out ≡ overwrite d i (row f k at) → i + k < length d → p ≡ posting_at f (at + 8 * k)
      → set out (i + k) p ≡ overwrite d i (row f (k + 1) at)
  copied_more k p out e h q =
      let n = row_length f k at in
      let j : i + k ≡ i + length (row f k at) = omega (arith, n) in
      ap (λ (o : List ℕ). set o (i + k) p) e
      ∙ ap (λ (j : ℕ). set (overwrite d i (row f k at)) j p) j
      ∙ overwrite_more d i (row f k at) p (omega (arith, n))
      ∙ ap (overwrite d i) (sym (row_more f k at ∙ rw (← q)))

-- ---- the ways through `postings`

module _ (f : List ℕ) (p : Place) (o : Opened) (t : SoundList f p o) (out : List ℕ) where
  pub postings_full : length out < o.total → Answered (list_right f p) (list_of f p) out (Err NoRoom) out
  postings_full h = answered_full (list_right f p) (list_of f p) out t.right (omega (arith, t.total))

  module _ (h : o.total ≤ length out) where
    pub postings_asked : length (rest_of f o.cursor) ≤ length out
    postings_asked = omega (arith, t.total, ap length t.rest)

    pub postings_done : (last : List ℕ) → last ≡ overwrite out 0 (rest_of f o.cursor) → Answered (list_right f p) (list_of f p) out (Ok o.total) last
    postings_done last e = answered (list_right f p) (list_of f p) out t.right o.total last (omega (arith, t.total)) t.total (e ∙ ap (overwrite out 0) t.rest)
