-- A header's tests as facts, and what a header that was read says.
use Prim.Native.Nat.{ℕ, ◌+◌, ◌≤◌, ◌<◌}
use native.Mathlib.Omega.{arith}
use mathlib.Core.Path.{◌≡◌, refl}
use mathlib.Core.Bool.{Bool, true, false, ◌&&◌, cond}
use mathlib.Core.List.{List}
use lib.ListN.{length}
use Rattle.std.proofs.Common.{Option, Some, None}
use Rattle.word.proofs.Tests.{tests}
use Rattle.postings.specs.declared.segment.Place.{Place}
use Rattle.postings.specs.declared.segment.Segment.{Segment}
use Rattle.postings.specs.Segment.{offset_of, header_inside, count_right, header_of, count_of, total_of, next_of, first_of}

-- ---- where a header stands

pub record HeaderFacts (len : ℕ) (p : Place) : Type 0 where
  pub low : 1 ≤ p.block
  pub high : p.block < 2147483648
  pub word_in : p.word ≤ 120
  pub file_in : offset_of p + 20 ≤ len

pub header_facts : (len : ℕ) (p : Place) → header_inside len p ≡ true → HeaderFacts len p
unfolding header_inside
header_facts len p e = let q = simp tests at e in record { low = q.0.0.0; high = q.0.0.1; word_in = q.0.1; file_in = q.1 }

-- ---- what a header that was read says

cond_some : (b : Bool) (x s : Segment) → cond b (Some x) None ≡ Some s → (b ≡ true) × (x ≡ s)
cond_some true x s e = (refl, cc)
cond_some false x s e = let z : ◌≡◌ {A = ℕ} 0 1 = cc in absurd (omega arith)

cond_none : (b : Bool) (x : Segment) → cond b (Some x) None ≡ None → b ≡ false
cond_none true x e = let z : ◌≡◌ {A = ℕ} 0 1 = cc in absurd (omega arith)
cond_none false x e = refl

-- the numbers of a header, as a record of the code
abbrev pub segment_of : List ℕ → Place → Segment
segment_of f p = record { count = count_of f p; total = total_of f p; next = next_of f p; first = first_of p }

pub header_told : (f : List ℕ) (p : Place) (h : Option Segment) (s : Segment) → h ≡ header_of f p → h ≡ Some s
    → (header_inside (length f) p && count_right f p ≡ true) × (segment_of f p ≡ s)
unfolding header_of
header_told f p h s e g = cond_some (header_inside (length f) p && count_right f p) (segment_of f p) s (cc)

pub header_none : (f : List ℕ) (p : Place) (h : Option Segment) → h ≡ header_of f p → h ≡ None → header_inside (length f) p && count_right f p ≡ false
unfolding header_of
header_none f p h e g = cond_none (header_inside (length f) p && count_right f p) (segment_of f p) (cc)
