-- A call read from five numbers. The op that the code reads is the first call of what is left, so that what a run has to know of what it read is
-- by the kind of `Op`: which call it is, and that its draft is there. The numbers themselves are taken apart by the table alone.
use Prim.Native.Nat.{ℕ, ◌≤◌, ◌<◌}
use native.Mathlib.Omega.{arith}
use mathlib.Core.Path.{◌≡◌, refl}
use mathlib.Core.Logic.{⊎_elim}
use mathlib.Core.Bool.{Bool, true, false}
use lib.ListN.{length, get_or}
use borrow.Author.Tests.{le-leb, lt-leb}
use Rattle.std.specs.Prelude.{Option, Some, None}
use Rattle.word.proofs.Overwrite.{lt_or_ge}
use Rattle.word.proofs.Tests.{tests}
use Rattle.ledger.specs.Call.{Call}
use Rattle.script.specs.Ops.{call_size, op_if, op_named, taken_by, taken_of, counts_fit, op_fitting, op_in}
use Rattle.replay.specs.Calls.{Script, call_of, left_of, first_op, first_call}
use Rattle.script.specs.declared.calls.Counts.{Counts}
use Rattle.script.specs.declared.calls.Op.{Op}

-- MFNs and a draft are no longer than what is left
pub record Fits (n : Counts) (s : Script) : Type 0 where
  pub mfns_fit : n.mfns ≤ length s.mfns
  pub tags_fit : n.tags ≤ length s.tags
  pub lens_fit : n.lens ≤ length s.lens
  pub bytes_fit : n.bytes ≤ length s.bytes

fits_test : (n : Counts) (s : Script) → counts_fit n (left_of s) ≡ true → Fits n s
fits_test n s e =
    let f = simp tests at e in
    record { mfns_fit = omega arith; tags_fit = omega arith; lens_fit = omega arith; bytes_fit = omega arith }

-- an op that passed its test takes a draft that is there; one that did not takes none
fits_passed : (s : Script) (o : Option Op) → Fits (taken_of (op_fitting o (left_of s))) s
fits_passed s None = record { mfns_fit = omega arith; tags_fit = omega arith; lens_fit = omega arith; bytes_fit = omega arith }
fits_passed s (Some o) = go (counts_fit (taken_by o) (left_of s)) refl
  where
    go : (b : Bool) → counts_fit (taken_by o) (left_of s) ≡ b → Fits (taken_of (op_if b o)) s
    go true e = fits_test (taken_by o) s e
    go false e = record { mfns_fit = omega arith; tags_fit = omega arith; lens_fit = omega arith; bytes_fit = omega arith }

pub first_fits : (s : Script) → Fits (taken_of (first_op s)) s
unfolding first_op op_in
first_fits s = fits_passed s (op_named (get_or s.ops 0 0) (get_or s.ops 1 0) (get_or s.ops 2 0) (get_or s.ops 3 0) (get_or s.ops 4 0))

-- ---- the first call

-- there is no call in fewer numbers
pub too_short : (s : Script) → length s.ops < call_size → first_call s ≡ None
unfolding first_call
too_short s h = rw (lt-leb call_size (length s.ops) h)

pub long_enough : (s : Script) → call_size ≤ length s.ops → first_call s ≡ call_of s (first_op s)
unfolding first_call
long_enough s h = rw (le-leb call_size (length s.ops) h)

some_none : {c : Call} {q : Option Call} → q ≡ Some c → q ≡ None → ⊥
some_none e f = let z : ◌≡◌ {A = ℕ} 0 1 = cc in omega arith

-- a list with a first call has its five numbers
pub has_numbers : (s : Script) (c : Call) → first_call s ≡ Some c → call_size ≤ length s.ops
has_numbers s c e = ⊎_elim (λ h. absurd (some_none e (too_short s h))) (λ h. h) (lt_or_ge (length s.ops) call_size)
