-- What `write` makes of four numbers that fit: the eight bytes of their posting, before the rest of the list.
use Prim.Native.Nat.{ℕ, ◌/◌, ◌%◌, ◌≤◌, ◌<◌}
use native.Mathlib.Omega.{arith}
use mathlib.Core.Path.{◌≡◌, sym, ap, ◌∙◌}
use mathlib.Core.Bool.{true}
use mathlib.Core.List.{List, ◌++◌}
use lib.ListN.{length, drop}
use borrow.Author.Tests.{le-ltb}
use Rattle.std.specs.Int.{w64, to_be_bytes}
use Rattle.word.proofs.Overwrite.{overwrite_runs}
use Rattle.posting.specs.Posting.{posting_bytes, posting_of, narrow, write_answer, write_out}
use Rattle.word.proofs.Tests.{tests}

pub narrow_facts : (m t o s : ℕ) → narrow m t o s ≡ true → (m < 16777216) × (t < 65536) × (o < 256) × (s < 65536)
unfolding narrow
narrow_facts m t o s e = let q = simp tests at e in (q.0.0.0, q.0.0.1, q.0.1, q.1)

module _ (n : ℕ) where
  high_fourth : n / 72057594037927936 % 256 ≡ n / 4294967296 / 16777216 % 256
  high_fourth = omega arith

  high_third : n / 281474976710656 % 256 ≡ n / 4294967296 / 65536 % 256
  high_third = omega arith

  high_second : n / 1099511627776 % 256 ≡ n / 4294967296 / 256 % 256
  high_second = omega arith

  low_fourth : n / 16777216 % 256 ≡ n % 4294967296 / 16777216 % 256
  low_fourth = omega arith

  low_third : n / 65536 % 256 ≡ n % 4294967296 / 65536 % 256
  low_third = omega arith

  low_second : n / 256 % 256 ≡ n % 4294967296 / 256 % 256
  low_second = omega arith

  low_first : n % 256 ≡ n % 4294967296 % 256
  low_first = omega arith

  bytes_high_first : to_be_bytes w64 n ≡ posting_bytes n
  unfolding posting_bytes
  bytes_high_first = rw (high_fourth, high_third, high_second, low_fourth, low_third, low_second, low_first)

pub written : (m t o s : ℕ) (out x : List ℕ) → narrow m t o s ≡ true → 8 ≤ length out → x ≡ to_be_bytes w64 (posting_of m t o s)
    → x ++ drop 8 out ≡ write_out m t o s out
unfolding write_out write_answer posting_bytes
written m t o s out x n h e =
    ap (λ (xs : List ℕ). xs ++ drop 8 out) (e ∙ bytes_high_first (posting_of m t o s))
    ∙ sym (rw (n, le-ltb (length out) 8 h) (overwrite_runs out 0 (posting_bytes (posting_of m t o s))))
