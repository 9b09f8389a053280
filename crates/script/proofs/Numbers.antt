-- The five numbers of an outcome are copied into a part of the room; where it lists answers, these were written right behind them before.
use Prim.Native.Nat.{ℕ, ◌+◌, ◌-◌, ◌≤◌}
use native.Mathlib.Nat.{add_assoc, add-sub_cancel_left}
use native.Mathlib.Omega.{arith}
use mathlib.Core.Path.{◌≡◌, sym, ap, ◌∙◌}
use mathlib.Core.List.{List, ◌++◌, append_assoc}
use lib.ListN.{length, take, drop, length-append}
use lib.Seq.{drop-drop}
use borrow.Rule.Slice.PartMut.{put_mid}
use Rattle.word.specs.Overwrite.{overwrite}
use Rattle.word.proofs.Overwrite.{overwrite_runs, overwrite_take, overwrite_drop_at}

-- a part that was lent and came back as ys
pub place_part : (d ys : List ℕ) (i k : ℕ) → length ys ≡ k → put_mid i k d ys ≡ overwrite d i ys
place_part d ys i k l =
    ap (λ (r : List ℕ). take i d ++ (ys ++ r)) (drop-drop k i d ∙ ap (λ (n : ℕ). drop (i + n) d) (sym l)) ∙ sym (overwrite_runs d i ys)

-- a part that begins at i and has k numbers, in which ys came to stand
pub copied_part : (d xs ys : List ℕ) (i k : ℕ) → ys ≡ xs → length xs ≡ k → put_mid i (i + k - i) d ys ≡ overwrite d i xs
copied_part d xs ys i k e l = rw (e, add-sub_cancel_left i k) (place_part d xs i k l)

-- and xs are written before it
pub before_part : (d xs ys : List ℕ) (i k : ℕ) → i + length xs ≤ length d → length ys ≡ k
    → overwrite (put_mid (i + length xs) k d ys) i xs ≡ overwrite d i (xs ++ ys)
before_part d xs ys i k h l =
    let a = i + length xs in
    rw (
      place_part d ys a k l,
      overwrite_runs (overwrite d a ys) i xs,
      overwrite_take d a ys i h (omega arith),
      overwrite_drop_at d a ys h,
      overwrite_runs d i (xs ++ ys),
      length-append xs ys,
      append_assoc xs ys,
      ← add_assoc i (length xs) (length ys),
    )
