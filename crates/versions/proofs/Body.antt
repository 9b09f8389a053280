-- The copy of a record's body to the end. The old record lies before the end, so the MST is lent in
-- two parts there.
use Prim.Native.Nat.{ℕ, ◌+◌, ◌-◌, ◌≤◌}
use native.Mathlib.Omega.{arith}
use mathlib.Core.Path.{◌≡◌, ◌∙◌}
use mathlib.Core.List.{List, ◌++◌}
use lib.ListN.{length, take, drop}
use borrow.Rule.Slice.PartMut.{mid_of}
use Rattle.word.specs.Overwrite.{overwrite, part}
use Rattle.word.proofs.Overwrite.{part_short, part_take, overwrite_in_part}
use Rattle.record.specs.Fields.{fields_of}
use Rattle.record.specs.Record.{Readable}
use Rattle.record.proofs.Facts.{readable_facts}
use Rattle.drafts.specs.Bytes.{used_by, need_for}
use Rattle.drafts.proofs.Draftable.{need_used, readable_used}

-- the old body is copied from the part before the end into the part behind it, and both come back
pub body_copied : (d before behind copied last : List ℕ) (at end used : ℕ) → before ≡ take end d → behind ≡ drop end d
    → copied ≡ mid_of (at + 18) (at + used - (at + 18)) before → 18 ≤ used → at + used ≤ end → end + used ≤ length d
    → last ≡ overwrite behind 18 copied → before ++ last ≡ overwrite d (end + 18) (part d (at + 18) (used - 18))
body_copied d before behind copied last at end used b r c low inside room written =
    let n : at + used - (at + 18) ≡ used - 18 = omega arith in
    let is : copied ≡ part d (at + 18) (used - 18) = c ∙ rw (n, b) (part_take d end (at + 18) (used - 18) (omega arith)) in
    rw (written, b, is, r) (overwrite_in_part d end 18 (part d (at + 18) (used - 18)))

-- what the copy asks: the body lies before the end, and the new record has room for it
pub body_in : (d : List ℕ) (at end room used : ℕ) → Readable (part d at (end - at)) → used ≡ used_by (fields_of (part d at (end - at))) → at ≤ end
    → need_for (fields_of (part d at (end - at))) ≤ room → (18 ≤ used) × (at + used ≤ end) × (used ≤ room)
body_in d at end room used r u h k =
    let rec : List ℕ = part d at (end - at) in
    omega (arith, readable_used rec r, (readable_facts r).record_in, part_short d at (end - at), need_used (fields_of rec))
