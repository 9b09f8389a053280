-- A leader and its eighteen bytes, there and back. Each field is an integer of 2 or 4 bytes at its own offset, so all follows from the
-- laws of those integers, field by field; what the first eighteen bytes hold depends on nothing else.
use Prim.Native.Nat.{ℕ, ◌+◌, ◌≤◌, ◌<◌}
use native.Mathlib.Omega.{arith}
use mathlib.Core.Path.{◌≡◌, refl, sym, ◌∙◌}
use mathlib.Core.List.{List, ◌++◌}
use lib.ListN.{length, get_or, take, drop}
use lib.Seq.{get_or-take, get_or-drop}
use Rattle.word.specs.Integer.{u16_at, u32_at, le}
use Rattle.word.specs.Overwrite.{part}
use Rattle.word.proofs.Overwrite.{part_add}
use Rattle.word.proofs.Integers.{Bytes, u16_same, u32_same, u32_le, u16_le_at, u32_le_at, u16_back, u32_back}
use Rattle.layout.specs.Leader.{leader_bytes, leader_of}
use Rattle.layout.specs.declared.leader.Leader.{Leader}

-- ---- what eighteen bytes hold

-- field by field
pub leader_is : (s : List ℕ) (l : Leader) → u32_at s 0 ≡ l.mfn.0 → u16_at s 4 ≡ l.mfrl → u32_at s 6 ≡ l.mfbwb.0 → u16_at s 10 ≡ l.mfbwp
    → u16_at s 12 ≡ l.base → u16_at s 14 ≡ l.nvf → u16_at s 16 ≡ l.status → leader_of s ≡ l
unfolding leader_of
leader_is s l a b c d e f g = rw (a, b, c, d, e, f, g)

module _ (x y : List ℕ) (i j : ℕ) (same : (k : ℕ) → k < 18 → get_or x (i + k) 0 ≡ get_or y (j + k) 0) where
  tail : (a k : ℕ) → a + k < 18 → get_or (drop i x) (a + k) 0 ≡ get_or (drop j y) (a + k) 0
  tail a k h = get_or-drop i x (a + k) 0 ∙ same (a + k) h ∙ sym (get_or-drop j y (a + k) 0)

  -- leaders with the same bytes
  pub leader_same : leader_of (drop i x) ≡ leader_of (drop j y)
  unfolding leader_of
  leader_same =
      let p : List ℕ = drop i x in
      let q : List ℕ = drop j y in
      rw (
        u32_same p q 0 0 (λ k h. tail 0 k (omega arith)),
        u16_same p q 4 4 (λ k h. tail 4 k (omega arith)),
        u32_same p q 6 6 (λ k h. tail 6 k (omega arith)),
        u16_same p q 10 10 (λ k h. tail 10 k (omega arith)),
        u16_same p q 12 12 (λ k h. tail 12 k (omega arith)),
        u16_same p q 14 14 (λ k h. tail 14 k (omega arith)),
        u16_same p q 16 16 (λ k h. tail 16 k (omega arith)),
      )

pub leader_front : (s : List ℕ) (n : ℕ) → 18 ≤ n → leader_of (take n s) ≡ leader_of s
leader_front s n h = leader_same (take n s) s 0 0 (λ k l. get_or-take n s (0 + k) 0 (omega arith))

-- ---- the bytes of a leader

pub leader_length : (l : Leader) → length (leader_bytes l) ≡ 18
unfolding leader_bytes
leader_length l = refl

-- every field is within its width
pub record Ranged (l : Leader) : Type 0 where
  pub mfn : l.mfn.0 < 4294967296
  pub mfrl : l.mfrl < 65536
  pub mfbwb : l.mfbwb.0 < 4294967296
  pub mfbwp : l.mfbwp < 65536
  pub base : l.base < 65536
  pub nvf : l.nvf < 65536
  pub status : l.status < 65536

pub leader_of_bytes : (l : Leader) (rest : List ℕ) → Ranged l → leader_of (leader_bytes l ++ rest) ≡ l
unfolding leader_bytes
leader_of_bytes l rest r =
    let a : List ℕ = le 4 l.mfn.0 in
    let b : List ℕ = a ++ le 2 l.mfrl in
    let c : List ℕ = b ++ le 4 l.mfbwb.0 in
    let d : List ℕ = c ++ le 2 l.mfbwp in
    let e : List ℕ = d ++ le 2 l.base in
    let f : List ℕ = e ++ le 2 l.nvf in
    let z : List ℕ = le 2 l.status ++ rest in
    let y : List ℕ = le 2 l.nvf ++ z in
    let x : List ℕ = le 2 l.base ++ y in
    let w : List ℕ = le 2 l.mfbwp ++ x in
    let v : List ℕ = le 4 l.mfbwb.0 ++ w in
    let u : List ℕ = le 2 l.mfrl ++ v in
    leader_is (leader_bytes l ++ rest) l
    (u32_le l.mfn.0 u r.mfn)
    (u16_le_at a l.mfrl v 4 refl r.mfrl)
    (u32_le_at b l.mfbwb.0 w 6 refl r.mfbwb)
    (u16_le_at c l.mfbwp x 10 refl r.mfbwp)
    (u16_le_at d l.base y 12 refl r.base)
    (u16_le_at e l.nvf z 14 refl r.nvf)
    (u16_le_at f l.status rest 16 refl r.status)

-- the fields' parts, one after the other
parts : (s : List ℕ) → part s 0 18 ≡ part s 0 4 ++ part s 4 2 ++ part s 6 4 ++ part s 10 2 ++ part s 12 2 ++ part s 14 2 ++ part s 16 2
parts s =
    rw (part_add s 0 16 2, part_add s 0 14 2, part_add s 0 12 2, part_add s 0 10 2, part_add s 0 6 4, part_add s 0 4 2)

joined : {a b c d e f g a' b' c' d' e' f' g' : List ℕ} → a ≡ a' → b ≡ b' → c ≡ c' → d ≡ d' → e ≡ e' → f ≡ f' → g ≡ g'
    → a ++ b ++ c ++ d ++ e ++ f ++ g ≡ a' ++ b' ++ c' ++ d' ++ e' ++ f' ++ g'
joined p q r s t u v = cc

-- the bytes of the leader that is read are those that were read
pub bytes_of_leader : (s : List ℕ) → Bytes s → 18 ≤ length s → leader_bytes (leader_of s) ≡ take 18 s
unfolding leader_bytes leader_of
bytes_of_leader s small h =
    joined
    (u32_back s 0 small (omega arith))
    (u16_back s 4 small (omega arith))
    (u32_back s 6 small (omega arith))
    (u16_back s 10 small (omega arith))
    (u16_back s 12 small (omega arith))
    (u16_back s 14 small (omega arith))
    (u16_back s 16 small (omega arith))
    ∙ sym (parts s)
