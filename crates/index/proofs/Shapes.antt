-- Where records and their entries stand, as facts on numbers: the products that omega does not read are dealt with here, once.
use Prim.Native.Nat.{ℕ, zero, suc, ◌+◌, ◌*◌, ◌-◌, ◌<◌, ◌≤◌}
use native.Mathlib.Nat.{suc-mul, mul-le-mul, mul-le-mul_right}
use native.Mathlib.Omega.{arith}
use mathlib.Core.Path.{◌≡◌}
use mathlib.Core.Bool.{true}
use mathlib.Core.List.{List}
use lib.ListN.{length}
use Rattle.index.specs.Layout.{size_of, place_of, key_place, ock_at, plain}
use Rattle.index.specs.Rules.{record_there, rest_right, record_right, node_right, record_right_any}
use Rattle.index.specs.Shape.{Shape, ShapeFits}
use Rattle.index.specs.declared.layout.AnyShape.{AnyShape}
use Rattle.word.proofs.Tests.{tests, and_left}

-- ---- sizes

-- the bytes of all entries
pub size_high : (most step : ℕ) → most ≤ 32 → step ≤ 38 → most * step ≤ 1216
size_high most step h k = mul-le-mul h k

pub size_low : (s : Shape) → ShapeFits s → 8 ≤ size_of s
unfolding size_of
size_low s f = omega (arith, f.head_low)

-- a number of 32 bits times a size
pub times_size : (n size : ℕ) → n < 4294967296 → size ≤ 1228 → n * size ≤ 5274219839488
times_size n size h k = let m : n * size ≤ 4294967295 * 1228 = mul-le-mul {n₂ = 4294967295} (omega arith) k in omega arith

-- an entry's number times a step
pub times_step : (i step : ℕ) → i < 65536 → step ≤ 38 → i * step ≤ 2490368
times_step i step h k = let m : i * step ≤ 65535 * 38 = mul-le-mul {n₂ = 65535} (omega arith) k in omega arith

before : (n size : ℕ) → 1 ≤ n → (n - 1) * size + size ≡ n * size
before zero size h = absurd (omega arith)
before (suc n) size h = let e : suc n - 1 ≡ n = omega arith in rw (e, suc-mul)

-- ---- a record that is there

pub record ThereFacts (f : List ℕ) (s : Shape) (n : ℕ) : Type 0 where
  pub number_low : 1 ≤ n
  pub inside : place_of s n + size_of s ≤ length f

pub there_facts : (f : List ℕ) (s : Shape) (n : ℕ) → record_there f s n ≡ true → ThereFacts f s n
unfolding record_there place_of
there_facts f s n e =
    let q = simp tests at e in
    let b = before n (size_of s) q.0.0 in
    record { number_low = q.0.0; inside = omega arith }

-- entry i lies in the record
pub entry_in : (s : Shape) (n i : ℕ) → i < s.most → key_place s n i + s.step ≤ place_of s n + size_of s
unfolding key_place size_of
entry_in s n i h =
    let m : suc i * s.step ≤ s.most * s.step = mul-le-mul_right s.step h in
    omega (arith, suc-mul i s.step)

-- the first one in the file
pub first_in : (f : List ℕ) (s : Shape) (n : ℕ) → 1 ≤ s.most → record_there f s n ≡ true → key_place s n 0 + s.step ≤ length f
first_in f s n h e = let t = there_facts f s n e in omega (arith, entry_in s n 0 h)

-- ---- a record that keeps its rules

pub record RightFacts (f : List ℕ) (s : Shape) (n : ℕ) : Type 0 where
  pub there : record_there f s n ≡ true
  pub place_low : 1 ≤ n
  pub whole : place_of s n + size_of s ≤ length f
  pub count_low : 1 ≤ ock_at f s n
  pub count_high : ock_at f s n ≤ s.most

pub right_facts : (f : List ℕ) (s : Shape) (n : ℕ) → record_right f s n ≡ true → RightFacts f s n
unfolding record_right rest_right
right_facts f s n e =
    let q = simp tests at e in
    let t = there_facts f s n q.0 in
    record { there = q.0; place_low = t.number_low; whole = t.inside; count_low = q.1.0.1.0; count_high = q.1.0.1.1 }

pub right_there : (f : List ℕ) (s : Shape) (n : ℕ) → record_right f s n ≡ true → record_there f s n ≡ true
right_there f s n e = (right_facts f s n e).there

-- a right node is a right record
pub node_record : (f : List ℕ) (s : Shape) (n : ℕ) → node_right f s n ≡ true → record_right f s n ≡ true
unfolding node_right
node_record f s n e = and_left _ _ e

-- every active entry lies in the file
pub active_in : (f : List ℕ) (s : Shape) (n i : ℕ) → record_right f s n ≡ true → i < ock_at f s n → key_place s n i + s.step ≤ length f
active_in f s n i e h =
    let r = right_facts f s n e in
    omega (arith, entry_in s n i (omega arith))

-- and all of them, one after the other
pub keys_in : (f : List ℕ) (s : Shape) (n : ℕ) → record_right f s n ≡ true → key_place s n 0 + ock_at f s n * s.step ≤ length f
unfolding key_place size_of
keys_in f s n e =
    let r = right_facts f s n e in
    let m : ock_at f s n * s.step ≤ s.most * s.step = mul-le-mul_right s.step r.count_high in
    omega (arith, r.whole, m)

-- ---- a record of any widths that keeps its rules

pub any_facts : (f : List ℕ) (s : AnyShape) (n : ℕ) → record_right_any f s n ≡ true → RightFacts f (plain s) n
unfolding record_right_any
any_facts f s n e =
    let q = simp tests at e in
    let t = there_facts f (plain s) n q.0.0.0 in
    record { there = q.0.0.0; place_low = t.number_low; whole = t.inside; count_low = q.0.1.0; count_high = q.0.1.1 }

pub any_there : (f : List ℕ) (s : AnyShape) (n : ℕ) → record_right_any f s n ≡ true → record_there f (plain s) n ≡ true
any_there f s n e = (any_facts f s n e).there

-- every active entry lies in the file
pub any_in : (f : List ℕ) (s : AnyShape) (n i : ℕ) → record_right_any f s n ≡ true → i < ock_at f (plain s) n → key_place (plain s) n i + s.step ≤ length f
any_in f s n i e h =
    let r = any_facts f s n e in
    omega (arith, entry_in (plain s) n i (omega arith))
