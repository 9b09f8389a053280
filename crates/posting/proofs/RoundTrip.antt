-- A posting read back after it was written gives the four numbers; written back after it was read gives the eight bytes; and comparing two
-- postings as numbers is comparing their eight bytes.
use Prim.Native.Nat.{ℕ, zero, suc, ◌+◌, ◌*◌, ◌/◌, ◌%◌, ◌≤◌, ◌<◌}
use native.Mathlib.Nat.{add_assoc, mod-eq_of_lt, div-div-eq-div-mul}
use native.Mathlib.Numerals.{add-one}
use native.Mathlib.Omega.{arith}
use mathlib.Core.Path.{◌≡◌, refl, sym, ap, ◌∙◌}
use mathlib.Core.Bool.{Bool, true, false}
use mathlib.Core.List.{List, [], ◌∷◌, ◌++◌}
use lib.Dec.{ltb, eqb}
use lib.ListN.{length, get_or, drop}
use lib.Seq.{drop-cons}
use borrow.Author.Tests.{ltb-true, ltb-false, lt-ltb, le-ltb, eqb-true, eqb-false, eq-eqb, ne_eqb}
use Rattle.word.specs.Overwrite.{overwrite, part}
use Rattle.word.proofs.Overwrite.{overwrite_runs, overwrite_length}
use Rattle.word.proofs.Integers.{Bytes}
use Rattle.posting.specs.Answer.{done}
use Rattle.posting.specs.Bytes.{high_first}
use Rattle.posting.specs.Posting.{quad_at, posting_at, quad_bytes, posting_bytes, posting_of, mfn_of, tag_of, occurrence_of, sequence_of, narrow, read_of, write_answer, write_out, compare_of, compare_bytes}
use Rattle.posting.proofs.Writing.{narrow_facts}

-- ---- the four numbers

pub fields_back : (p : ℕ) → posting_of (mfn_of p) (tag_of p) (occurrence_of p) (sequence_of p) ≡ p
fields_back p = omega arith

module _ (m t o s : ℕ) (ht : t < 65536) (ho : o < 256) (hs : s < 65536) where
  pub mfn_back : mfn_of (posting_of m t o s) ≡ m
  mfn_back = omega arith

  pub tag_back : tag_of (posting_of m t o s) ≡ t
  tag_back = omega arith

  pub occurrence_back : occurrence_of (posting_of m t o s) ≡ o
  occurrence_back = omega arith

  pub sequence_back : sequence_of (posting_of m t o s) ≡ s
  sequence_back = omega arith

-- ---- four bytes

digits : (n : ℕ) → n / 256 * 256 + n % 256 ≡ n
digits n = omega arith

quad_nest : (n x y z : ℕ) → n / 256 ≡ x → x / 256 ≡ y → y / 256 ≡ z → z < 256 → ((z % 256 * 256 + y % 256) * 256 + x % 256) * 256 + n % 256 ≡ n
quad_nest n x y z p q r h =
    let d : z * 256 + y % 256 ≡ y = rw (← r) (digits y) in
    let e : y * 256 + x % 256 ≡ x = rw (← q) (digits x) in
    let g : x * 256 + n % 256 ≡ n = rw (← p) (digits n) in
    rw (mod-eq_of_lt h, d, e, g)

quad_read : (n : ℕ) → n < 4294967296 → ((n / 16777216 % 256 * 256 + n / 65536 % 256) * 256 + n / 256 % 256) * 256 + n % 256 ≡ n
quad_read n h =
    quad_nest n (n / 256) (n / 65536) (n / 16777216) refl (div-div-eq-div-mul n 256 256) (div-div-eq-div-mul n 65536 256) (omega arith)

module _ (a b c d : ℕ) (ha : a < 256) (hb : b < 256) (hc : c < 256) (hd : d < 256) where
  quad_first : (((a * 256 + b) * 256 + c) * 256 + d) / 16777216 % 256 ≡ a
  quad_first = omega arith

  quad_second : (((a * 256 + b) * 256 + c) * 256 + d) / 65536 % 256 ≡ b
  quad_second = omega arith

  quad_third : (((a * 256 + b) * 256 + c) * 256 + d) / 256 % 256 ≡ c
  quad_third = omega arith

  quad_fourth : (((a * 256 + b) * 256 + c) * 256 + d) % 256 ≡ d
  quad_fourth = omega arith

-- the bytes at the front of a list
pub posting_written : (p : ℕ) (rest : List ℕ) → p < 18446744073709551616 → posting_at (posting_bytes p ++ rest) 0 ≡ p
unfolding posting_at posting_bytes quad_at
posting_written p rest h = rw (quad_read (p / 4294967296) (omega arith), quad_read (p % 4294967296) (omega arith)) (omega arith)

-- ---- the bytes of a list, one by one

unfoldable pub items : List ℕ → ℕ → ℕ → List ℕ
items s at zero = []
items s at (suc k) = get_or s at 0 ∷ items s (at + 1) k

part_items : (s : List ℕ) (at k : ℕ) → at + k ≤ length s → part s at k ≡ items s at k
unfolding items
part_items s at zero h = refl
part_items s at (suc k) h = rw (drop-cons s at 0 (omega arith), ← add-one at, part_items s (at + 1) k (omega arith))

-- a posting is the number of its eight bytes, the highest first, and its first half that of four
pub posting_high : (s : List ℕ) (at : ℕ) → posting_at s at ≡ high_first 0 (items s at 8)
unfolding posting_at quad_at items
posting_high s at =
    rw (add_assoc at 1 1, add_assoc at 2 1, add_assoc at 3 1, add_assoc at 4 1, add_assoc at 4 2, add_assoc at 4 3, add_assoc at 5 1, add_assoc at 6 1) (omega arith)

module _ (s : List ℕ) (b : Bytes s) where
  quad_small : (at : ℕ) → quad_at s at < 4294967296
  unfolding quad_at
  quad_small at = omega (arith, b at, b (at + 1), b (at + 2), b (at + 3))

  pub posting_small : (at : ℕ) → posting_at s at < 18446744073709551616
  unfolding posting_at
  posting_small at = omega (arith, quad_small at, quad_small (at + 4))

  -- its first three bytes are PMFN
  pub read_mfn : (at r : ℕ) → r ≡ 0 + get_or s at 0 * 65536 + get_or s (at + 1) 0 * 256 + get_or s (at + 2) 0
      → (r ≡ mfn_of (posting_at s at)) × (r < 16777216)
  unfolding posting_at quad_at
  read_mfn at r e = (omega (arith, quad_small (at + 4), b (at + 3)), omega (arith, b at, b (at + 1), b (at + 2)))

  quad_items : (at : ℕ) → quad_bytes (quad_at s at) ≡ get_or s at 0 ∷ get_or s (at + 1) 0 ∷ get_or s (at + 2) 0 ∷ get_or s (at + 3) 0 ∷ []
  unfolding quad_at
  quad_items at =
      let w = get_or s at 0 in
      let x = get_or s (at + 1) 0 in
      let y = get_or s (at + 2) 0 in
      let z = get_or s (at + 3) 0 in
      rw (
        quad_first w x y z (b at) (b (at + 1)) (b (at + 2)) (b (at + 3)),
        quad_second w x y z (b at) (b (at + 1)) (b (at + 2)) (b (at + 3)),
        quad_third w x y z (b at) (b (at + 1)) (b (at + 2)) (b (at + 3)),
        quad_fourth w x y z (b at) (b (at + 1)) (b (at + 2)) (b (at + 3)),
      )

  -- the eight bytes of the posting that stands there
  pub posting_bytes_lem : 8 ≤ length s → posting_bytes (posting_at s 0) ≡ part s 0 8
  unfolding posting_bytes posting_at items
  posting_bytes_lem h =
      let u : (quad_at s 0 * 4294967296 + quad_at s 4) / 4294967296 ≡ quad_at s 0 = omega (arith, quad_small 4) in
      let l : (quad_at s 0 * 4294967296 + quad_at s 4) % 4294967296 ≡ quad_at s 4 = omega (arith, quad_small 4) in
      ap (λ (k : ℕ). quad_bytes k ++ quad_bytes ((quad_at s 0 * 4294967296 + quad_at s 4) % 4294967296)) u
      ∙ ap (λ (k : ℕ). quad_bytes (quad_at s 0) ++ quad_bytes k) l
      ∙ ap (λ (xs : List ℕ). xs ++ quad_bytes (quad_at s 4)) (quad_items 0)
      ∙ ap (λ (xs : List ℕ). (get_or s 0 0 ∷ get_or s 1 0 ∷ get_or s 2 0 ∷ get_or s 3 0 ∷ []) ++ xs) (quad_items 4)
      ∙ sym (part_items s 0 8 h)

-- ---- there and back

bytes_length : (p : ℕ) → length (posting_bytes p) ≡ 8
unfolding posting_bytes
bytes_length p = refl

narrow_posting : (m t o s : ℕ) → narrow m t o s ≡ true → posting_of m t o s < 18446744073709551616
narrow_posting m t o s n = let q = narrow_facts m t o s n in omega (arith, q.0, q.1, q.2, q.3)

write_out_lem : (m t o s : ℕ) (out : List ℕ) → narrow m t o s ≡ true → 8 ≤ length out → write_out m t o s out ≡ overwrite out 0 (posting_bytes (posting_of m t o s))
unfolding write_out write_answer
write_out_lem m t o s out n h = rw (n, le-ltb (length out) 8 h)

-- reading what was written gives the four numbers back
pub read_written : (m t o s : ℕ) (out : List ℕ) → narrow m t o s ≡ true → 8 ≤ length out
    → read_of (write_out m t o s out) ≡ record { answer = done; mfn = m; tag = t; occurrence = o; sequence = s }
unfolding read_of
read_written m t o s out n h =
    let q = narrow_facts m t o s n in
    let p : ℕ = posting_of m t o s in
    let l : length (overwrite out 0 (posting_bytes p)) ≡ length out =
    overwrite_length out 0 (posting_bytes p) (omega (arith, bytes_length p)) in
    let e : posting_at (overwrite out 0 (posting_bytes p)) 0 ≡ p =
    ap (λ (d : List ℕ). posting_at d 0) (overwrite_runs out 0 (posting_bytes p)) ∙ posting_written p (drop (0 + length (posting_bytes p)) out) (narrow_posting m t o s n) in
    let b : ltb (length (overwrite out 0 (posting_bytes p))) 8 ≡ false = le-ltb (length (overwrite out 0 (posting_bytes p))) 8 (omega arith) in
    rw (
      write_out_lem m t o s out n h,
      b,
      e,
      mfn_back m t o s q.1 q.2 q.3,
      tag_back m t o s q.1 q.2 q.3,
      occurrence_back m t o s q.1 q.2 q.3,
      sequence_back m t o s q.1 q.2 q.3,
    )

fields_narrow : (p : ℕ) → p < 18446744073709551616 → narrow (mfn_of p) (tag_of p) (occurrence_of p) (sequence_of p) ≡ true
unfolding narrow
fields_narrow p h =
    let m : mfn_of p < 16777216 = omega arith in
    let t : tag_of p < 65536 = omega arith in
    let o : occurrence_of p < 256 = omega arith in
    let s : sequence_of p < 65536 = omega arith in
    rw (lt-ltb (mfn_of p) 16777216 m, lt-ltb (tag_of p) 65536 t, lt-ltb (occurrence_of p) 256 o, lt-ltb (sequence_of p) 65536 s)

-- writing what was read gives the eight bytes back
pub written_read : (s out : List ℕ) → Bytes s → 8 ≤ length s → 8 ≤ length out
    → write_out (read_of s).mfn (read_of s).tag (read_of s).occurrence (read_of s).sequence out ≡ overwrite out 0 (part s 0 8)
unfolding read_of
written_read s out b h g =
    let p : ℕ = posting_at s 0 in
    let e : write_out (mfn_of p) (tag_of p) (occurrence_of p) (sequence_of p) out ≡ overwrite out 0 (part s 0 8) =
    write_out_lem (mfn_of p) (tag_of p) (occurrence_of p) (sequence_of p) out (fields_narrow p (posting_small s b 0)) g
    ∙ ap (λ (k : ℕ). overwrite out 0 (posting_bytes k)) (fields_back p)
    ∙ ap (overwrite out 0) (posting_bytes_lem s b h) in
    rw (le-ltb (length s) 8 h) e

-- ---- comparing

data Alike : List ℕ → List ℕ → Type 0 where
  none : Alike [] []
  more : {x y : ℕ} {xs ys : List ℕ} → x < 256 → y < 256 → Alike xs ys → Alike (x ∷ xs) (y ∷ ys)

high_less : {xs ys : List ℕ} → Alike xs ys → (a b : ℕ) → a < b → high_first a xs < high_first b ys
high_less none a b h = h
high_less (more {x = x} {y = y} p q l) a b h = high_less l (a * 256 + x) (b * 256 + y) (omega arith)

alike_swap : {xs ys : List ℕ} → Alike xs ys → Alike ys xs
alike_swap none = none
alike_swap (more p q l) = more q p (alike_swap l)

compare_step : {xs ys : List ℕ} (x y a : ℕ) → x < 256 → y < 256 → Alike xs ys
    → compare_of (high_first (a * 256 + x) xs) (high_first (a * 256 + x) ys) ≡ compare_bytes xs ys
    → (t u : Bool) → ltb x y ≡ t → eqb x y ≡ u
    → compare_of (high_first (a * 256 + x) xs) (high_first (a * 256 + y) ys) ≡ compare_bytes (x ∷ xs) (y ∷ ys)
unfolding compare_bytes
compare_step {xs} {ys} x y a hx hy l r true u e g =
    let h : x < y = ltb-true x y e in
    let n : high_first (a * 256 + x) xs < high_first (a * 256 + y) ys = high_less l (a * 256 + x) (a * 256 + y) (omega arith) in
    rw (lt-ltb (high_first (a * 256 + x) xs) (high_first (a * 256 + y) ys) n, e)
compare_step {xs} {ys} x y a hx hy l r false true e g =
    let q : y ≡ x = sym (eqb-true x y g) in
    rw (e, g, q) r
compare_step {xs} {ys} x y a hx hy l r false false e g =
    let h : y ≤ x = ltb-false x y e in
    let o : x ≡ y → ⊥ = eqb-false x y g in
    let k : y < x = omega (arith, o) in
    let n : high_first (a * 256 + y) ys < high_first (a * 256 + x) xs = high_less (alike_swap l) (a * 256 + y) (a * 256 + x) (omega arith) in
    let i : high_first (a * 256 + x) xs ≡ high_first (a * 256 + y) ys → ⊥ = omega arith in
    rw (le-ltb (high_first (a * 256 + x) xs) (high_first (a * 256 + y) ys) (omega arith), ne_eqb (high_first (a * 256 + x) xs) (high_first (a * 256 + y) ys) i, e, g)

compare_high : {xs ys : List ℕ} → Alike xs ys → (a : ℕ) → compare_of (high_first a xs) (high_first a ys) ≡ compare_bytes xs ys
unfolding compare_bytes
compare_high none a = rw (le-ltb a a (omega arith), eq-eqb a a refl)
compare_high (more {x = x} {y = y} p q l) a =
    compare_step x y a p q l (compare_high l (a * 256 + x)) (ltb x y) (eqb x y) refl refl

module _ (x y : List ℕ) (b : Bytes x) (c : Bytes y) where
  items_alike : (at k : ℕ) → Alike (items x at k) (items y at k)
  unfolding items
  items_alike at zero = none
  items_alike at (suc k) = more (b at) (c at) (items_alike (at + 1) k)

-- comparing postings as numbers is comparing their eight bytes as unsigned, most significant first
pub compare_bytes_lem : (x y : List ℕ) → Bytes x → Bytes y → 8 ≤ length x → 8 ≤ length y
    → compare_of (posting_at x 0) (posting_at y 0) ≡ compare_bytes (part x 0 8) (part y 0 8)
compare_bytes_lem x y b c h g =
    rw (posting_high x 0, posting_high y 0, part_items x 0 8 h, part_items y 0 8 g) (compare_high (items_alike x y b c 0 8) 0)
