-- Keys compared 8 bytes at a time: bytes as the digits of one number, whose order is the order of the bytes.
use Prim.Native.Nat.{ℕ, suc, ◌+◌, ◌*◌, ◌/◌, ◌%◌, ◌^◌, ◌<◌, ◌≤◌}
use native.Mathlib.Nat.{suc-mul, mul-le-mul_right, pow-zero, pow-succ'}
use native.Mathlib.Omega.{arith}
use mathlib.Core.Path.{◌≡◌, refl, sym, ap, ◌∙◌}
use mathlib.Core.Logic.{◌⊎◌, inl, inr, ⊎_elim}
use mathlib.Core.Bool.{true, false}
use mathlib.Core.List.{List, [], ◌∷◌, ◌++◌}
use lib.Dec.{eqb, ltb}
use lib.ListN.{length, get_or, take, drop, take-append-drop}
use lib.Seq.{take-take, take-add, take-length}
use borrow.Author.Tests.{eq-eqb, ne_eqb, eqb-true, eqb-false, lt-ltb, le-ltb}
use mir.Syntax.{w8}
use mir.Val.{Fits}
use Rattle.std.specs.Int.{w64, swap_bytes, from_be_bytes}
use Rattle.word.specs.Integer.{u64_at, le}
use Rattle.word.specs.Overwrite.{part}
use Rattle.word.proofs.Overwrite.{lt_or_ge, part_length}
use Rattle.word.proofs.Integers.{Bytes, bytes_part, u64_back}
use Rattle.terms.specs.Key.{same, below}
use Rattle.terms.specs.Inner.{big}
use Rattle.terms.proofs.Order.{by_cases, never, below_irrefl, below_trans, below_first, below_rest, same_is, same_refl}

-- ---- two numbers by their highest digits

digit_order : (x y u v p : ℕ) → u < p → v < p → x < y → x * p + u < y * p + v
digit_order x y u v p h k l =
    let m : suc x * p ≤ y * p = mul-le-mul_right p l in
    omega (arith, suc-mul x p)

three : (x y : ℕ) → (x < y) ⊎ ((x ≡ y) ⊎ (y < x))
three x y = ⊎_elim (λ l. inl l) (λ g. ⊎_elim (λ l. inr (inr l)) (λ e. inr (inl (omega arith))) (lt_or_ge y x)) (lt_or_ge x y)

-- ---- the bytes of a number

behind : (x : ℕ) (xs : List ℕ) → Bytes (x ∷ xs) → Bytes xs
behind x xs small i = small (suc i)

big_bound : (xs : List ℕ) → Bytes xs → big xs < 256 ^ length xs
unfolding big
big_bound [] small = omega (arith, pow-zero 256)
big_bound (x ∷ xs) small =
    let b = big_bound xs (behind x xs small) in
    let m : suc x * 256 ^ length xs ≤ 256 * 256 ^ length xs = mul-le-mul_right (256 ^ length xs) (small 0) in
    omega (arith, suc-mul x (256 ^ length xs), pow-succ' 256 (length xs))

same_big : (xs ys : List ℕ) → Bytes xs → Bytes ys → length xs ≡ length ys → big xs ≡ big ys → xs ≡ ys
unfolding big
same_big [] [] sx sy l e = refl
same_big [] (y ∷ ys) sx sy l e = absurd (omega (arith, l))
same_big (x ∷ xs) [] sx sy l e = absurd (omega (arith, l))
same_big (x ∷ xs) (y ∷ ys) sx sy l e =
    let n : length xs ≡ length ys = omega (arith, l) in
    let f : x * 256 ^ length ys + big xs ≡ y * 256 ^ length ys + big ys = rw n at e in
    let u : big xs < 256 ^ length ys = rw n at (big_bound xs (behind x xs sx)) in
    let v = big_bound ys (behind y ys sy) in
    let z : x ≡ y =
    ⊎_elim
    (λ g. absurd (omega (arith, digit_order x y (big xs) (big ys) (256 ^ length ys) u v g)))
    (⊎_elim (λ g. g) (λ g. absurd (omega (arith, digit_order y x (big ys) (big xs) (256 ^ length ys) v u g))))
    (three x y) in
    let r : xs ≡ ys = same_big xs ys (behind x xs sx) (behind y ys sy) n (omega (arith, f, ap (λ (d : ℕ). d * 256 ^ length ys) z)) in
    rw (z, r)

below_big : (xs ys us vs : List ℕ) → Bytes xs → Bytes ys → length xs ≡ length ys → big xs < big ys → below (xs ++ us) (ys ++ vs) ≡ true
unfolding big
below_big [] [] us vs sx sy l h = absurd (omega arith)
below_big [] (y ∷ ys) us vs sx sy l h = absurd (omega (arith, l))
below_big (x ∷ xs) [] us vs sx sy l h = absurd (omega (arith, l))
below_big (x ∷ xs) (y ∷ ys) us vs sx sy l h =
    let n : length xs ≡ length ys = omega (arith, l) in
    let f : x * 256 ^ length ys + big xs < y * 256 ^ length ys + big ys = rw n at h in
    let u : big xs < 256 ^ length ys = rw n at (big_bound xs (behind x xs sx)) in
    let v = big_bound ys (behind y ys sy) in
    ⊎_elim
    (λ g. below_first x y (xs ++ us) (ys ++ vs) g)
    (⊎_elim
    (λ z. below_rest x y (xs ++ us) (ys ++ vs) z
    (below_big xs ys us vs (behind x xs sx) (behind y ys sy) n (omega (arith, f, ap (λ (d : ℕ). d * 256 ^ length ys) z))))
    (λ g. absurd (omega (arith, f, digit_order y x (big ys) (big xs) (256 ^ length ys) v u g))))
    (three x y)

-- ---- equal bytes in front

below_skip : (zs xs ys : List ℕ) → below (zs ++ xs) (zs ++ ys) ≡ below xs ys
unfolding below
below_skip [] xs ys = refl
below_skip (z ∷ zs) xs ys = rw (eq-eqb z z refl) (below_skip zs xs ys)

same_skip : (zs xs ys : List ℕ) → same (zs ++ xs) (zs ++ ys) ≡ same xs ys
unfolding same
same_skip [] xs ys = refl
same_skip (z ∷ zs) xs ys = rw (eq-eqb z z refl) (same_skip zs xs ys)

asym : (xs ys : List ℕ) → below ys xs ≡ true → below xs ys ≡ false
asym xs ys e = by_cases (below xs ys) (λ t. never (below_trans xs ys xs t e) (below_irrefl xs)) (λ f. f)

apart : (xs ys : List ℕ) → (below xs ys ≡ true) ⊎ (below ys xs ≡ true) → same xs ys ≡ false
apart xs ys e = by_cases (same xs ys) (λ t. ⊎_elim (λ l. never (rw (same_is xs ys t) at l) (below_irrefl ys)) (λ l. never (rw (same_is xs ys t) at l) (below_irrefl ys)) e) (λ f. f)

-- ---- two keys that agree in front

-- they agree in their first k bytes
abbrev pub Agree : List ℕ → List ℕ → ℕ → Type 0
Agree a b k = take k a ≡ take k b

pub agree_less : (a b : List ℕ) (k m : ℕ) → m ≤ k → Agree a b k → Agree a b m
agree_less a b k m h e = sym (take-take m k a h) ∙ ap (take m) e ∙ take-take m k b h

-- the 8 bytes behind the first k, and the number that they are the digits of
pub record Eight (s : List ℕ) (k x : ℕ) : Type 0 where
  pub small : Bytes (part s k 8)
  pub eight : length (part s k 8) ≡ 8
  pub number : x ≡ big (part s k 8)

pub eight_at : (s : List ℕ) (k x : ℕ) → Bytes s → k + 8 ≤ length s → x ≡ big (part s k 8) → Eight s k x
eight_at s k x b l e = record { small = bytes_part s k 8 b; eight = part_length s k 8 l; number = e }

-- a key as its first k bytes, the 8 behind them, and the others
thirds : (s : List ℕ) (k : ℕ) → s ≡ take k s ++ (part s k 8 ++ drop 8 (drop k s))
thirds s k = sym (ap (λ (l : List ℕ). take k s ++ l) (take-append-drop 8 (drop k s)) ∙ take-append-drop k s)

-- two numbers decide between two keys
pub record Decides (a b : List ℕ) (x y : ℕ) : Type 0 where
  pub equal : eqb x y ≡ same a b
  pub less : ltb x y ≡ below a b

module _ (a b : List ℕ) (k x y : ℕ) (p : Eight a k x) (q : Eight b k y) (known : Agree a b k) where
  these : x ≡ y → part a k 8 ≡ part b k 8
  these e = same_big _ _ p.small q.small (p.eight ∙ sym q.eight) (sym p.number ∙ e ∙ q.number)

  pub agree_more : x ≡ y → Agree a b (k + 8)
  agree_more e = take-add k 8 a ∙ rw (known, these e) (sym (take-add k 8 b))

  same_from : same a b ≡ same (part a k 8 ++ drop 8 (drop k a)) (part b k 8 ++ drop 8 (drop k b))
  same_from = ap (λ (l : List ℕ). same l b) (thirds a k ∙ ap (λ (l : List ℕ). l ++ (part a k 8 ++ drop 8 (drop k a))) known) ∙ ap (same (take k b ++ (part a k 8 ++ drop 8 (drop k a)))) (thirds b k) ∙ same_skip (take k b) _ _

  below_from : below a b ≡ below (part a k 8 ++ drop 8 (drop k a)) (part b k 8 ++ drop 8 (drop k b))
  below_from = ap (λ (l : List ℕ). below l b) (thirds a k ∙ ap (λ (l : List ℕ). l ++ (part a k 8 ++ drop 8 (drop k a))) known) ∙ ap (below (take k b ++ (part a k 8 ++ drop 8 (drop k a)))) (thirds b k) ∙ below_skip (take k b) _ _

  up : x < y → below (part a k 8 ++ drop 8 (drop k a)) (part b k 8 ++ drop 8 (drop k b)) ≡ true
  up l = below_big (part a k 8) (part b k 8) _ _ p.small q.small (p.eight ∙ sym q.eight) (omega (arith, p.number, q.number))

  down : y < x → below (part b k 8 ++ drop 8 (drop k b)) (part a k 8 ++ drop 8 (drop k a)) ≡ true
  down l = below_big (part b k 8) (part a k 8) _ _ q.small p.small (q.eight ∙ sym p.eight) (omega (arith, p.number, q.number))

  -- where the 8 bytes differ
  pub differ : (x ≡ y → ⊥) → Decides a b x y
  differ ne =
      record {
        equal = ne_eqb x y ne ∙ sym (same_from ∙ apart _ _ (⊎_elim (λ l. inl (up l)) (⊎_elim (λ e. absurd (ne e)) (λ l. inr (down l))) (three x y)));
        less =
            ⊎_elim (λ l. lt-ltb x y l ∙ sym (below_from ∙ up l))
            (⊎_elim (λ e. absurd (ne e)) (λ l. le-ltb x y (omega arith) ∙ sym (below_from ∙ asym _ _ (down l)))) (three x y);
      }

  -- where they are the last
  pub last : length a ≡ k + 8 → length b ≡ k + 8 → Decides a b x y
  last la lb = by_cases (eqb x y) (λ e. alike (eqb-true x y e)) (λ e. differ (eqb-false x y e))
    where
      alike : x ≡ y → Decides a b x y
      alike e =
          let z : a ≡ b = sym (rw (← la) (take-length a)) ∙ agree_more e ∙ rw (← lb) (take-length b) in
          rw z (record { equal = eq-eqb x y e ∙ sym (same_refl b); less = le-ltb x y (omega arith) ∙ sym (below_irrefl b) })

-- ---- 8 bytes as one number

swapped_is : (v : ℕ) → swap_bytes w64 v ≡ big (le 8 v)
unfolding big
swapped_is v =
    let e2 : v / 65536 % 256 ≡ v / 256 / 256 % 256 = omega arith in
    let e3 : v / 16777216 % 256 ≡ v / 256 / 256 / 256 % 256 = omega arith in
    let e4 : v / 4294967296 % 256 ≡ v / 256 / 256 / 256 / 256 % 256 = omega arith in
    let e5 : v / 1099511627776 % 256 ≡ v / 256 / 256 / 256 / 256 / 256 % 256 = omega arith in
    let e6 : v / 281474976710656 % 256 ≡ v / 256 / 256 / 256 / 256 / 256 / 256 % 256 = omega arith in
    let e7 : v / 72057594037927936 % 256 ≡ v / 256 / 256 / 256 / 256 / 256 / 256 / 256 % 256 = omega arith in
    rw (e2, e3, e4, e5, e6, e7) (digits _ _ _ _ _ _ _ _)
  where
    digits : (b0 b1 b2 b3 b4 b5 b6 b7 : ℕ) → from_be_bytes w64 (b0 ∷ b1 ∷ b2 ∷ b3 ∷ b4 ∷ b5 ∷ b6 ∷ b7 ∷ []) ≡ big (b0 ∷ b1 ∷ b2 ∷ b3 ∷ b4 ∷ b5 ∷ b6 ∷ b7 ∷ [])
    digits b0 b1 b2 b3 b4 b5 b6 b7 = omega arith

pub big_part : (s : List ℕ) (at : ℕ) → ((i : ℕ) → Fits w8 (get_or s i 0)) → at + 8 ≤ length s → big (part s at 8) ≡ swap_bytes w64 (u64_at s at)
big_part s at b h = ap big (sym (u64_back s at (λ i. (b i).fits) h)) ∙ sym (swapped_is (u64_at s at))
