-- What a turn writes: the MFN that it gives, or, where it gives none, the one that stands there.
use Prim.Native.Nat.{ℕ, ◌+◌, ◌*◌, ◌-◌, ◌≤◌, ◌<◌}
use native.Mathlib.Omega.{arith}
use mathlib.Core.Path.{◌≡◌, refl, sym, ap, ◌∙◌}
use mathlib.Core.Bool.{Bool, true, false, ◌&&◌, cond, true≢false}
use mathlib.Core.List.{List, ◌∷◌}
use lib.ListN.{length, get_or, set}
use lib.Seq.{set-get_or, get_or-set_same}
use Rattle.postings.proofs.Steps.{Gave}
use Rattle.merging.specs.Heads.{bit, writes_of}
use Rattle.word.proofs.Tests.{false_true}
use Rattle.merging.proofs.Taking.{Took, took_index, took_put, took_counted}

pub bit_small : (b : Bool) → bit b ≤ 1
bit_small true = omega arith
bit_small false = omega arith

pub bit_times : (a b : Bool) → bit a * bit b ≡ bit (a && b)
bit_times true true = refl
bit_times true false = refl
bit_times false true = refl
bit_times false false = refl

-- where all MFNs of either list are put, the last one stands before the place of the next
abbrev pub Held : Bool → Bool → ℕ → List ℕ → ℕ → Type 0
Held put both l out i = put ≡ true → both ≡ false → l < 16777216 → (1 ≤ i) × (get_or out (i - 1) 0 ≡ l)

-- m before a list, where it is given
abbrev pub before : Bool → ℕ → List ℕ → List ℕ
before g m xs = cond g (m ∷ xs) xs

-- what a turn finds that gives m or not, with rest still to come, after l
pub record Giving (put both g : Bool) (whole rest d out : List ℕ) (i l m : ℕ) : Type 0 where
  pub took : Took put whole (before g m rest) d out i
  pub held : Held put both l out i
  pub small : m < 16777216
  pub same : g ≡ false → both ≡ false → m ≡ l

module _ (whole rest d out : List ℕ) (i l m : ℕ) where
  pub write_first : (put both g : Bool) → Giving put both g whole rest d out i l m → writes_of put both g ≡ true → 1 ≤ i + bit g
  unfolding writes_of
  write_first put both true k h = omega arith
  write_first true false false k h =
      let e : m ≡ l = k.same refl refl in
      omega (arith, (k.held refl refl (omega (arith, k.small))).0)
  write_first true true false k h = absurd (false_true h)
  write_first false true false k h = absurd (false_true h)
  write_first false false false k h = absurd (false_true h)

  pub write_index : (put both g : Bool) → Giving put both g whole rest d out i l m → writes_of put both g ≡ true → i + bit g - 1 < length out
  unfolding writes_of
  write_index true both true k h =
      let b : i < length out = took_index true whole (m ∷ rest) d out i k.took m rest refl refl in
      omega arith
  write_index false true g k h = absurd (false_true h)
  write_index false false g k h = absurd (false_true h)
  write_index true false false k h =
      let e : m ≡ l = k.same refl refl in
      let g : Gave whole rest d out i = k.took.gave refl in
      omega (arith, (k.held refl refl (omega (arith, k.small))).0, k.took.count, g.room, g.same)
  write_index true true false k h = absurd (false_true h)

  pub took_written : (put both g : Bool) → Giving put both g whole rest d out i l m → writes_of put both g ≡ true
      → Took put whole rest d (set out (i + bit g - 1) m) (i + bit g)
  unfolding writes_of
  took_written true both true k h =
      let e : i + 1 - 1 ≡ i = omega arith in
      rw e (took_put true whole (m ∷ rest) d out i k.took m rest refl refl)
  took_written false true g k h = absurd (false_true h)
  took_written false false g k h = absurd (false_true h)
  took_written true false false k h =
      let e : m ≡ l = k.same refl refl in
      let c = k.held refl refl (omega (arith, k.small)) in
      let z : i + 0 ≡ i = omega arith in
      let q : set out (i - 1) m ≡ out = ap (set out (i - 1)) (e ∙ sym c.1) ∙ set-get_or out (i - 1) 0 in
      rw (z, q) k.took
  took_written true true false k h = absurd (false_true h)

  pub held_written : (put both g : Bool) → Giving put both g whole rest d out i l m → writes_of put both g ≡ true
      → Held put both m (set out (i + bit g - 1) m) (i + bit g)
  held_written put both g k h = λ p b s. (write_first put both g k h, get_or-set_same out (i + bit g - 1) m 0 (write_index put both g k h))

  pub took_unwritten : (put both g : Bool) → Giving put both g whole rest d out i l m → writes_of put both g ≡ false
      → Took put whole rest d out (i + bit g)
  unfolding writes_of
  took_unwritten false both true k h = took_counted false whole (m ∷ rest) d out i k.took m rest refl refl
  took_unwritten put both false k h = let z : i + 0 ≡ i = omega arith in rw z k.took
  took_unwritten true true true k h = absurd (true≢false h)
  took_unwritten true false true k h = absurd (true≢false h)

  pub held_unwritten : (put both g : Bool) → writes_of put both g ≡ false → Held put both m out (i + bit g)
  unfolding writes_of
  held_unwritten true true g h = λ _ b. absurd (true≢false b)
  held_unwritten true false g h = λ _ _. absurd (true≢false h)
  held_unwritten false both g h = λ p. absurd (true≢false (sym p))
