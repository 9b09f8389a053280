-- The ledger's items as a table over the MFNs: its length, its entries, and what it is when one item changes or one is added.
use Prim.Native.Nat.{ℕ, zero, suc, ◌+◌, ◌-◌, ◌≤◌, ◌<◌}
use mathlib.Core.Path.{◌≡◌, refl, sym, ap, ◌∙◌}
use mathlib.Core.List.{[], ◌∷◌, ◌++◌}
use native.Mathlib.Omega.{arith}
use native.Mathlib.Decide.{ℕ_discrete}
use native.Mathlib.Numerals.{add-one}
use lib.ListN.{length, get_or, set, length-append, length-set, get_or-append}
use lib.Seq.{ext_get_or, get_or_at, get_or-set_same, get_or-set_other}
use Rattle.ledger.specs.Ledger.{Item, gone}
use Rattle.ledger.specs.LedgerOf.{tabulate}

pub tabulate_length : (n : ℕ) (f : ℕ → Item) → length (tabulate n f) ≡ n
unfolding tabulate
tabulate_length zero f = refl
tabulate_length (suc n) f = length-append (tabulate n f) (f (suc n) ∷ []) ∙ ap (λ (k : ℕ). k + 1) (tabulate_length n f) ∙ add-one n

pub tabulate_at : (n : ℕ) (f : ℕ → Item) (k : ℕ) → k < n → get_or (tabulate n f) k gone ≡ f (suc k)
unfolding tabulate
tabulate_at zero f k h = absurd (omega arith)
tabulate_at (suc n) f k h = go (ℕ_discrete k n) (λ l. tabulate_at n f k l)
  where
    go : Dec (k ≡ n) → (k < n → get_or (tabulate n f) k gone ≡ f (suc k)) → get_or (tabulate n f ++ (f (suc n) ∷ [])) k gone ≡ f (suc k)
    go (yes e) more =
        rw e (get_or_at (tabulate n f) (f (suc n)) [] gone n (tabulate_length n f))
    go (no e) more =
        get_or-append (tabulate n f) (f (suc n) ∷ []) gone k (rw (tabulate_length n f) (omega arith)) ∙ more (omega arith)

-- two tables that agree on 1 to n
pub tabulate_same : (n : ℕ) (f g : ℕ → Item) → ((m : ℕ) → 1 ≤ m → m ≤ n → f m ≡ g m) → tabulate n f ≡ tabulate n g
unfolding tabulate
tabulate_same zero f g h = refl
tabulate_same (suc n) f g h =
    rw (tabulate_same n f g (λ m lo hi. h m lo (omega arith)), h (suc n) (omega arith) (omega arith))

-- two tables that agree on 1 to n but at m
pub tabulate_set : (n : ℕ) (f g : ℕ → Item) (m : ℕ) (i : Item) → 1 ≤ m → m ≤ n → g m ≡ i
    → ((k : ℕ) → 1 ≤ k → k ≤ n → (k ≡ m → ⊥) → g k ≡ f k) → tabulate n g ≡ set (tabulate n f) (m - 1) i
tabulate_set n f g m i lo hi at other =
    ext_get_or gone (tabulate n g) (set (tabulate n f) (m - 1) i)
    (tabulate_length n g ∙ sym (length-set (tabulate n f) (m - 1) i ∙ tabulate_length n f))
    (λ k h.
    let long : length (tabulate n g) ≡ n = tabulate_length n g in
    let hk : k < n = omega arith in
    tabulate_at n g k hk ∙ go k hk (ℕ_discrete k (m - 1)))
  where
    go : (k : ℕ) → k < n → Dec (k ≡ m - 1) → g (suc k) ≡ get_or (set (tabulate n f) (m - 1) i) k gone
    go k h (yes e) =
        let s : suc k ≡ m = omega arith in
        let short : length (tabulate n f) ≡ n = tabulate_length n f in
        rw (s, e) (at ∙ sym (get_or-set_same (tabulate n f) (m - 1) i gone (omega arith)))
    go k h (no e) =
        other (suc k) (omega arith) (omega arith) (λ s. e (omega arith))
        ∙ sym (get_or-set_other (tabulate n f) (m - 1) k i gone e ∙ tabulate_at n f k h)
