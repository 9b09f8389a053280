-- Items given one run after the other: of the items xs the first i stand in the lent list, and the rest is ys.
use Prim.Native.Nat.{ℕ, ◌+◌, ◌≤◌, ◌<◌}
use native.Mathlib.Omega.{arith}
use mathlib.Core.Path.{◌≡◌, refl, sym, ap, ◌∙◌}
use mathlib.Core.List.{List, [], ◌∷◌, ◌++◌, append-nil, append_assoc}
use lib.ListN.{length, set, length-append}
use Rattle.word.specs.Overwrite.{overwrite}
use Rattle.word.proofs.Overwrite.{overwrite_none, overwrite_next, overwrite_length, overwrite_one}

pub record Gave (xs ys before out : List ℕ) (i : ℕ) : Type 0 where
  pub given : List ℕ
  pub split : xs ≡ given ++ ys
  pub count : length given ≡ i
  pub room : length xs ≤ length before
  pub same : length out ≡ length before
  pub is : out ≡ overwrite before 0 given

pub gave_none : (xs d : List ℕ) → length xs ≤ length d → Gave xs xs d d 0
gave_none xs d h = record { given = []; split = refl; count = refl; room = h; same = refl; is = sym (overwrite_none d 0) }

module _ (xs ys before out : List ℕ) (i : ℕ) (g : Gave xs ys before out i) where
  pub gave_length : length xs ≡ i + length ys
  gave_length = ap length g.split ∙ length-append g.given ys ∙ rw g.count

  pub gave_done : ys ≡ [] → out ≡ overwrite before 0 xs
  gave_done e = g.is ∙ ap (overwrite before 0) (sym (g.split ∙ rw e (append-nil g.given)))

  module _ (ps zs : List ℕ) (e : ys ≡ ps ++ zs) where
    more_length : length ys ≡ length ps + length zs
    more_length = ap length e ∙ length-append ps zs

    pub gave_fits : i + length ps ≤ length out
    gave_fits = omega (arith, gave_length, more_length, g.room, g.same)

    pub gave_run : (last : List ℕ) (n : ℕ) → length ps ≡ n → last ≡ overwrite out i ps → Gave xs zs before last (i + n)
    gave_run last n k l =
        record {
          given = g.given ++ ps;
          split = g.split ∙ ap (λ (r : List ℕ). g.given ++ r) e ∙ sym (append_assoc g.given ps zs);
          count = length-append g.given ps ∙ rw (g.count, k);
          room = g.room;
          same = ap length l ∙ overwrite_length out i ps gave_fits ∙ g.same;
          is =
              let z : 0 + length g.given ≡ i = omega (arith, g.count) in
              l
              ∙ ap (λ (d : List ℕ). overwrite d i ps) g.is
              ∙ ap (λ (k : ℕ). overwrite (overwrite before 0 g.given) k ps) (sym z)
              ∙ overwrite_next before 0 g.given ps (omega arith);
        }

  module _ (p : ℕ) (zs : List ℕ) (e : ys ≡ p ∷ zs) where
    pub gave_index : i < length out
    gave_index = omega (arith, gave_fits (p ∷ []) zs e)

    pub gave_more : Gave xs zs before (set out i p) (i + 1)
    gave_more = gave_run (p ∷ []) zs e (set out i p) 1 refl (overwrite_one out i p gave_index)
