-- The turns of the loop over two heads: what was taken and what the heads still stand for are the merged MFNs.
use Prim.Native.Nat.{ℕ, ◌+◌, ◌-◌, min, ◌≤◌, ◌<◌}
use native.Mathlib.Omega.{arith}
use mathlib.Core.Path.{◌≡◌, refl, sym, ap, ◌∙◌}
use mathlib.Core.Logic.{⊎_elim}
use mathlib.Core.Bool.{Bool, true, false, true≢false}
use mathlib.Core.List.{List, []}
use lib.Dec.{eqb}
use lib.ListN.{length, set}
use borrow.Author.Tests.{eqb-true}
use Rattle.word.proofs.Overwrite.{lt_or_ge}
use Rattle.std.specs.Int.{from_bool}
use Rattle.postings.specs.Cursor.{rest_of}
use Rattle.postings.specs.declared.cursor.Cursor.{Cursor}
use Rattle.merging.specs.Merge.{mfns_of, common, joined, merged}
use Rattle.merging.specs.Heads.{rest_head, head_after, head_size, unread_of, HeadRight, lowest, Rises, Reads, bit, leading_of, gives_of, writes_of}
use Rattle.merging.specs.declared.merge.Head.{Head}
use Rattle.merging.proofs.Taking.{Took, took_none, took_same}
use Rattle.merging.proofs.Writing.{Held, before, Giving, bit_small, write_first, write_index, took_written, held_written, took_unwritten, held_unwritten}
use Rattle.merging.proofs.Turns.{common_nil, turn_gives}
use Rattle.merging.proofs.Heading.{head_face, face_none, unread_right, unread_rises, unread_after, Filled, Passed}

-- the MFNs of two heads, after those of MFN l
abbrev pub items : Bool → List ℕ → ℕ → Head → Head → List ℕ
items both f l x y = merged both (head_after f l x) (head_after f l y)

-- ---- before each run: of the MFNs w those of the two heads are left

pub record Standing (f : List ℕ) (both put : Bool) (w d out : List ℕ) (x y : Head) (l i : ℕ) : Type 0 where
  pub x_right : HeadRight f x
  pub y_right : HeadRight f y
  pub x_rises : Rises f l x
  pub y_rises : Rises f l y
  pub took : Took put w (items both f l x y) d out i
  pub held : Held put both l out i

module _ (f : List ℕ) (both put : Bool) (a b : Cursor) (p : Reads f a) (q : Reads f b) where
  items_are : items both f 16777216 (unread_of a) (unread_of b) ≡ merged both (mfns_of (rest_of f a)) (mfns_of (rest_of f b))
  items_are = rw (unread_after f a p, unread_after f b q)

  pub items_whole : (x y : Head) → x ≡ unread_of a → y ≡ unread_of b
      → items both f 16777216 x y ≡ merged both (mfns_of (rest_of f a)) (mfns_of (rest_of f b))
  items_whole x y e g = rw (e, g) items_are

  pub standing_none : (d : List ℕ) → (put ≡ true → length (merged both (mfns_of (rest_of f a)) (mfns_of (rest_of f b))) ≤ length d) → (x y : Head)
      → x ≡ unread_of a → y ≡ unread_of b → Standing f both put (items both f 16777216 x y) d d x y 16777216 0
  standing_none d h x y e g =
      record {
        x_right = rw e (unread_right f a p);
        y_right = rw g (unread_right f b q);
        x_rises = rw e (unread_rises f a p);
        y_rises = rw g (unread_rises f b q);
        took = took_none put (items both f 16777216 x y) d (λ t. rw (items_whole x y e g) (h t));
        held = λ _ _ s. absurd (omega arith);
      }

-- ---- within a run

pub record Turning (f : List ℕ) (both put : Bool) (x₀ y₀ : Head) (l₀ : ℕ) (out₀ : List ℕ) (i₀ : ℕ) (out : List ℕ) (x y : Head) (l i : ℕ) : Type 0 where
  pub x_right : HeadRight f x
  pub y_right : HeadRight f y
  pub x_rises : Rises f l x
  pub y_rises : Rises f l y
  pub x_in : x.at ≤ x.end
  pub y_in : y.at ≤ y.end
  pub some : min x.mfn y.mfn < 16777216
  pub size : head_size f x + head_size f y ≤ head_size f x₀ + head_size f y₀
  pub took : (w d : List ℕ) → Took put w (items both f l₀ x₀ y₀) d out₀ i₀ → Took put w (items both f l x y) d out i
  pub held : Held put both l out i

module _ (f : List ℕ) (both put : Bool) (w d out : List ℕ) (x y : Head) (l i : ℕ) (g : Standing f both put w d out x y l i) (r s : Head)
    (p : Filled f l x r) (q : Filled f l y s) where
  items_same : items both f l r s ≡ items both f l x y
  items_same = rw (p.after, q.after)

  pub took_filled : Took put w (items both f l r s) d out i
  took_filled = took_same put w (items both f l x y) d out i g.took (items both f l r s) items_same

  pub filled_size : head_size f r + head_size f s ≡ head_size f x + head_size f y
  filled_size = rw (p.size, q.size)

  leading_low : (c : Bool) → leading_of c r.mfn s.mfn < 16777216 → min r.mfn s.mfn < 16777216
  unfolding leading_of
  leading_low true h = omega (arith, h)
  leading_low false h = h

  pub turning_none : leading_of both r.mfn s.mfn < 16777216 → Turning f both put r s l out i out r s l i
  turning_none h =
      record {
        x_right = p.right;
        y_right = q.right;
        x_rises = p.rises;
        y_rises = q.rises;
        x_in = p.within;
        y_in = q.within;
        some = leading_low both h;
        size = omega arith;
        took = λ _ _ t. t;
        held = g.held;
      }

  over_items : (c : Bool) → 16777216 ≤ leading_of c r.mfn s.mfn → items c f l r s ≡ []
  unfolding leading_of common joined
  over_items true h =
      ⊎_elim
      (λ g. rw (face_none f s q.right q.within (omega (arith, h)) l) (common_nil (head_after f l r)))
      (λ g. rw (face_none f r p.right p.within g l))
      (lt_or_ge r.mfn 16777216)
  over_items false h = rw (face_none f r p.right p.within (omega (arith, h)) l, face_none f s q.right q.within (omega (arith, h)) l)

  pub heads_over : 16777216 ≤ leading_of both r.mfn s.mfn → items both f l r s ≡ []
  heads_over h = over_items both h

-- ---- a turn

from_bit : (b : Bool) → from_bool b ≡ bit b
from_bit true = refl
from_bit false = refl

-- what stands in the lent list behind a turn
pub record Wrote (f : List ℕ) (both put : Bool) (x₀ y₀ : Head) (l₀ : ℕ) (out₀ : List ℕ) (i₀ : ℕ) (out : List ℕ) (x y : Head) (m i : ℕ) : Type 0 where
  pub took : (w d : List ℕ) → Took put w (items both f l₀ x₀ y₀) d out₀ i₀ → Took put w (items both f m x y) d out i
  pub held : Held put both m out i

-- an MFN of either list that is not given is the last one
given_not : (c : Bool) (a b l m : ℕ) → gives_of c a b l m ≡ false → c ≡ false → m ≡ l
unfolding gives_of
given_not true a b l m e h = absurd (true≢false h)
given_not false a b l m e h = go (eqb m l) refl
  where
    go : (t : Bool) → eqb m l ≡ t → m ≡ l
    go true q = eqb-true m l q
    go false q = let z : true ≡ false = rw q at e in absurd (true≢false z)

module _ (f : List ℕ) (both put : Bool) (x₀ y₀ : Head) (l₀ : ℕ) (out₀ : List ℕ) (i₀ : ℕ) (out : List ℕ) (x y : Head) (l i : ℕ)
    (t : Turning f both put x₀ y₀ l₀ out₀ i₀ out x y l i) (m : ℕ) (e : m ≡ min x.mfn y.mfn) where
  pub turn_small : m < 16777216
  turn_small = omega (arith, t.some)

  turn_low : lowest l ≤ m
  turn_low = ⊎_elim at_x at_y (lt_or_ge x.mfn y.mfn)
    where
      at_x : x.mfn < y.mfn → lowest l ≤ m
      at_x h = let q : m ≡ x.mfn = omega arith in rw q (t.x_rises.floor (omega (arith, turn_small)))

      at_y : y.mfn ≤ x.mfn → lowest l ≤ m
      at_y h = let q : m ≡ y.mfn = omega arith in rw q (t.y_rises.floor (omega (arith, turn_small)))

  turn_items : items both f l x y ≡ before (gives_of both x.mfn y.mfn l m) m (items both f m x y)
  turn_items =
      rw (
        head_face f x t.x_right t.x_in l,
        head_face f y t.y_right t.y_in l,
        head_face f x t.x_right t.x_in m,
        head_face f y t.y_right t.y_in m,
      )
      (turn_gives both l x.mfn y.mfn m (rest_head f x) (rest_head f y) e turn_small turn_low)

  module _ (gv : Bool) (given : gv ≡ gives_of both x.mfn y.mfn l m) (n : ℕ) (counted : n ≡ from_bool gv) where
    q : n ≡ bit (gives_of both x.mfn y.mfn l m)
    q = counted ∙ from_bit gv ∙ ap bit given

    giving : (w d : List ℕ) → Took put w (items both f l₀ x₀ y₀) d out₀ i₀
        → Giving put both (gives_of both x.mfn y.mfn l m) w (items both f m x y) d out i l m
    giving w d k =
        record {
          took = took_same put w (items both f l x y) d out i (t.took w d k) _ (sym turn_items);
          held = t.held;
          small = turn_small;
          same = given_not both x.mfn y.mfn l m;
        }

    pub turn_count : (w d : List ℕ) → Took put w (items both f l₀ x₀ y₀) d out₀ i₀ → i + n ≤ length w + 1
    turn_count w d k = rw q (omega (arith, (t.took w d k).count, bit_small (gives_of both x.mfn y.mfn l m)))

    module _ (wr : Bool) (z : wr ≡ writes_of put both gv) where
      asked : (a : Bool) → wr ≡ a → writes_of put both (gives_of both x.mfn y.mfn l m) ≡ a
      asked a h = ap (writes_of put both) (sym given) ∙ sym z ∙ h

      module _ (w d : List ℕ) (k : Took put w (items both f l₀ x₀ y₀) d out₀ i₀) where
        pub turn_first : wr ≡ true → 1 ≤ i + n
        turn_first h = rw q (write_first w (items both f m x y) d out i l m put both _ (giving w d k) (asked _ h))

        pub turn_index : wr ≡ true → i + n - 1 < length out
        turn_index h = rw q (write_index w (items both f m x y) d out i l m put both _ (giving w d k) (asked _ h))

      module _ (x' y' : Head) (p : Passed f m x x') (r : Passed f m y y') where
        items_passed : items both f m x' y' ≡ items both f m x y
        items_passed = rw (p.after, r.after)

        took_next : wr ≡ true → (w d : List ℕ) → Took put w (items both f l₀ x₀ y₀) d out₀ i₀
            → Took put w (items both f m x' y') d (set out (i + n - 1) m) (i + n)
        took_next h w d k =
            rw (items_passed, q) (took_written w (items both f m x y) d out i l m put both _ (giving w d k) (asked _ h))

        took_over : wr ≡ false → (w d : List ℕ) → Took put w (items both f l₀ x₀ y₀) d out₀ i₀ → Took put w (items both f m x' y') d out (i + n)
        took_over h w d k =
            rw (items_passed, q) (took_unwritten w (items both f m x y) d out i l m put both _ (giving w d k) (asked _ h))

        pub turn_less : head_size f x' + head_size f y' < head_size f x + head_size f y
        turn_less =
            ⊎_elim
            (λ h. omega (arith, p.less (omega arith), r.size))
            (λ h. omega (arith, r.less (omega arith), p.size))
            (lt_or_ge x.mfn y.mfn)

        turn_some : x'.at ≤ x'.end → y'.at ≤ y'.end → min x'.mfn y'.mfn < 16777216
        turn_some v u =
            ⊎_elim
            (λ h. omega (arith, p.read (omega arith) v))
            (λ h. omega (arith, r.read (omega arith) u))
            (lt_or_ge x.mfn y.mfn)

        pub wrote : (w d : List ℕ) → Took put w (items both f l₀ x₀ y₀) d out₀ i₀ → wr ≡ true
            → Wrote f both put x₀ y₀ l₀ out₀ i₀ (set out (i + n - 1) m) x' y' m (i + n)
        wrote w d k h =
            record {
              took = took_next h;
              held = rw q (held_written w (items both f m x y) d out i l m put both _ (giving w d k) (asked _ h));
            }

        pub wrote_none : wr ≡ false → Wrote f both put x₀ y₀ l₀ out₀ i₀ out x' y' m (i + n)
        wrote_none h =
            record { took = took_over h; held = rw q (held_unwritten [] [] [] out i l m put both (gives_of both x.mfn y.mfn l m) (asked _ h)) }

        pub turn_less_all : head_size f x' + head_size f y' < head_size f x₀ + head_size f y₀
        turn_less_all = omega (arith, turn_less, t.size)

        module _ (out' : List ℕ) (o : Wrote f both put x₀ y₀ l₀ out₀ i₀ out' x' y' m (i + n)) where
          pub turn_again : x'.at ≤ x'.end → y'.at ≤ y'.end → Turning f both put x₀ y₀ l₀ out₀ i₀ out' x' y' m (i + n)
          turn_again v u =
              record {
                x_right = p.right;
                y_right = r.right;
                x_rises = p.rises;
                y_rises = r.rises;
                x_in = v;
                y_in = u;
                some = turn_some v u;
                size = omega (arith, turn_less, t.size);
                took = o.took;
                held = o.held;
              }

          pub turn_stands : (w d : List ℕ) → Took put w (items both f l₀ x₀ y₀) d out₀ i₀ → Standing f both put w d out' x' y' m (i + n)
          turn_stands w d k =
              record {
                x_right = p.right;
                y_right = r.right;
                x_rises = p.rises;
                y_rises = r.rises;
                took = o.took w d k;
                held = o.held;
              }
