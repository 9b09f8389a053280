-- What each way through the cursor's functions makes of the postings still to come, and of whether they can be read.
use Prim.Native.Nat.{ℕ, suc, ◌+◌, ◌*◌, ◌-◌, ◌/◌, ◌%◌, ◌≤◌, ◌<◌}
use native.Mathlib.Omega.{arith}
use mathlib.Core.Path.{◌≡◌, refl, sym, ap, ◌∙◌}
use mathlib.Core.Bool.{Bool, true, false, ◌&&◌, cond, and-false, and_assoc}
use mathlib.Core.List.{List, [], ◌∷◌, ◌++◌, append_assoc}
use lib.Dec.{leb}
use lib.ListN.{length, length-append}
use Rattle.word.proofs.Tests.{and_iff}
use Rattle.std.proofs.Common.{Option, Some, None}
use Rattle.postings.specs.declared.segment.Place.{Place}
use Rattle.postings.specs.Segment.{is_end, next_of, count_of, first_of, header_inside, count_right, header_of, run, run_inside}
use Rattle.postings.specs.Rules.{segments_from, ends_within, postings_of, headers_inside, counts_right, postings_inside}
use Rattle.postings.specs.Cursor.{segments_after, segments_right, rest_of, stands_right, InBlock, Reached, row, run_size, past_of}
use Rattle.postings.specs.declared.segment.Segment.{Segment}
use Rattle.postings.specs.declared.cursor.Cursor.{Cursor}
use Rattle.postings.proofs.Headers.{header_told, header_none, header_facts, segment_of}
use Rattle.postings.proofs.Runs.{row_length, run_taken, inside_taken, size_some}

-- ---- segments

pub shuffle : (e h hs c cs p ps : Bool) → (((e && (h && hs)) && (c && cs)) && (p && ps)) ≡ (((h && c) && p) && (((e && hs) && cs) && ps))
shuffle e true hs true cs true ps = refl
shuffle e true hs true cs false ps = rw and-false
shuffle e true hs false cs p ps = rw and-false
shuffle e false hs c cs p ps = rw and-false

module _ (f : List ℕ) (k : ℕ) (q : Place) (more : is_end q ≡ false) where
  pub segments_more : segments_after f (suc k) q ≡ q ∷ segments_after f k (next_of f q)
  unfolding segments_after segments_from
  segments_more = rw more

  pub segments_right_more : segments_right f (suc k) q
      ≡ (((header_inside (length f) q && count_right f q) && run_inside (length f) (count_of f q) (first_of q)) && segments_right f k (next_of f q))
  unfolding segments_right ends_within headers_inside counts_right postings_inside
  segments_right_more =
      rw (segments_more, more)
      (shuffle
      (cond (is_end (next_of f q)) true (ends_within f k (next_of f q)))
      (header_inside (length f) q)
      (headers_inside f (segments_after f k (next_of f q)))
      (count_right f q)
      (counts_right f (segments_after f k (next_of f q)))
      (run_inside (length f) (count_of f q) (first_of q))
      (postings_inside f (segments_after f k (next_of f q))))

-- behind a header there is room for a posting in its block
pub first_in_block : (len : ℕ) (p : Place) → header_inside len p ≡ true → (first_of p % 512 ≤ 504) × (first_of p ≤ len + 516)
first_in_block len p e = (omega (arith, (header_facts len p e).word_in), omega (arith, (header_facts len p e).file_in))

-- ---- a cursor whose segment has no posting left

-- the cursor c in the segment s
abbrev pub entered : Cursor → Segment → Cursor
entered c s = record { at = s.first; left = s.count; next = s.next; fuel = c.fuel - 1 }

module _ (f : List ℕ) (c : Cursor) (empty : c.left ≡ 0) where
  empty_rest : rest_of f c ≡ postings_of f (segments_after f c.fuel c.next)
  unfolding rest_of run
  empty_rest = rw empty

  empty_right : stands_right f c ≡ segments_right f c.fuel c.next
  unfolding stands_right run_inside
  empty_right = rw empty

  module _ (over : is_end c.next ≡ true) where
    pub over_rest : rest_of f c ≡ []
    unfolding segments_after postings_of
    over_rest = empty_rest ∙ rw over

    over_right : stands_right f c ≡ true
    unfolding segments_right segments_after headers_inside counts_right postings_inside
    over_right = empty_right ∙ rw over

  module _ (more : is_end c.next ≡ false) where
    none_left : c.fuel ≡ 0 → stands_right f c ≡ false
    unfolding segments_right ends_within
    none_left e = empty_right ∙ rw (e, more)

    module _ (some : c.fuel ≡ 0 → ⊥) where
      fuel_more : c.fuel ≡ suc (c.fuel - 1)
      fuel_more = omega arith

      more_right : stands_right f c
          ≡ (((header_inside (length f) c.next && count_right f c.next)
          && run_inside (length f) (count_of f c.next) (first_of c.next))
          && segments_right f (c.fuel - 1) (next_of f c.next))
      more_right =
          empty_right ∙ ap (λ (k : ℕ). segments_right f k c.next) fuel_more ∙ segments_right_more f (c.fuel - 1) c.next more

      wrong_header : header_inside (length f) c.next && count_right f c.next ≡ false → stands_right f c ≡ false
      wrong_header e = more_right ∙ rw e

      enter_rest : rest_of f c ≡ rest_of f (entered c (segment_of f c.next))
      unfolding rest_of postings_of
      enter_rest =
          empty_rest
          ∙ ap (λ (k : ℕ). postings_of f (segments_after f k c.next)) fuel_more
          ∙ ap (postings_of f) (segments_more f (c.fuel - 1) c.next more)

      enter_right : header_inside (length f) c.next && count_right f c.next ≡ true
          → stands_right f c ≡ stands_right f (entered c (segment_of f c.next))
      unfolding stands_right
      enter_right e = more_right ∙ rw e

-- ---- the turns of the loop that enters segments

pub record Moved (f : List ℕ) (start c : Cursor) : Type 0 where
  pub in_block : InBlock f c
  pub rest : rest_of f c ≡ rest_of f start
  pub right : stands_right f c ≡ stands_right f start

module _ (f : List ℕ) (start c : Cursor) (m : Moved f start c) where
  pub settle_on : (c.left ≡ 0 → ⊥) → Reached f start c
  settle_on n = record { some = omega (arith, n); in_block = m.in_block; rest = m.rest; right = m.right }

  module _ (empty : c.left ≡ 0) (e : Bool) (q : e ≡ is_end c.next) where
    pub settle_over : e ≡ true → (stands_right f start ≡ true) × (rest_of f start ≡ [])
    settle_over t = (sym m.right ∙ over_right f c empty (sym q ∙ t), sym m.rest ∙ over_rest f c empty (sym q ∙ t))

    module _ (more : e ≡ false) where
      pub settle_none : c.fuel ≡ 0 → stands_right f start ≡ false
      settle_none z = sym m.right ∙ none_left f c empty (sym q ∙ more) z

      module _ (some : c.fuel ≡ 0 → ⊥) (h : Option Segment) (r : h ≡ header_of f c.next) where
        pub settle_bad : h ≡ None → stands_right f start ≡ false
        settle_bad b = sym m.right ∙ wrong_header f c empty (sym q ∙ more) some (header_none f c.next h r b)

        pub settle_enter : (s : Segment) → h ≡ Some s → Moved f start (entered c s)
        settle_enter s a =
            let t = header_told f c.next h s r a in
            let i = ((and_iff (header_inside (length f) c.next) (count_right f c.next)).0 t.0).0 in
            let b : InBlock f (entered c (segment_of f c.next)) = first_in_block (length f) c.next i in
            record {
              in_block = rw (← t.1) b;
              rest = ap (λ (s : Segment). rest_of f (entered c s)) (sym t.1) ∙ sym (enter_rest f c empty (sym q ∙ more) some) ∙ m.rest;
              right = ap (λ (s : Segment). stands_right f (entered c s)) (sym t.1) ∙ sym (enter_right f c empty (sym q ∙ more) some t.0) ∙ m.right;
            }

-- ---- a run is taken

pub past_in_block : (f : List ℕ) (c : Cursor) (n : ℕ) → c.at + 8 * n ≤ length f → InBlock f (past_of c n)
past_in_block f c n h = (omega arith, omega arith)

module _ (f : List ℕ) (c : Cursor) (n : ℕ) (stands : InBlock f c) (some : 0 < c.left) (is : n ≡ run_size c.at c.left) where
  pub rest_taken : rest_of f c ≡ row f n c.at ++ rest_of f (past_of c n)
  unfolding rest_of
  rest_taken =
      ap (λ (xs : List ℕ). xs ++ postings_of f (segments_after f c.fuel c.next)) (run_taken f c.at c.left n stands.0 some is)
      ∙ append_assoc (row f n c.at) (run f (c.left - n) (c.at / 512 * 512 + 516)) (postings_of f (segments_after f c.fuel c.next))

  pub stands_taken : stands_right f c ≡ (leb (c.at + 8 * n) (length f) && stands_right f (past_of c n))
  unfolding stands_right
  stands_taken =
      ap (λ (b : Bool). b && segments_right f c.fuel c.next) (inside_taken f c.at c.left n stands.0 some is (length f))
      ∙ and_assoc (leb (c.at + 8 * n) (length f)) (run_inside (length f) (c.left - n) (c.at / 512 * 512 + 516)) (segments_right f c.fuel c.next)

  pub length_taken : length (rest_of f c) ≡ n + length (rest_of f (past_of c n))
  length_taken = ap length rest_taken ∙ length-append (row f n c.at) (rest_of f (past_of c n)) ∙ rw (row_length f n c.at)

  pub less_taken : length (rest_of f (past_of c n)) < length (rest_of f c)
  less_taken = omega (arith, length_taken, size_some f c.at c.left n stands.0 some is)

-- a cursor whose list can be read
module _ (f : List ℕ) (c d : Cursor) (t : Reached f c d) (right : stands_right f c ≡ true) (n : ℕ) (is : n ≡ run_size d.at d.left) where
  both_right : (leb (d.at + 8 * n) (length f) ≡ true) × (stands_right f (past_of d n) ≡ true)
  both_right =
      (and_iff (leb (d.at + 8 * n) (length f)) (stands_right f (past_of d n))).0
      (sym (stands_taken f d n t.in_block t.some is) ∙ t.right ∙ right)

  pub read_inside : leb (d.at + 8 * n) (length f) ≡ true
  read_inside = both_right.0

  pub read_past : stands_right f (past_of d n) ≡ true
  read_past = both_right.1

  pub read_rest : rest_of f c ≡ row f n d.at ++ rest_of f (past_of d n)
  read_rest = sym t.rest ∙ rest_taken f d n t.in_block t.some is

  pub read_less : length (rest_of f (past_of d n)) < length (rest_of f c)
  read_less = omega (arith, less_taken f d n t.in_block t.some is, ap length t.rest)
