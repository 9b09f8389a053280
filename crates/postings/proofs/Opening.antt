-- The cursor before a list's first posting stands for the whole list, and keeps the rules where the list does.
use Prim.Native.Nat.{ℕ, zero, suc, ◌-◌, ◌/◌, ◌≤◌, ◌<◌}
use native.Mathlib.Omega.{arith}
use mathlib.Core.Path.{◌≡◌, refl, sym, ap, ◌∙◌}
use mathlib.Core.Bool.{Bool, true, false, ◌&&◌, cond, and-false}
use mathlib.Core.List.{List, ◌∷◌}
use lib.ListN.{length}
use borrow.Author.Tests.{lt-ltb, le-ltb, eqb-true}
use Rattle.word.proofs.Tests.{false_true, and_iff}
use Rattle.std.proofs.Common.{Option, Some, None, Result, Ok, Err, IfOk, IfErr}
use Rattle.std.specs.Result.{result_unwrap_or}
use Rattle.posting.specs.declared.answer.Refusal.{Refusal}
use Rattle.posting.specs.declared.answer.Refusal.TheVariants as refusals
use Rattle.postings.specs.declared.segment.Place.{Place}
use Rattle.postings.specs.Segment.{is_end, next_of, total_of, count_of, first_of, header_inside, count_right, header_of, run_inside}
use Rattle.postings.specs.Rules.{words_of, segments_from, ends_within, postings_of, headers_inside, counts_right, postings_inside, ascends, total_right, list_of, list_right}
use Rattle.postings.specs.Cursor.{segments_after, segments_right, rest_of, stands_right, keeps_rules, InBlock, OpensList}
use Rattle.postings.specs.declared.segment.Segment.{Segment}
use Rattle.postings.specs.declared.list.Opened.{Opened}
use Rattle.postings.proofs.Headers.{header_told, header_none, header_facts, segment_of}
use Rattle.postings.proofs.Cursors.{shuffle, first_in_block, over_rest}

-- the segments of a list, of which the first is p
module _ (f : List ℕ) (p : Place) (k : ℕ) (w : words_of f ≡ suc k) where
  list_segments : segments_from f (words_of f) p ≡ p ∷ segments_after f k (next_of f p)
  unfolding segments_from segments_after
  list_segments = rw w

  list_ends : ends_within f (words_of f) p ≡ cond (is_end (next_of f p)) true (ends_within f k (next_of f p))
  unfolding ends_within
  list_ends = rw w

  list_front : (((ends_within f (words_of f) p && headers_inside f (segments_from f (words_of f) p)) && counts_right f (segments_from f (words_of f) p))
      && postings_inside f (segments_from f (words_of f) p))
      ≡ (((header_inside (length f) p && count_right f p) && run_inside (length f) (count_of f p) (first_of p)) && segments_right f k (next_of f p))
  unfolding segments_right headers_inside counts_right postings_inside
  list_front =
      rw (list_segments, list_ends)
      (shuffle
      (cond (is_end (next_of f p)) true (ends_within f k (next_of f p)))
      (header_inside (length f) p)
      (headers_inside f (segments_after f k (next_of f p)))
      (count_right f p)
      (counts_right f (segments_after f k (next_of f p)))
      (run_inside (length f) (count_of f p) (first_of p))
      (postings_inside f (segments_after f k (next_of f p))))

  list_right_lem : list_right f p
      ≡ (((((header_inside (length f) p && count_right f p) && run_inside (length f) (count_of f p) (first_of p)) && segments_right f k (next_of f p))
      && ascends (list_of f p))
      && total_right f p (list_of f p))
  unfolding list_right
  list_right_lem = ap (λ (b : Bool). ((b && ascends (list_of f p)) && total_right f p (list_of f p))) list_front

list_no_words : (f : List ℕ) (p : Place) → words_of f ≡ 0 → list_right f p ≡ false
unfolding list_right ends_within
list_no_words f p e = rw e

pub list_bad : (f : List ℕ) (p : Place) → header_inside (length f) p && count_right f p ≡ false → list_right f p ≡ false
list_bad f p e = go (words_of f) refl
  where
    go : (n : ℕ) → words_of f ≡ n → list_right f p ≡ false
    go zero z = list_no_words f p z
    go (suc k) s = list_right_lem f p k s ∙ rw e

list_total : (f : List ℕ) (p : Place) → 2147483648 ≤ total_of f p → list_right f p ≡ false
unfolding list_right total_right
list_total f p h = rw (le-ltb _ _ h, and-false)

-- ---- the ways through `find`

abbrev opened_of : List ℕ → Segment → Opened
opened_of f s =
    record {
      total = s.total;
      cursor = record { at = s.first; left = s.count; next = s.next; fuel = length f / 4 - 1 };
    }

module _ (f : List ℕ) (p : Place) (h : Option Segment) (r : h ≡ header_of f p) where
  pub open_bad : h ≡ None → list_right f p ≡ false
  open_bad b = list_bad f p (header_none f p h r b)

  module _ (s : Segment) (a : h ≡ Some s) where
    header_in : header_inside (length f) p ≡ true
    header_in = ((and_iff (header_inside (length f) p) (count_right f p)).0 (header_told f p h s r a).0).0

    pub open_words : 1 ≤ length f / 4
    open_words = omega (arith, (header_facts (length f) p header_in).file_in)

    pub open_total : 2147483648 ≤ s.total → list_right f p ≡ false
    open_total l =
        let t : total_of f p ≡ s.total = ap (λ (x : Segment). x.total) (header_told f p h s r a).1 in
        list_total f p (omega arith)

    words_are : words_of f ≡ suc (length f / 4 - 1)
    words_are = omega (arith, open_words)

    opened_rest : rest_of f (opened_of f (segment_of f p)).cursor ≡ list_of f p
    unfolding rest_of postings_of
    opened_rest = rw (list_segments f p (length f / 4 - 1) words_are)

    opened_right : total_of f p < 2147483648 → keeps_rules f (opened_of f (segment_of f p)).cursor (total_of f p) 0 ≡ list_right f p
    unfolding keeps_rules stands_right total_right
    opened_right l =
        rw (list_right_lem f p (length f / 4 - 1) words_are, (header_told f p h s r a).0, opened_rest, lt-ltb _ _ l)

    pub open_at : s.total < 2147483648 → OpensList f p (opened_of f s)
    open_at l =
        let e = (header_told f p h s r a).1 in
        let t : total_of f p ≡ s.total = ap (λ (x : Segment). x.total) e in
        let b : InBlock f (opened_of f (segment_of f p)).cursor = first_in_block (length f) p header_in in
        record {
          in_block = rw (← e) b;
          right = ap (λ (x : Segment). keeps_rules f (opened_of f x).cursor x.total 0) (sym e) ∙ opened_right (omega arith);
          rest = λ _. ap (λ (x : Segment). rest_of f (opened_of f x).cursor) (sym e) ∙ opened_rest;
        }

-- ---- `open`, also where no list is found

-- what keeps no rule
abbrev Broken : Opened → Type 0
Broken o = (o.total ≡ 1) × (o.cursor.left ≡ 0) × (o.cursor.next.block ≡ 0) × (o.cursor.next.word ≡ 0) × (o.cursor.at ≡ 0)

broken_keeps : (f : List ℕ) (o : Opened) → Broken o → keeps_rules f o.cursor o.total 0 ≡ false
unfolding keeps_rules
broken_keeps f o b =
    let e : is_end o.cursor.next ≡ true = rw (b.2, b.3) in
    rw (over_rest f o.cursor b.1 e, b.0, and-false)

opened_broken : (f : List ℕ) (p : Place) (o : Opened) → Broken o → list_right f p ≡ false → OpensList f p o
opened_broken f p o b l =
    record {
      in_block = (omega (arith, b.4), omega (arith, b.4));
      right = rw l (broken_keeps f o b);
      rest = λ t. absurd (false_true (sym l ∙ t));
    }

-- the list that was found, or else what keeps no rule
pub found_or : (f : List ℕ) (p : Place) (r : Result Opened Refusal) (o x : Opened) → x ≡ result_unwrap_or r o → IfOk r (OpensList f p)
    → IfErr r (λ (e : Refusal). (e ≡ refusals.Broken) × (list_right f p ≡ false)) → Broken o → OpensList f p x
found_or f p (Ok found) o x e t _ _ = rw e t
found_or f p (Err r) o x e _ b k = rw e (opened_broken f p o k b.1)

-- ---- an opened list that is asked the rules

-- the list at p keeps the rules, and is what is still to come
pub record SoundList (f : List ℕ) (p : Place) (o : Opened) : Type 0 where
  pub right : list_right f p ≡ true
  pub in_block : InBlock f o.cursor
  pub stands : stands_right f o.cursor ≡ true
  pub rest : rest_of f o.cursor ≡ list_of f p
  pub total : o.total ≡ length (list_of f p)

-- a list that keeps the rules can be read, and has as many postings as its total says
keeps_reads : (f : List ℕ) (o : Opened) → keeps_rules f o.cursor o.total 0 ≡ true
    → (stands_right f o.cursor ≡ true) × (o.total ≡ length (rest_of f o.cursor))
unfolding keeps_rules
keeps_reads f o e = let q = simp and_iff at e in (q.0.0, eqb-true o.total (length (rest_of f o.cursor)) q.1)

module _ (f : List ℕ) (p : Place) (o : Opened) (t : OpensList f p o) (r : Bool) (g : r ≡ keeps_rules f o.cursor o.total 0) where
  pub sound_not : r ≡ false → list_right f p ≡ false
  sound_not n = sym t.right ∙ sym g ∙ n

  pub sound_yes : r ≡ true → SoundList f p o
  sound_yes n =
      let k = keeps_reads f o (sym g ∙ n) in
      let l : list_right f p ≡ true = sym t.right ∙ sym g ∙ n in
      record { right = l; in_block = t.in_block; stands = k.0; rest = t.rest l; total = k.1 ∙ ap length (t.rest l) }
