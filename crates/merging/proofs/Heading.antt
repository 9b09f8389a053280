-- Heads of lists: what is read of a list run by run, and how a head passes an MFN.
use Prim.Native.Nat.{ℕ, suc, ◌+◌, ◌*◌, ◌-◌, ◌/◌, ◌%◌, ◌≤◌, ◌<◌}
use native.Mathlib.Omega.{arith}
use mathlib.Core.Path.{◌≡◌, refl, sym, ap, ◌∙◌}
use mathlib.Core.Logic.{⊎_elim}
use mathlib.Core.Bool.{true}
use mathlib.Core.List.{List, [], ◌∷◌, ◌++◌}
use lib.ListN.{length}
use borrow.Author.Tests.{lt-ltb, le-ltb, leb-true, eq-eqb}
use Rattle.word.proofs.Overwrite.{lt_or_ge}
use Rattle.posting.specs.Posting.{posting_at, mfn_of}
use Rattle.postings.specs.Rules.{above}
use Rattle.postings.specs.Cursor.{InBlock, rest_of, stands_right, Reached, row, run_size, past_of}
use Rattle.merging.specs.Merge.{mfns_after}
use Rattle.merging.specs.Heads.{row_to, rest_head, front, head_after, head_size, unread_of, HeadRight, Rising, lowest, Rises, Headed, Reads, behind_of}
use Rattle.postings.specs.declared.cursor.Cursor.{Cursor}
use Rattle.merging.specs.declared.merge.Head.{Head}
use Rattle.postings.proofs.Cursors.{past_in_block, read_inside, read_past, read_rest}
use Rattle.postings.proofs.Runs.{size_some}
use Rattle.merging.proofs.Merged.{above_first, above_rest}
use Rattle.merging.proofs.Turns.{face}

-- ---- MFNs that do not descend

rising_above : (k m : ℕ) (ps : List ℕ) → m ≤ mfn_of k → above k ps ≡ true → Rising m ps
unfolding Rising
rising_above k m [] h e = tt
rising_above k m (p ∷ ps) h e =
    let g : k ≤ p = above_first k p ps e in
    (omega arith, rising_above (suc p) (mfn_of p) ps (omega arith) (above_rest k p ps e))

rising_nil : (m : ℕ) (ps : List ℕ) → ps ≡ [] → Rising m ps
unfolding Rising
rising_nil m ps e = rw e tt

rising_first : (m p : ℕ) (ps : List ℕ) → Rising m (p ∷ ps) → (m ≤ mfn_of p) × Rising (mfn_of p) ps
unfolding Rising
rising_first m p ps g = g

lowest_is : (m : ℕ) → m < 16777216 → lowest m ≡ m
lowest_is m s = rw (lt-ltb m 16777216 s)

-- ---- the postings up to an offset

module _ (f : List ℕ) where
  row_to_more : (at end : ℕ) → at < end → (end - at) % 8 ≡ 0 → row_to f at end ≡ posting_at f at ∷ row_to f (at + 8) end
  unfolding row
  row_to_more at end h w =
      let k : (end - at) / 8 ≡ suc ((end - (at + 8)) / 8) = omega arith in
      rw k

  row_to_none : (at end : ℕ) → end ≤ at → row_to f at end ≡ []
  unfolding row
  row_to_none at end h =
      let k : (end - at) / 8 ≡ 0 = omega arith in
      rw k

  row_to_whole : (at n : ℕ) → row_to f at (at + 8 * n) ≡ row f n at
  row_to_whole at n =
      let k : (at + 8 * n - at) / 8 ≡ n = omega arith in
      rw k

-- ---- what a head stands for, with an MFN and without

module _ (f : List ℕ) (h : Head) where
  module _ (s : h.mfn < 16777216) where
    read_after : (l : ℕ) → head_after f l h ≡ front l h.mfn (rest_head f h)
    unfolding head_after
    read_after l = rw (lt-ltb h.mfn 16777216 s)

    read_size : head_size f h ≡ suc (length (rest_head f h))
    unfolding head_size
    read_size = rw (lt-ltb h.mfn 16777216 s)

  module _ (s : 16777216 ≤ h.mfn) where
    none_after : (l : ℕ) → head_after f l h ≡ mfns_after l (rest_head f h)
    unfolding head_after
    none_after l = rw (le-ltb h.mfn 16777216 s)

    none_size : head_size f h ≡ length (rest_head f h)
    unfolding head_size
    none_size = rw (le-ltb h.mfn 16777216 s)

  -- a head whose run is read
  pub head_face : HeadRight f h → h.at ≤ h.end → (l : ℕ) → head_after f l h ≡ face l h.mfn (rest_head f h)
  unfolding mfns_after
  head_face g w l = ⊎_elim some none (lt_or_ge h.mfn 16777216)
    where
      some : h.mfn < 16777216 → head_after f l h ≡ face l h.mfn (rest_head f h)
      some s = read_after s l ∙ sym (rw (lt-ltb h.mfn 16777216 s))

      none : 16777216 ≤ h.mfn → head_after f l h ≡ face l h.mfn (rest_head f h)
      none s = none_after s l ∙ ap (mfns_after l) (g.over s w) ∙ sym (rw (le-ltb h.mfn 16777216 s))

  -- two such heads of which neither has an MFN
  pub face_none : HeadRight f h → h.at ≤ h.end → 16777216 ≤ h.mfn → (l : ℕ) → head_after f l h ≡ []
  unfolding mfns_after
  face_none g w s l = none_after s l ∙ ap (mfns_after l) (g.over s w)

-- ---- a list of which nothing is read

module _ (f : List ℕ) (c : Cursor) (g : Reads f c) where
  pub unread_right : HeadRight f (unread_of c)
  unread_right =
      record {
        low = λ s. absurd (omega arith);
        none = λ _. omega arith;
        over = λ _ w. absurd (omega arith);
        whole = refl;
        inside = omega arith;
        in_block = g.in_block;
        stands = g.stands;
      }

  pub unread_rises : Rises f 16777216 (unread_of c)
  unfolding row
  unread_rises =
      record {
        floor = λ s. absurd (omega arith);
        rest = λ s. absurd (omega arith);
        later = λ _. rising_above 0 0 (rest_of f c) (omega arith) g.ascends;
      }

  pub unread_after : head_after f 16777216 (unread_of c) ≡ mfns_after 16777216 (rest_of f c)
  unfolding head_after row
  unread_after = refl

-- ---- the next run of a list

module _ (f : List ℕ) (start : Cursor) (b : InBlock f start) (right : stands_right f start ≡ true) where
  pub refill_over : rest_of f start ≡ [] → Headed f (rest_of f start) (record { mfn = 16777216; at = 0; end = 0; cursor = start })
  unfolding head_after head_size row
  refill_over z =
      record {
        after = λ l. refl;
        size = refl;
        within = omega arith;
        right =
            record {
              low = λ s. absurd (omega arith);
              none = λ _. omega arith;
              over = λ _ _. z;
              whole = refl;
              inside = omega arith;
              in_block = b;
              stands = right;
            };
        rises =
            λ l g.
            record { floor = λ s. absurd (omega arith); rest = λ s. absurd (omega arith); later = λ _. g };
      }

  module _ (s : Cursor) (t : Reached f start s) (n : ℕ) (is : n ≡ run_size s.at s.left) where
    one : 1 ≤ n
    one = size_some f s.at s.left n t.in_block.0 t.some is

    pub refill_inside : s.at + 8 * n ≤ length f
    refill_inside = leb-true (s.at + 8 * n) (length f) (read_inside f start s t right n is)

    module _ (d : Cursor) (p : d ≡ past_of s n) (x : ℕ) (q : x ≡ mfn_of (posting_at f s.at)) (small : x < 16777216) where
      abbrev found : Head
      found = record { mfn = x; at = s.at + 8; end = s.at + 8 * n; cursor = d }

      found_rest : rest_of f start ≡ posting_at f s.at ∷ rest_head f found
      found_rest =
          read_rest f start s t right n is
          ∙ ap (λ (xs : List ℕ). xs ++ rest_of f (past_of s n)) (sym (row_to_whole f s.at n) ∙ row_to_more f s.at (s.at + 8 * n) (omega arith) (omega arith))
          ∙ rw p

      found_after : (l : ℕ) → head_after f l found ≡ mfns_after l (rest_of f start)
      unfolding mfns_after
      found_after l = read_after f found small l ∙ rw (found_rest, ← q)

      found_rises : (l : ℕ) → Rising (lowest l) (rest_of f start) → Rises f l found
      found_rises l g =
          let h : Rising (lowest l) (posting_at f s.at ∷ rest_head f found) = rw (← found_rest) g in
          let k = rising_first (lowest l) (posting_at f s.at) (rest_head f found) h in
          record { floor = λ _. rw q k.0; rest = λ _. rw q k.1; later = λ s. absurd (omega arith) }

      pub refill_found : Headed f (rest_of f start) found
      refill_found =
          record {
            after = found_after;
            size = read_size f found small ∙ ap length (sym found_rest);
            within = omega arith;
            right =
                record {
                  low = λ _. omega arith;
                  none = λ s. absurd (omega arith);
                  over = λ s. absurd (omega arith);
                  whole = omega arith;
                  inside = refill_inside;
                  in_block = rw p (past_in_block f s n refill_inside);
                  stands = rw p (read_past f start s t right n is);
                };
            rises = found_rises;
          }

-- ---- a head whose next run is read where that is still to be done

pub record Filled (f : List ℕ) (l : ℕ) (h r : Head) : Type 0 where
  pub after : head_after f l r ≡ head_after f l h
  pub size : head_size f r ≡ head_size f h
  pub within : r.at ≤ r.end
  pub right : HeadRight f r
  pub rises : Rises f l r

module _ (f : List ℕ) (l : ℕ) (h : Head) (g : HeadRight f h) (k : Rises f l h) where
  pub filled_none : h.at ≤ h.end → Filled f l h h
  filled_none w = record { after = refl; size = refl; within = w; right = g; rises = k }

  module _ (w : h.end < h.at) (r : Head) (n : Headed f (rest_of f h.cursor) r) where
    no_mfn : 16777216 ≤ h.mfn
    no_mfn = ⊎_elim (λ s. absurd (omega (arith, g.low s))) (λ s. s) (lt_or_ge h.mfn 16777216)

    rest_is : rest_head f h ≡ rest_of f h.cursor
    rest_is = ap (λ (xs : List ℕ). xs ++ rest_of f h.cursor) (row_to_none f h.at h.end (omega arith))

    pub filled_read : Filled f l h r
    filled_read =
        record {
          after = n.after l ∙ sym (none_after f h no_mfn l ∙ ap (mfns_after l) rest_is);
          size = n.size ∙ sym (none_size f h no_mfn ∙ ap length rest_is);
          within = n.within;
          right = n.right;
          rises = n.rises l (rw (← rest_is) (k.later no_mfn));
        }

-- ---- a head passes an MFN

pub record Passed (f : List ℕ) (m : ℕ) (h n : Head) : Type 0 where
  pub after : head_after f m n ≡ head_after f m h
  pub size : head_size f n ≤ head_size f h
  pub less : h.mfn ≡ m → head_size f n < head_size f h
  pub read : h.mfn ≡ m → n.at ≤ n.end → n.mfn < 16777216
  pub right : HeadRight f n
  pub rises : Rises f m n

module _ (f : List ℕ) (l m : ℕ) (h : Head) (g : HeadRight f h) (w : h.at ≤ h.end) (k : Rises f l h) (s : m < 16777216) where
  pub pass_other : m < h.mfn → Passed f m h h
  pass_other o =
      record {
        after = refl;
        size = omega arith;
        less = λ e. absurd (omega arith);
        read = λ e. absurd (omega arith);
        right = g;
        rises =
            record {
              floor = λ _. rw (lowest_is m s) (omega arith);
              rest = k.rest;
              later = λ q. rising_nil (lowest m) (rest_head f h) (g.over q w);
            };
      }

  module _ (e : h.mfn ≡ m) (v : ℕ) (is : v ≡ behind_of f h.at h.end) (small : h.at < h.end → v < 16777216) where
    abbrev next : Head
    next = record { mfn = v; at = h.at + 8; end = h.end; cursor = h.cursor }

    has : h.mfn < 16777216
    has = omega arith

    own_after : head_after f m h ≡ mfns_after m (rest_head f h)
    own_after = read_after f h has m ∙ rw (eq-eqb h.mfn m e)

    own_rising : Rising m (rest_head f h)
    own_rising = rw (← e) (k.rest has)

    module _ (i : h.at < h.end) where
      v_is : v ≡ mfn_of (posting_at f h.at)
      v_is = is ∙ rw (lt-ltb h.at h.end i)

      next_rest : rest_head f h ≡ posting_at f h.at ∷ rest_head f next
      next_rest = ap (λ (xs : List ℕ). xs ++ rest_of f h.cursor) (row_to_more f h.at h.end i g.whole)

      next_rises : Rises f m next
      next_rises =
          let r : Rising m (posting_at f h.at ∷ rest_head f next) = rw (← next_rest) own_rising in
          let c = rising_first m (posting_at f h.at) (rest_head f next) r in
          record { floor = λ _. rw (lowest_is m s, v_is) c.0; rest = λ _. rw v_is c.1; later = λ q. absurd (omega (arith, small i)) }

      next_after : head_after f m next ≡ head_after f m h
      unfolding mfns_after
      next_after = read_after f next (small i) m ∙ sym (own_after ∙ rw (next_rest, ← v_is))

      next_less : head_size f next < head_size f h
      next_less = omega (arith, read_size f next (small i), read_size f h has, ap length next_rest)

      pass_in : Passed f m h next
      pass_in =
          record {
            after = next_after;
            size = omega (arith, next_less);
            less = λ _. next_less;
            read = λ _ _. small i;
            right =
                record {
                  low = λ _. omega (arith, g.whole);
                  none = λ q. absurd (omega (arith, small i));
                  over = λ q. absurd (omega (arith, small i));
                  whole = omega (arith, g.whole);
                  inside = g.inside;
                  in_block = g.in_block;
                  stands = g.stands;
                };
            rises = next_rises;
          }

    module _ (i : h.end ≤ h.at) where
      v_none : v ≡ 16777216
      v_none = is ∙ rw (le-ltb h.at h.end i)

      same_rest : rest_head f next ≡ rest_head f h
      same_rest =
          ap (λ (xs : List ℕ). xs ++ rest_of f h.cursor) (row_to_none f (h.at + 8) h.end (omega arith) ∙ sym (row_to_none f h.at h.end i))

      end_less : head_size f next < head_size f h
      end_less = omega (arith, none_size f next (omega (arith, v_none)), read_size f h has, ap length same_rest)

      pass_end : Passed f m h next
      pass_end =
          record {
            after = none_after f next (omega (arith, v_none)) m ∙ ap (mfns_after m) same_rest ∙ sym own_after;
            size = omega (arith, end_less);
            less = λ _. end_less;
            read = λ _ w. absurd (omega arith);
            right =
                record {
                  low = λ q. absurd (omega (arith, v_none));
                  none = λ _. omega arith;
                  over = λ _ w. absurd (omega arith);
                  whole = omega (arith, g.whole);
                  inside = g.inside;
                  in_block = g.in_block;
                  stands = g.stands;
                };
            rises =
                record {
                  floor = λ q. absurd (omega (arith, v_none));
                  rest = λ q. absurd (omega (arith, v_none));
                  later = λ _. rw (lowest_is m s, same_rest) own_rising;
                };
          }

    pub pass_on : Passed f m h next
    pass_on = ⊎_elim pass_in pass_end (lt_or_ge h.at h.end)
