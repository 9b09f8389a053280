-- Whether postings ascend, asked by runs: the turns of the loop over a run, and what a run makes of the rules for what is still to come.
use Prim.Native.Nat.{ℕ, suc, ◌+◌, ◌*◌, ◌-◌, ◌/◌, ◌≤◌, ◌<◌}
use native.Mathlib.Omega.{arith}
use mathlib.Core.Path.{◌≡◌, refl, sym, ap, ◌∙◌}
use mathlib.Core.Bool.{Bool, true, false, ◌&&◌, and-false}
use mathlib.Core.List.{List, []}
use lib.Dec.{leb, eqb}
use lib.ListN.{length}
use borrow.Author.Tests.{leb-true, lt-leb, le-leb, eq-eqb, ne_eqb, eqb-true, eqb-false}
use Rattle.word.proofs.Tests.{false_true, and_iff}
use Rattle.posting.specs.Posting.{posting_at}
use Rattle.postings.specs.Rules.{above}
use Rattle.postings.specs.Cursor.{rest_of, stands_right, keeps_rules, InBlock, Reached, row, run_size, past_of}
use Rattle.postings.specs.declared.cursor.Cursor.{Cursor}
use Rattle.postings.proofs.Runs.{row_append, row_above, size_some}
use Rattle.postings.proofs.Cursors.{rest_taken, stands_taken, length_taken, less_taken}

-- ---- the loop over a run

module _ (f : List ℕ) (start n first : ℕ) where
  module _ (last i : ℕ) (h : i < n) (e : above (suc first) (row f n start) ≡ above (suc last) (row f (n - i) (start + 8 * i)))
      (p : ℕ) (is : p ≡ posting_at f (start + 8 * i)) where
    turn : above (suc first) (row f n start) ≡ (leb (suc last) p && above (suc p) (row f (n - (i + 1)) (start + 8 * (i + 1))))
    unfolding row above
    turn =
        let k : n - i ≡ suc (n - (i + 1)) = omega arith in
        let a : start + 8 * i + 8 ≡ start + 8 * (i + 1) = omega arith in
        e ∙ rw (k, ← is, a)

    pub climb_falls : p ≤ last → false ≡ above (suc first) (row f n start)
    climb_falls g = sym (turn ∙ rw (lt-leb (suc last) p (omega arith)))

    pub climb_more : last < p → above (suc first) (row f n start) ≡ above (suc p) (row f (n - (i + 1)) (start + 8 * (i + 1)))
    climb_more g = turn ∙ rw (le-leb (suc last) p (omega arith))

  -- four at once, behind 4 * k
  module _ (last k : ℕ) (h : k < n / 4) (e : above (suc first) (row f n start) ≡ above (suc last) (row f (n - 4 * k) (start + 8 * (4 * k))))
      (t : Bool) (is : t ≡ above (suc last) (row f 4 (start + 32 * k))) where
    fours : above (suc first) (row f n start)
        ≡ (t && above (suc (posting_at f (start + 32 * k + 24))) (row f (n - 4 * (k + 1)) (start + 8 * (4 * (k + 1)))))
    fours =
        let m : n - 4 * k ≡ 4 + (n - 4 * (k + 1)) = omega arith in
        let z : start + 8 * (4 * k) ≡ start + 32 * k = omega arith in
        let a : start + 8 * (4 * (k + 1)) ≡ start + 32 * k + 8 * 4 = omega arith in
        let b : start + 32 * k + 24 ≡ start + 32 * k + 8 * 3 = omega arith in
        e
        ∙ rw (m, z, row_append f 4 (n - 4 * (k + 1)) (start + 32 * k), row_above f 4 (start + 32 * k) 3 (suc last) (row f (n - 4 * (k + 1)) (start + 32 * k + 8 * 4)) refl, is, a, b)

    pub climb_four_falls : t ≡ false → false ≡ above (suc first) (row f n start)
    climb_four_falls g = sym (fours ∙ rw (g))

    pub climb_four : t ≡ true → (p : ℕ) → p ≡ posting_at f (start + 32 * k + 24)
        → above (suc first) (row f n start) ≡ above (suc p) (row f (n - 4 * (k + 1)) (start + 8 * (4 * (k + 1))))
    climb_four g p q = fours ∙ rw (g, q)

  pub climb_done : (last i : ℕ) → n ≤ i → above (suc first) (row f n start) ≡ above (suc last) (row f (n - i) (start + 8 * i))
      → true ≡ above (suc first) (row f n start)
  unfolding row above
  climb_done last i h e =
      let z : n - i ≡ 0 = omega arith in
      sym (e ∙ rw z)

-- ---- a run that is asked whole

module _ (f : List ℕ) (at n floor : ℕ) (some : 1 ≤ n) where
  run_first : above floor (row f n at) ≡ (leb floor (posting_at f at) && above (suc (posting_at f at)) (row f (n - 1) (at + 8)))
  unfolding row above
  run_first =
      let k : n ≡ suc (n - 1) = omega arith in
      ap (λ (m : ℕ). above floor (row f m at)) k

  module _ (p : ℕ) (is : p ≡ posting_at f at) (r : Bool) (e : r ≡ leb floor p) where
    pub ask_falls : r ≡ false → false ≡ (leb (at + 8 * n) (length f) && above floor (row f n at))
    ask_falls t = rw (run_first, ← is, ← e, t, and-false)

    pub ask_climbs : r ≡ true → at + 8 * n ≤ length f → (b : Bool) → b ≡ above (suc p) (row f (n - 1) (at + 8))
        → b ≡ (leb (at + 8 * n) (length f) && above floor (row f n at))
    ask_climbs t h b g = g ∙ rw (run_first, ← is, ← e, t, le-leb (at + 8 * n) (length f) h)

-- ---- what is still to come

-- b is what the whole list comes to, where nothing is left of it or what is left cannot be read
pub right_over : (f : List ℕ) (c : Cursor) (due floor : ℕ) (b : Bool) → keeps_rules f c due floor ≡ b
    → (stands_right f c ≡ true) × (rest_of f c ≡ []) → eqb due 0 ≡ b
unfolding keeps_rules above
right_over f c due floor b i e = sym (rw (e.0, e.1)) ∙ i

pub right_unread : (f : List ℕ) (c : Cursor) (due floor : ℕ) (b : Bool) → keeps_rules f c due floor ≡ b → stands_right f c ≡ false → false ≡ b
unfolding keeps_rules
right_unread f c due floor b i e = sym (rw e) ∙ i

chain_false : (l s a b e : Bool) → l && a ≡ false → (((l && s) && (a && b)) && e) ≡ false
chain_false true s true b e h = absurd (false_true (sym h))
chain_false true s false b e h = rw and-false
chain_false false s a b e h = refl

chain_true : (l s a b e : Bool) → l && a ≡ true → (((l && s) && (a && b)) && e) ≡ ((s && b) && e)
chain_true l s a b e h =
    let q = (and_iff l a).0 h in
    rw (q.0, q.1)

eqb_less : (d n k : ℕ) → n ≤ d → eqb d (n + k) ≡ eqb (d - n) k
eqb_less d n k h = go (eqb (d - n) k) refl
  where
    go : (t : Bool) → eqb (d - n) k ≡ t → eqb d (n + k) ≡ eqb (d - n) k
    go true e =
        let q : d - n ≡ k = eqb-true (d - n) k e in
        eq-eqb d (n + k) (omega arith) ∙ sym e
    go false e =
        let q : d - n ≡ k → ⊥ = eqb-false (d - n) k e in
        ne_eqb d (n + k) (λ z. q (omega arith)) ∙ sym e

module _ (f : List ℕ) (d : Cursor) (n : ℕ) (stands : InBlock f d) (some : 0 < d.left) (is : n ≡ run_size d.at d.left) (due floor : ℕ) where
  pub keeps_short : due < n → keeps_rules f d due floor ≡ false
  unfolding keeps_rules
  keeps_short h =
      let e : eqb due (length (rest_of f d)) ≡ false = ne_eqb due (length (rest_of f d)) (λ z. omega (arith, length_taken f d n stands some is)) in
      rw (e, and-false)

  keeps_chain : keeps_rules f d due floor
      ≡ (((leb (d.at + 8 * n) (length f) && stands_right f (past_of d n))
      && (above floor (row f n d.at) && above (suc (posting_at f (d.at + 8 * (n - 1)))) (rest_of f (past_of d n))))
      && eqb due (n + length (rest_of f (past_of d n))))
  unfolding keeps_rules
  keeps_chain =
      let k : n ≡ suc (n - 1) = omega (arith, size_some f d.at d.left n stands.0 some is) in
      rw (stands_taken f d n stands some is, length_taken f d n stands some is, rest_taken f d n stands some is, row_above f n d.at (n - 1) floor (rest_of f (past_of d n)) k)

  pub keeps_wrong : (leb (d.at + 8 * n) (length f) && above floor (row f n d.at)) ≡ false → keeps_rules f d due floor ≡ false
  keeps_wrong h = keeps_chain ∙ chain_false (leb (d.at + 8 * n) (length f)) (stands_right f (past_of d n)) (above floor (row f n d.at)) (above (suc (posting_at f (d.at + 8 * (n - 1)))) (rest_of f (past_of d n))) (eqb due (n + length (rest_of f (past_of d n)))) h

  pub keeps_taken : (leb (d.at + 8 * n) (length f) && above floor (row f n d.at)) ≡ true → n ≤ due
      → keeps_rules f d due floor ≡ keeps_rules f (past_of d n) (due - n) (suc (posting_at f (d.at + 8 * (n - 1))))
  unfolding keeps_rules
  keeps_taken h l =
      keeps_chain
      ∙ chain_true (leb (d.at + 8 * n) (length f)) (stands_right f (past_of d n)) (above floor (row f n d.at)) (above (suc (posting_at f (d.at + 8 * (n - 1)))) (rest_of f (past_of d n))) (eqb due (n + length (rest_of f (past_of d n)))) h
      ∙ rw (eqb_less due n (length (rest_of f (past_of d n))) l)

-- ---- the turns of `right`: b is what the whole list comes to

module _ (f : List ℕ) (c d : Cursor) (t : Reached f c d) (due floor : ℕ) (b : Bool) (i : keeps_rules f c due floor ≡ b) (n : ℕ) (is : n ≡ run_size d.at d.left) where
  same_keeps : keeps_rules f d due floor ≡ b
  unfolding keeps_rules
  same_keeps = rw (t.rest, t.right) i

  pub right_short : due < n → false ≡ b
  right_short h = sym (keeps_short f d n t.in_block t.some is due floor h) ∙ same_keeps

  module _ (r : Bool) (e : r ≡ (leb (d.at + 8 * n) (length f) && above floor (row f n d.at))) where
    pub right_wrong : r ≡ false → false ≡ b
    right_wrong z = sym (keeps_wrong f d n t.in_block t.some is due floor (sym e ∙ z)) ∙ same_keeps

    pub right_inside : r ≡ true → d.at + 8 * n ≤ length f
    right_inside z = leb-true _ _ ((and_iff _ _).0 (sym e ∙ z)).0

    pub right_again : r ≡ true → n ≤ due → (last : ℕ) → last ≡ posting_at f (d.at + 8 * (n - 1))
        → keeps_rules f (past_of d n) (due - n) (suc last) ≡ b
    right_again z l last q =
        ap (λ (k : ℕ). keeps_rules f (past_of d n) (due - n) (suc k)) q
        ∙ sym (keeps_taken f d n t.in_block t.some is due floor (sym e ∙ z) l)
        ∙ same_keeps

  pub right_less : length (rest_of f (past_of d n)) < length (rest_of f c)
  right_less = omega (arith, less_taken f d n t.in_block t.some is, ap length t.rest)
