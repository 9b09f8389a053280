-- The search among the fields of a record, by counting. Where it finds a field is where the list of fields has it, and it finds one exactly if
-- the tag occurs so often; the turns of its loop; and that what it finds lies in the record.
use Prim.Native.Nat.{ℕ, zero, suc, ◌+◌, ◌-◌, ◌<◌, ◌≤◌}
use native.Mathlib.Nat.{sub-zero}
use native.Mathlib.Omega.{arith}
use mathlib.Core.Path.{◌≡◌, refl, sym, ap, ◌∙◌}
use mathlib.Core.Logic.{◌⊎◌, inl, inr, ⊎_elim}
use mathlib.Core.Bool.{Bool, true, false, ◌||◌, cond, or-true}
use mathlib.Core.List.{List, [], ◌∷◌}
use mathlib.Core.Option.{Option, some, none}
use lib.Dec.{eqb, ltb}
use borrow.Author.Tests.{eqb-true, eqb-false, eq-eqb, ne_eqb, ltb-true, ltb-false, lt-ltb, le-ltb}
use Rattle.word.proofs.Overwrite.{lt_or_ge}
use Rattle.word.proofs.Tests.{false_true, or_false}
use Rattle.layout.specs.Leader.{leader_of}
use Rattle.record.specs.Directory.{tag_at, pos_at, len_at, directory_right}
use Rattle.record.specs.Fields.{Field, fields_from, fields_of, field_named, occurrences_of, is_missing, is_fewer, span_at, find_from, find_of, found_bytes}
use Rattle.record.specs.Record.{Readable}
use Rattle.std.proofs.Common.{Result, Ok, Err}
use Rattle.record.specs.declared.fields.Span.{Span}
use Rattle.record.specs.declared.fields.NotFound.{NotFound}
use Rattle.record.specs.declared.fields.NotFound.TheVariants.{Missing, Fewer}
use Rattle.record.proofs.Facts.{entry_facts, readable_facts}
use Rattle.record.proofs.DirectoryTest.{rest_step}

-- ---- what is found, as bytes

found_cond : (rec : List ℕ) (b : Bool) (f g : Result Span NotFound) → found_bytes rec (cond b f g) ≡ cond b (found_bytes rec f) (found_bytes rec g)
found_cond rec true f g = refl
found_cond rec false f g = refl

find_from_is : (rec : List ℕ) (base tag k i occ : ℕ) → found_bytes rec (find_from rec base k i tag occ) ≡ field_named (fields_from rec base k i) tag occ
unfolding find_from field_named fields_from
find_from_is rec base tag zero i occ = refl
find_from_is rec base tag (suc k) i occ =
    simp (found_cond, find_from_is rec base tag k (i + 1) (occ - 1), find_from_is rec base tag k (i + 1) occ)

-- ---- it lies in the record

found_cases : (a b : Bool) (s t : Span) (f g : Result Span NotFound) → cond a (cond b (Ok s) f) g ≡ Ok t → (s ≡ t) ⊎ ((f ≡ Ok t) ⊎ (g ≡ Ok t))
found_cases true true s t f g p = inl (cc)
found_cases true false s t f g p = inr (inl p)
found_cases false b s t f g p = inr (inr p)

find_from_in : (rec : List ℕ) (base room tag k i pos occ : ℕ) (s : Span) → directory_right rec room k i pos ≡ true
    → find_from rec base k i tag occ ≡ Ok s → s.start + s.len ≤ base + room
unfolding find_from
find_from_in rec base room tag zero i pos occ s d p = absurd (cc)
find_from_in rec base room tag (suc k) i pos occ s d p =
    let f = entry_facts rec room k i pos d in
    let next : ℕ = pos + len_at rec i in
    ⊎_elim
    (λ w. rw (← w) (omega (arith, f.pos_is, f.len)))
    (⊎_elim
    (λ w. find_from_in rec base room tag k (i + 1) next (occ - 1) s f.rest w)
    (λ w. find_from_in rec base room tag k (i + 1) next occ s f.rest w))
    (found_cases (eqb (tag_at rec i) tag) (eqb occ 1) (span_at rec base i) s _ _ p)

last_span : (a b : Bool) (k : ℕ) (s : Span) (f : Result Span NotFound) → cond a (Err Missing) (cond b (Err (Fewer k)) f) ≡ Ok s → f ≡ Ok s
last_span true b k s f e = absurd (cc)
last_span false true k s f e = absurd (cc)
last_span false false k s f e = e

pub found_in : (rec : List ℕ) (tag occ : ℕ) (s : Span) → Readable rec → find_of rec tag occ ≡ Ok s → s.start + s.len ≤ (leader_of rec).mfrl
unfolding find_of
found_in rec tag occ s r e =
    let base : ℕ = (leader_of rec).base in
    let d = (readable_facts r).directory in
    let there = last_span (is_missing (fields_of rec) tag occ) (is_fewer (fields_of rec) tag occ) (occurrences_of (fields_of rec) tag) s _ e in
    omega (arith, (readable_facts r).base_in, find_from_in rec base ((leader_of rec).mfrl - base) tag (leader_of rec).nvf 0 0 occ s d there)

-- ---- a field is among the fields exactly if its tag occurs so often

abbrev is_none : Option (List ℕ) → Bool
is_none none = true
is_none (some bytes) = false

one_more : (a b : ℕ) → ltb a b ≡ ltb (suc a) (suc b)
one_more a b =
    ⊎_elim (λ l. rw (lt-ltb a b l, lt-ltb (suc a) (suc b) (omega arith))) (λ g. rw (le-ltb a b g, le-ltb (suc a) (suc b) (omega arith))) (lt_or_ge a b)

named_is : (tag : ℕ) (fs : List Field) (occ : ℕ) → is_none (field_named fs tag occ) ≡ (eqb occ 0 || ltb (occurrences_of fs tag) occ)
unfolding field_named occurrences_of
named_is tag [] zero = refl
named_is tag [] (suc occ) = rw (ne_eqb (suc occ) 0 (λ z. omega arith), lt-ltb 0 (suc occ) (omega arith))
named_is tag (f ∷ fs) occ = step (eqb f.tag tag) occ (named_is tag fs occ) (named_is tag fs (occ - 1))
  where
    n : ℕ
    n = occurrences_of fs tag

    step : (same : Bool) (occ : ℕ) → is_none (field_named fs tag occ) ≡ (eqb occ 0 || ltb n occ)
        → is_none (field_named fs tag (occ - 1)) ≡ (eqb (occ - 1) 0 || ltb n (occ - 1))
        → is_none (cond same (cond (eqb occ 1) (some f.bytes) (field_named fs tag (occ - 1))) (field_named fs tag occ)) ≡ (eqb occ 0 || ltb (cond same (suc n) n) occ)
    step false occ now before = now
    step true zero now before = before
    step true (suc zero) now before = rw (le-ltb (suc n) 1 (omega arith))
    step true (suc (suc occ)) now before =
        let one : suc (suc occ) - 1 ≡ suc occ = omega arith in
        rw (ne_eqb (suc (suc occ)) 0 (λ z. omega arith), ne_eqb (suc (suc occ)) 1 (λ z. omega arith))
        (before ∙ rw (one, ne_eqb (suc occ) 0 (λ z. omega arith)) (one_more n (suc occ)))

none_is : (o : Option (List ℕ)) → is_none o ≡ true → none ≡ o
none_is none e = refl
none_is (some bytes) e = absurd (false_true e)

missing_out : (n occ : ℕ) → (eqb occ 0 || eqb n 0) ≡ true → (eqb occ 0 || ltb n occ) ≡ true
missing_out n zero e = refl
missing_out n (suc occ) e =
    let z : n ≡ 0 = eqb-true n 0 (rw (ne_eqb (suc occ) 0 (λ z. omega arith)) at e) in
    rw (ne_eqb (suc occ) 0 (λ z. omega arith), lt-ltb n (suc occ) (omega arith))

module _ (fs : List Field) (tag occ : ℕ) where
  named_missing : is_missing fs tag occ ≡ true → none ≡ field_named fs tag occ
  unfolding is_missing
  named_missing e = none_is _ (named_is tag fs occ ∙ missing_out (occurrences_of fs tag) occ e)

  named_fewer : is_fewer fs tag occ ≡ true → none ≡ field_named fs tag occ
  unfolding is_fewer
  named_fewer e = none_is _ (named_is tag fs occ ∙ rw e (or-true (eqb occ 0)))

  named_there : is_missing fs tag occ ≡ false → is_fewer fs tag occ ≡ false → is_none (field_named fs tag occ) ≡ false
  unfolding is_missing is_fewer
  named_there m f = named_is tag fs occ ∙ rw ((or_false (eqb occ 0) (eqb (occurrences_of fs tag) 0) m).0, f)

-- ---- the two questions, as facts on numbers

module _ (fs : List Field) (tag occ : ℕ) where
  pub missing_facts : is_missing fs tag occ ≡ true → (occurrences_of fs tag ≡ 0) ⊎ (occ ≡ 0)
  unfolding is_missing
  missing_facts e = by (eqb occ 0) refl
    where
      by : (b : Bool) → eqb occ 0 ≡ b → (occurrences_of fs tag ≡ 0) ⊎ (occ ≡ 0)
      by true z = inr (eqb-true occ 0 z)
      by false z = inl (eqb-true (occurrences_of fs tag) 0 (rw z at e))

  pub present_facts : is_missing fs tag occ ≡ false → (1 ≤ occurrences_of fs tag) × (1 ≤ occ)
  unfolding is_missing
  present_facts e =
      let q = or_false (eqb occ 0) (eqb (occurrences_of fs tag) 0) e in
      (some_of (occurrences_of fs tag) q.1, some_of occ q.0)
    where
      some_of : (n : ℕ) → eqb n 0 ≡ false → 1 ≤ n
      some_of n e = ⊎_elim (λ l. absurd (eqb-false n 0 e (omega arith))) (λ g. g) (lt_or_ge n 1)

  pub fewer_facts : is_fewer fs tag occ ≡ true → occurrences_of fs tag < occ
  unfolding is_fewer
  fewer_facts e = ltb-true (occurrences_of fs tag) occ e

  pub enough_facts : is_fewer fs tag occ ≡ false → occ ≤ occurrences_of fs tag
  unfolding is_fewer
  enough_facts e = ltb-false (occurrences_of fs tag) occ e

-- ---- what the search answers, by counting

pub data FoundBy (fs : List Field) (tag occ : ℕ) : Result Span NotFound → Type 0 where
  by_missing : is_missing fs tag occ ≡ true → FoundBy fs tag occ (Err Missing)
  by_fewer : is_missing fs tag occ ≡ false → is_fewer fs tag occ ≡ true → FoundBy fs tag occ (Err (Fewer (occurrences_of fs tag)))
  by_span : (s : Span) → is_missing fs tag occ ≡ false → is_fewer fs tag occ ≡ false → FoundBy fs tag occ (Ok s)

module _ (rec : List ℕ) (tag occ : ℕ) where
  -- where the walk along the directory finds it
  abbrev walked : Result Span NotFound
  walked = find_from rec (leader_of rec).base (leader_of rec).nvf 0 tag occ

  walked_is : found_bytes rec walked ≡ field_named (fields_of rec) tag occ
  unfolding fields_of
  walked_is = find_from_is rec (leader_of rec).base tag (leader_of rec).nvf 0 occ

  -- it finds one where the tag occurs so often
  walked_there : is_missing (fields_of rec) tag occ ≡ false → is_fewer (fields_of rec) tag occ ≡ false → found_bytes rec walked ≡ none → ⊥
  walked_there m f e = false_true (sym (named_there (fields_of rec) tag occ m f) ∙ ap is_none (sym walked_is ∙ e))

  pub found_by : FoundBy (fields_of rec) tag occ (find_of rec tag occ)
  unfolding find_of
  found_by = by (is_missing (fields_of rec) tag occ) refl (is_fewer (fields_of rec) tag occ) refl
    where
      last : (f : Result Span NotFound) → (found_bytes rec f ≡ none → ⊥) → is_missing (fields_of rec) tag occ ≡ false → is_fewer (fields_of rec) tag occ ≡ false → FoundBy (fields_of rec) tag occ f
      last (Ok s) h m f = by_span s m f
      last (Err n) h m f = absurd (h refl)

      by : (a : Bool) → is_missing (fields_of rec) tag occ ≡ a → (b : Bool) → is_fewer (fields_of rec) tag occ ≡ b
          → FoundBy (fields_of rec) tag occ (cond a (Err Missing) (cond b (Err (Fewer (occurrences_of (fields_of rec) tag))) walked))
      by true m b f = by_missing m
      by false m true f = by_fewer m f
      by false m false f = last walked (walked_there m f) m f

  pub find_field_is : found_bytes rec (find_of rec tag occ) ≡ field_named (fields_of rec) tag occ
  unfolding find_of
  find_field_is = by (is_missing (fields_of rec) tag occ) refl (is_fewer (fields_of rec) tag occ) refl
    where
      by : (a : Bool) → is_missing (fields_of rec) tag occ ≡ a → (b : Bool) → is_fewer (fields_of rec) tag occ ≡ b
          → found_bytes rec (cond a (Err Missing) (cond b (Err (Fewer (occurrences_of (fields_of rec) tag))) walked)) ≡ field_named (fields_of rec) tag occ
      by true m b f = named_missing (fields_of rec) tag occ m
      by false m true f = named_fewer (fields_of rec) tag occ f
      by false m false f = walked_is

-- ---- the turns of the loop

-- occurrences count from 1
pub find_no_occurrence : (rec : List ℕ) (tag occ : ℕ) → occ < 1 → Err Missing ≡ find_of rec tag occ
unfolding find_of is_missing
find_no_occurrence rec tag occ h = rw (eq-eqb occ 0 (omega arith))

-- of n entries those from i on are to come, and `left` occurrences to go: the others asked for were met before i
pub record Sought (rec : List ℕ) (tag occ base n i left : ℕ) : Type 0 where
  pub low : 1 ≤ left
  pub high : left ≤ occ
  pub before : i ≤ n
  pub met : occurrences_of (fields_of rec) tag ≡ occ - left + occurrences_of (fields_from rec base (n - i) i) tag
  pub walks : walked rec tag occ ≡ find_from rec base (n - i) i tag left

pub sought_none : (rec : List ℕ) (tag occ base n : ℕ) → 1 ≤ occ → base ≡ (leader_of rec).base → n ≡ (leader_of rec).nvf → Sought rec tag occ base n 0 occ
unfolding fields_of
sought_none rec tag occ base n h b k =
    let all : occurrences_of (fields_from rec base (n - 0) 0) tag ≡ occurrences_of (fields_of rec) tag = rw (b, k, sub-zero (leader_of rec).nvf) in
    record {
      low = h;
      high = omega arith;
      before = omega arith;
      met = omega arith;
      walks = rw (b, k, sub-zero (leader_of rec).nvf);
    }

find_step : (rec : List ℕ) (base n i tag left : ℕ) → i < n
    → find_from rec base (n - i) i tag left
    ≡ cond (eqb (tag_at rec i) tag)
    (cond (eqb left 1) (Ok (span_at rec base i)) (find_from rec base (n - (i + 1)) (i + 1) tag (left - 1)))
    (find_from rec base (n - (i + 1)) (i + 1) tag left)
unfolding find_from
find_step rec base n i tag left h = rw (rest_step n i h)

count_step : (rec : List ℕ) (base n i tag : ℕ) → i < n
    → occurrences_of (fields_from rec base (n - i) i) tag
    ≡ cond (eqb (tag_at rec i) tag) (suc (occurrences_of (fields_from rec base (n - (i + 1)) (i + 1)) tag)) (occurrences_of (fields_from rec base (n - (i + 1)) (i + 1)) tag)
unfolding occurrences_of fields_from
count_step rec base n i tag h = rw (rest_step n i h)

module _ (rec : List ℕ) (tag occ base n i left : ℕ) (inv : Sought rec tag occ base n i left) where
  abbrev total : ℕ
  total = occurrences_of (fields_of rec) tag

  module _ (over : n ≤ i) where
    -- no entry is left, so all that were met are all
    met_all : total ≡ occ - left
    unfolding occurrences_of fields_from
    met_all =
        let z : n - i ≡ 0 = omega arith in
        let rest : occurrences_of (fields_from rec base (n - i) i) tag ≡ 0 = rw z in
        omega (arith, inv.met)

    pub find_missing : occ - left ≤ 0 → Err Missing ≡ find_of rec tag occ
    unfolding find_of is_missing
    find_missing e = rw (eq-eqb total 0 (omega (arith, met_all)), or-true)

    pub find_fewer : 0 < occ - left → Err (Fewer (occ - left)) ≡ find_of rec tag occ
    unfolding find_of is_missing is_fewer
    find_fewer e =
        rw (
          met_all,
          ne_eqb occ 0 (λ z. omega (arith, inv.low, inv.high)),
          ne_eqb (occ - left) 0 (λ z. omega arith),
          lt-ltb (occ - left) occ (omega (arith, inv.low, inv.high)),
        )

  module _ (h : i < n) (t : ℕ) (e : t ≡ tag_at rec i) where
    pub find_other : (t ≡ tag → ⊥) → Sought rec tag occ base n (i + 1) left
    find_other b =
        record {
          low = inv.low;
          high = inv.high;
          before = omega arith;
          met = inv.met ∙ rw (count_step rec base n i tag h, ← e, ne_eqb t tag b);
          walks = inv.walks ∙ rw (find_step rec base n i tag left h, ← e, ne_eqb t tag b);
        }

    module _ (same : t ≡ tag) where
      pub find_later : (left ≡ 1 → ⊥) → Sought rec tag occ base n (i + 1) (left - 1)
      find_later b =
          record {
            low = omega (arith, inv.low);
            high = omega (arith, inv.high);
            before = omega arith;
            met = inv.met ∙ rw (count_step rec base n i tag h, ← e, eq-eqb t tag same) (omega (arith, inv.low, inv.high));
            walks = inv.walks ∙ rw (find_step rec base n i tag left h, ← e, eq-eqb t tag same, ne_eqb left 1 b);
          }

      pub find_here : (pos len : ℕ) → left ≡ 1 → pos ≡ pos_at rec i → len ≡ len_at rec i → Ok (record { start = base + pos; len = len }) ≡ find_of rec tag occ
      unfolding find_of is_missing is_fewer
      find_here pos len b p l =
          let more : total ≡ occ - left + suc (occurrences_of (fields_from rec base (n - (i + 1)) (i + 1)) tag) =
          inv.met ∙ rw (count_step rec base n i tag h, ← e, eq-eqb t tag same) in
          let enough : occ ≤ total = omega arith in
          rw (
            ne_eqb occ 0 (λ z. omega (arith, inv.low, inv.high)),
            ne_eqb total 0 (λ z. omega (arith, inv.low, inv.high)),
            le-ltb total occ enough,
            inv.walks,
            find_step rec base n i tag left h,
            ← e,
            ← p,
            ← l,
            eq-eqb t tag same,
            eq-eqb left 1 b,
          )
