-- WHICH ENTRY the record test tells. The entries from i on, after the lengths of the first i, are all right and the number is 0, or there is a first
-- that is not, and the number is its: one induction (`broken_cases`). That and what makes a directory right give every claim.
use Prim.Native.Nat.{ℕ, zero, suc, ◌+◌, ◌-◌, ◌≤◌, ◌<◌}
use native.Mathlib.Nat.{eq-or-lt_of_le}
use native.Mathlib.Omega.{arith}
use mathlib.Core.Path.{◌≡◌, refl, sym, ◌∙◌}
use mathlib.Core.Logic.{◌↔◌, ◌⊎◌, inl, inr, ⊎_elim}
use mathlib.Core.Bool.{Bool, true, false, ◌&&◌, cond}
use mathlib.Core.List.{List}
use lib.ListN.{length}
use borrow.Author.Tests.{eqb-true, eq-eqb}
use Rattle.word.proofs.Tests.{false_true}
use Rattle.word.proofs.Overwrite.{lt_or_ge}
use Rattle.layout.specs.Leader.{leader_of}
use Rattle.layout.specs.declared.entry.Place.{Place}
use Rattle.record.specs.Directory.{Widths, isis, len_in, entry_right, entries_right, directory_right, first_broken}
use Rattle.record.specs.Record.{fields_right, fields_broken, back_fine, well_formed, leader_right, record_right, broken_entry}
use Rattle.record.specs.Theorems.{lengths_of, number_right, FirstWrong, WhichEntry, TellsWhich}
use Rattle.record.proofs.Facts.{well_formed_both}
use Rattle.record.proofs.DirectoryTest.{right_none}

module _ (w : Widths) (rec : List ℕ) (room : ℕ) where
  -- entry i, counted from 0, after the lengths before it
  abbrev right : ℕ → Bool
  right i = entry_right w rec room i (lengths_of w rec i)

  -- the k entries from i on
  abbrev number : ℕ → ℕ → ℕ
  number k i = first_broken w rec room k i (lengths_of w rec i)

  -- one of the k entries from i on is the first that is not right, and its number is told
  record Met (k i : ℕ) : Type 0 where
    at : ℕ
    from : i ≤ at
    inside : at < i + k
    told : number k i ≡ at + 1
    wrong : right at ≡ false
    earlier : (j : ℕ) → i ≤ j → j < at → right j ≡ true

  -- all are right, and the number is 0
  record Clean (k i : ℕ) : Type 0 where
    told : number k i ≡ 0
    all : (j : ℕ) → i ≤ j → j < i + k → right j ≡ true

  lengths_more : (i : ℕ) → lengths_of w rec (i + 1) ≡ lengths_of w rec i + len_in w rec i
  unfolding lengths_of
  lengths_more i = let z : i + 1 ≡ suc i = omega arith in rw z

  -- one entry more before them
  number_step : (k i : ℕ) → number (suc k) i ≡ cond (right i) (number k (i + 1)) (i + 1)
  unfolding first_broken
  number_step k i = rw (lengths_more i)

  module _ (k i : ℕ) where
    -- what holds of entry i and of those behind it
    from_here : {P : ℕ → Type 0} (last : ℕ) → P i → ((j : ℕ) → i + 1 ≤ j → j < last → P j) → (j : ℕ) → i ≤ j → j < last → P j
    from_here {P} last here behind j a b = ⊎_elim (λ (z : i ≡ j). rw (← z) here) (λ (z : i < j). behind j (omega arith) b) (eq-or-lt_of_le a)

    clean_more : right i ≡ true → Clean k (i + 1) → Clean (suc k) i
    clean_more e c =
        record {
          told = rw (number_step k i, e, c.told);
          all = from_here (i + suc k) e (λ j a b. c.all j a (omega arith));
        }

    met_later : right i ≡ true → Met k (i + 1) → Met (suc k) i
    met_later e c =
        record {
          at = c.at;
          from = omega (arith, c.from);
          inside = omega (arith, c.inside);
          told = rw (number_step k i, e, c.told);
          wrong = c.wrong;
          earlier = from_here c.at e c.earlier;
        }

    met_here : right i ≡ false → Met (suc k) i
    met_here e =
        record {
          at = i;
          from = omega arith;
          inside = omega arith;
          told = rw (number_step k i, e);
          wrong = e;
          earlier = λ j a b. absurd (omega arith);
        }

    cases_step : (b : Bool) → right i ≡ b → Clean k (i + 1) ⊎ Met k (i + 1) → Clean (suc k) i ⊎ Met (suc k) i
    cases_step true e q = ⊎_elim (λ c. inl (clean_more e c)) (λ c. inr (met_later e c)) q
    cases_step false e q = inr (met_here e)

  broken_cases : (k i : ℕ) → Clean k i ⊎ Met k i
  unfolding first_broken
  broken_cases zero i = inl (record { told = refl; all = λ j a b. absurd (omega arith) })
  broken_cases (suc k) i = cases_step k i (right i) refl (broken_cases k (i + 1))

  -- ---- the whole directory

  module _ (nvf : ℕ) where
    none_right : (number nvf 0 ≡ 0) ↔ (entries_right w rec room nvf 0 0 ≡ true)
    unfolding lengths_of
    none_right = (
      (λ e. right_none w rec room nvf 0 0 ∙ eq-eqb (number nvf 0) 0 e),
      (λ e. eqb-true (number nvf 0) 0 (sym (right_none w rec room nvf 0 0) ∙ e)),
    )

    -- where the number is 0, each entry is right; where it is another, one is not
    zero_all : number nvf 0 ≡ 0 → (n : ℕ) → 1 ≤ n → n ≤ nvf → number_right w rec room n ≡ true
    zero_all e n a b =
        ⊎_elim
        (λ c. c.all (n - 1) (omega arith) (omega arith))
        (λ c. absurd (omega (arith, c.told)))
        (broken_cases nvf 0)

    -- an entry by its place and by its number
    by_number : (i : ℕ) (b : Bool) → right i ≡ b → number_right w rec room (i + 1) ≡ b
    by_number i b e = let z : i + 1 - 1 ≡ i = omega arith in rw z e

    all_zero : ((n : ℕ) → 1 ≤ n → n ≤ nvf → number_right w rec room n ≡ true) → number nvf 0 ≡ 0
    all_zero f =
        ⊎_elim
        (λ c. c.told)
        (λ c. absurd (false_true (sym (by_number c.at false c.wrong) ∙ f (c.at + 1) (omega arith) (omega (arith, c.inside)))))
        (broken_cases nvf 0)

    met_first : (n : ℕ) → 1 ≤ n → number nvf 0 ≡ n → Met nvf 0 → FirstWrong w rec room nvf n
    met_first n l e c =
        let z : n - 1 ≡ c.at = omega (arith, c.told) in
        record {
          low = l;
          high = omega (arith, c.told, c.inside);
          wrong = rw z c.wrong;
          earlier = λ j a b. c.earlier (j - 1) (omega arith) (omega (arith, c.told));
        }

    told_first : (n : ℕ) → 1 ≤ n → number nvf 0 ≡ n → FirstWrong w rec room nvf n
    told_first n l e = ⊎_elim (λ c. absurd (omega (arith, c.told))) (met_first n l e) (broken_cases nvf 0)

    -- two entries that are both the first that is not right are one
    same_first : (n : ℕ) → FirstWrong w rec room nvf n → (k : ℕ) → FirstWrong w rec room nvf k → k < n → ⊥
    same_first n f k g h = false_true (sym g.wrong ∙ f.earlier k g.low h)

    first_told : (n : ℕ) → FirstWrong w rec room nvf n → number nvf 0 ≡ n
    first_told n f = ⊎_elim (λ c. absurd (false_true (sym f.wrong ∙ zero_all c.told n f.low f.high))) met (broken_cases nvf 0)
      where
        met : Met nvf 0 → number nvf 0 ≡ n
        met c =
            let g : FirstWrong w rec room nvf (number nvf 0) = met_first (number nvf 0) (omega (arith, c.told)) refl c in
            ⊎_elim
            (λ (l : number nvf 0 < n). absurd (same_first n f (number nvf 0) g l))
            (λ (k : n ≤ number nvf 0). ⊎_elim (λ (z : n ≡ number nvf 0). sym z) (λ (l : n < number nvf 0). absurd (same_first (number nvf 0) g n f l)) (eq-or-lt_of_le k))
            (lt_or_ge (number nvf 0) n)

    pub which_entry : WhichEntry w rec room nvf
    unfolding lengths_of
    which_entry =
        record {
          every = ((λ e. zero_all (none_right.1 e)), (λ f. none_right.0 (all_zero f)));
          none = none_right;
          first = λ n l. (told_first n l, first_told n);
        }

-- ---- a record

module _ (rec : List ℕ) (m : ℕ) (deleted : Bool) where
  abbrev leader : Bool
  leader = leader_right m deleted (length rec) (leader_of rec)

  fields : WhichEntry isis rec ((leader_of rec).mfrl - (leader_of rec).base) (leader_of rec).nvf
  fields = which_entry isis rec ((leader_of rec).mfrl - (leader_of rec).base) (leader_of rec).nvf

  with_back : (end : ℕ) (p : Place) → p.deleted ≡ deleted → well_formed rec end m p ≡ (record_right rec m deleted && back_fine end p (leader_of rec))
  with_back end p d = rw (← d) (well_formed_both rec end m p)

  -- a leader that passes leaves the fields to say it
  module _ (e : leader ≡ true) where
    as_fields : record_right rec m deleted ≡ fields_right rec (leader_of rec)
    unfolding record_right
    as_fields = rw e

    told_fields : broken_entry rec m deleted ≡ fields_broken rec (leader_of rec)
    unfolding broken_entry
    told_fields = rw e

    leader_passes : TellsWhich rec m deleted
    unfolding directory_right
    leader_passes =
        record {
          passes =
              ((λ h. (e, told_fields ∙ fields.none.1 (sym as_fields ∙ h))), (λ q. as_fields ∙ fields.none.0 (sym told_fields ∙ q.1)));
          none = (
            (λ h. inl (as_fields ∙ fields.none.0 (sym told_fields ∙ h))),
            (λ q. ⊎_elim (λ h. told_fields ∙ fields.none.1 (sym as_fields ∙ h)) (λ h. absurd (false_true (sym h ∙ e))) q),
          );
          first = λ n l. ((λ h. (e, (fields.first n l).0 (sym told_fields ∙ h))), (λ q. told_fields ∙ (fields.first n l).1 q.1));
          whole = with_back;
        }

  -- one that fails says it all
  module _ (e : leader ≡ false) where
    not_right : record_right rec m deleted ≡ false
    unfolding record_right
    not_right = rw e

    told_none : broken_entry rec m deleted ≡ 0
    unfolding broken_entry
    told_none = rw e

    leader_fails : TellsWhich rec m deleted
    leader_fails =
        record {
          passes = ((λ h. absurd (false_true (sym not_right ∙ h))), (λ q. absurd (false_true (sym e ∙ q.0))));
          none = ((λ h. inr e), (λ q. told_none));
          first = λ n l. ((λ h. absurd (omega (arith, h, told_none))), (λ q. absurd (false_true (sym e ∙ q.0))));
          whole = with_back;
        }

  pub tells_which : TellsWhich rec m deleted
  tells_which = by leader refl
    where
      by : (b : Bool) → leader ≡ b → TellsWhich rec m deleted
      by true e = leader_passes e
      by false e = leader_fails e
