-- What the calls that hand out all fields at once list of the version that they read. Each law's
-- premises are what is known at one place of the code, so that the check finds them there by
-- `list_answers`.
use Rattle.std.specs.Prelude.{Result, Ok, Err}
use Prim.Native.Nat.{ℕ, ◌-◌, ◌^◌, ◌≤◌, ◌<◌}
use native.Mathlib.Omega.{arith}
use mathlib.Core.Path.{◌≡◌, refl, ◌∙◌}
use mathlib.Core.Logic.{◌⊎◌, ⊎_elim}
use mathlib.Core.Bool.{Bool, true, false, cond}
use mathlib.Core.List.{List, [], ◌∷◌}
use lib.ListN.{length}
use borrow.Author.Tests.{le-leb, lt-leb}
use Rattle.word.specs.Overwrite.{part, overwrite}
use Rattle.word.proofs.Overwrite.{part_short}
use Rattle.layout.specs.Entry.{place_address}
use Rattle.layout.specs.Leader.{leader_of}
use Rattle.record.proofs.Facts.{readable_facts}
use Rattle.walking.specs.Inner.{Listable}
use Rattle.walking.specs.Walker.{tags_of, starts_of, lengths_of}
use Rattle.store.specs.Answer.{Row, refuse, lowest, after, give, Answer}
use Rattle.store.specs.Reading.{place_for, record_from}
use Rattle.store.specs.Store.{store}
use Rattle.store.specs.declared.answer.Refusal.{Refusal}
use Rattle.store.specs.declared.answer.Refusal.TheVariants.{NoRoomInList}
use Rattle.views.specs.Views.{on_current, on_settled, settled_address}
use Rattle.asking.specs.Listing.{Lists, lists, all_at_least, short_for, listed, counted, leaves, all_fields_answer, all_fields_of, all_fields_leaves, settled_all_fields_answer, settled_all_fields_of, settled_all_fields_leaves}
use Rattle.views.specs.Versions.{current_version, settled_version, ReadableAt}
use Rattle.asking.specs.Inner.{listed_in, left_in}
use Rattle.views.specs.declared.views.Version.{Version}
use Rattle.views.proofs.VersionAnswers.{settled_from, NoVersion, FoundVersion, current_none, current_there, settled_none, settled_there}

-- ---- the fields of a version

module _ (mst : List ℕ) (v : Version) (ts ss ls : List ℕ) (n : ℕ) (c : n ≡ (leader_of (part mst v.at (v.end - v.at))).nvf) where
  long : Bool
  long = all_at_least (leader_of (part mst v.at (v.end - v.at))).nvf (length ts) (length ss) (length ls)

  -- one of the lists is too short
  module _ (h : (length ts < n) ⊎ (((n ≤ length ts) × (length ss < n)) ⊎ ((n ≤ length ts) × (n ≤ length ss) × (length ls < n)))) where
    short : long ≡ false
    unfolding long all_at_least
    short =
        rw (← c)
        (⊎_elim
        (λ t. rw (lt-leb _ _ t))
        (λ o. ⊎_elim (λ s. rw (le-leb _ _ s.0, lt-leb _ _ s.1)) (λ l. rw (le-leb _ _ l.0, le-leb _ _ l.1, lt-leb _ _ l.2)) o)
        h)

    pub list_short : Err NoRoomInList ≡ listed_in mst v (lists ts ss ls)
    unfolding listed_in give long
    list_short = rw short

    pub left_short : lists ts ss ls ≡ left_in mst v (lists ts ss ls)
    unfolding left_in after long
    left_short = rw short

  -- each of them is long enough
  module _ (p : n ≤ length ts) (q : n ≤ length ss) (r : n ≤ length ls) where
    enough : long ≡ true
    unfolding long all_at_least
    enough = rw (← c, le-leb _ _ p, le-leb _ _ q, le-leb _ _ r)

    pub list_done : (k : ℕ) → k ≡ (leader_of (part mst v.at (v.end - v.at))).nvf → Ok k ≡ listed_in mst v (lists ts ss ls)
    unfolding listed_in give long
    list_done k d = rw (d, enough)

    pub left_done : (t s u : List ℕ) → t ≡ overwrite ts 0 (tags_of (part mst v.at (v.end - v.at))) → s ≡ overwrite ss 0 (starts_of v.at (part mst v.at (v.end - v.at)))
        → u ≡ overwrite ls 0 (lengths_of (part mst v.at (v.end - v.at))) → lists t s u ≡ left_in mst v (lists ts ss ls)
    unfolding left_in after long
    left_done t s u d e f = rw (d, e, f, enough)

    pub list_able : ReadableAt mst v.at v.end → length mst < 2 ^ 64 → Listable (part mst v.at (v.end - v.at)) n v.at ts ss ls
    list_able g m =
        record {
          readable = g.readable;
          counted = c;
          tags_long = omega (arith, c);
          starts_long = omega (arith, c);
          lens_long = omega (arith, c);
          fits = omega (arith, m, g.end_in, g.before, (readable_facts g.readable).record_in, part_short mst v.at (v.end - v.at));
        }

-- ---- a call

-- one more answer: 17 where a list is too short
abbrev too_short : List ℕ → Lists → List Row
too_short rec l = refuse NoRoomInList (short_for rec l) ∷ []

listed_row : (rec : List ℕ) (l : Lists) → listed (give (lowest (too_short rec l)) (leader_of rec).nvf) ≡ counted (lowest (too_short rec l)) rec
unfolding give after
listed_row rec l = by (short_for rec l)
  where
    by : (b : Bool) → listed (give (cond b (Err NoRoomInList) (Ok tt)) (leader_of rec).nvf) ≡ counted (cond b (Err NoRoomInList) (Ok tt)) rec
    by true = refl
    by false = refl

module _ (mst : List ℕ) (table : List Row → List Row) (at : ℕ) (l : Lists) where
  abbrev asked : Answer
  asked = lowest (table (too_short (record_from mst at) l))

  -- a refused call counts nothing, and leaves the lists
  unversioned : (e : Refusal) → NoVersion table e
      → (listed (Err e) ≡ counted asked (record_from mst at)) × (l ≡ leaves asked at (record_from mst at) l)
  unfolding after
  unversioned e n = let a = n.answers (too_short (record_from mst at) l) in (rw a refl, rw a refl)

  versioned : (v : Version) → FoundVersion mst table at v
      → (listed (listed_in mst v l) ≡ counted asked (record_from mst at)) × (left_in mst v l ≡ leaves asked at (record_from mst at) l)
  unfolding listed_in left_in
  versioned v n =
      let a = n.answers (too_short (record_from mst at) l) in
      (rw (a, n.at_is, n.end_is) (listed_row (record_from mst at) l), rw (a, n.at_is, n.end_is) refl)

module _ (mst xrf : List ℕ) (m : ℕ) (l : Lists) (x : Result Version Refusal) (p : x ≡ current_version (store mst xrf) m) where
  module _ (e : Refusal) (q : x ≡ Err e) where
    refused : (listed (Err e) ≡ all_fields_of (store mst xrf) m l) × (l ≡ all_fields_leaves (store mst xrf) m l)
    unfolding all_fields_of all_fields_leaves all_fields_answer
    refused = unversioned mst (on_current (store mst xrf) m) (place_address (place_for (store mst xrf) m)) l e (current_none mst xrf m x p e q)

    pub fields_refused : listed (Err e) ≡ all_fields_of (store mst xrf) m l
    fields_refused = refused.0

    pub fields_kept : l ≡ all_fields_leaves (store mst xrf) m l
    fields_kept = refused.1

  module _ (v : Version) (q : x ≡ Ok v) where
    done : (listed (listed_in mst v l) ≡ all_fields_of (store mst xrf) m l) × (left_in mst v l ≡ all_fields_leaves (store mst xrf) m l)
    unfolding all_fields_of all_fields_leaves all_fields_answer
    done = versioned mst (on_current (store mst xrf) m) (place_address (place_for (store mst xrf) m)) l v (current_there mst xrf m x p v q)

    pub fields_are : (r : Result ℕ Refusal) → r ≡ listed_in mst v l → listed r ≡ all_fields_of (store mst xrf) m l
    fields_are r s = rw s done.0

    pub fields_left : (k : Lists) → k ≡ left_in mst v l → k ≡ all_fields_leaves (store mst xrf) m l
    fields_left k s = s ∙ done.1

module _ (mst xrf : List ℕ) (m : ℕ) (l : Lists) (x : Result Version Refusal) (p : x ≡ settled_version (store mst xrf) m) where
  module _ (e : Refusal) (q : x ≡ Err e) where
    settled_refused : (listed (Err e) ≡ settled_all_fields_of (store mst xrf) m l) × (l ≡ settled_all_fields_leaves (store mst xrf) m l)
    unfolding settled_all_fields_of settled_all_fields_leaves settled_all_fields_answer
    settled_refused =
        rw (← settled_from mst (place_for (store mst xrf) m))
        (unversioned mst (on_settled (store mst xrf) m) (settled_address mst (place_for (store mst xrf) m)) l e (settled_none mst xrf m x p e q))

    pub settled_fields_refused : listed (Err e) ≡ settled_all_fields_of (store mst xrf) m l
    settled_fields_refused = settled_refused.0

    pub settled_fields_kept : l ≡ settled_all_fields_leaves (store mst xrf) m l
    settled_fields_kept = settled_refused.1

  module _ (v : Version) (q : x ≡ Ok v) where
    settled_done : (listed (listed_in mst v l) ≡ settled_all_fields_of (store mst xrf) m l) × (left_in mst v l ≡ settled_all_fields_leaves (store mst xrf) m l)
    unfolding settled_all_fields_of settled_all_fields_leaves settled_all_fields_answer
    settled_done =
        rw (← settled_from mst (place_for (store mst xrf) m))
        (versioned mst (on_settled (store mst xrf) m) (settled_address mst (place_for (store mst xrf) m)) l v (settled_there mst xrf m x p v q))

    pub settled_fields_are : (r : Result ℕ Refusal) → r ≡ listed_in mst v l → listed r ≡ settled_all_fields_of (store mst xrf) m l
    settled_fields_are r s = rw s settled_done.0

    pub settled_fields_left : (k : Lists) → k ≡ left_in mst v l → k ≡ settled_all_fields_leaves (store mst xrf) m l
    settled_fields_left k s = s ∙ settled_done.1

pub ruleset list_answers =
    (list_short, left_short, list_done, left_done, list_able, fields_refused, fields_kept, fields_are, fields_left, settled_fields_refused, settled_fields_kept, settled_fields_are, settled_fields_left)
