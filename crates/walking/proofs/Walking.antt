-- The walk over a record's fields. A walk hands out the record's fields, in directory order, and no more; what stands at an index is the
-- field of that number, or nothing; and it lies in the record. Then the laws that the steps' own proofs are made of.
use Prim.Native.Nat.{ℕ, zero, suc, ◌+◌, ◌*◌, ◌-◌, ◌<◌, ◌≤◌}
use native.Mathlib.Nat.{add-zero, sub-zero, zero-add, le_refl}
use native.Mathlib.Numerals.{add-one}
use native.Mathlib.Omega.{arith}
use mathlib.Core.Path.{◌≡◌, refl, ap, ◌∙◌}
use mathlib.Core.Bool.{Bool, true, false, cond}
use mathlib.Core.List.{List, [], ◌∷◌, ◌++◌, map}
use lib.ListN.{length, get_or, take, drop, set, length-map, length-append}
use lib.Seq.{drop-nil}
use borrow.Author.Tests.{le-leb, lt-leb, leb-false}
use Rattle.word.specs.Overwrite.{overwrite}
use Rattle.word.proofs.Overwrite.{overwrite_none, overwrite_more, overwrite_length}
use Rattle.layout.specs.Leader.{leader_of}
use Rattle.layout.specs.declared.sizes.Tag.{Tag}
use Rattle.record.specs.Directory.{tag_at, pos_at, len_at, directory_right}
use Rattle.record.specs.Fields.{field_at, fields_from, fields_of}
use Rattle.record.specs.Record.{Readable}
use Rattle.walking.specs.Walker.{at_end, spot_at, field_in, spots_before, spots_from, spots_of, walked_at, walked_fields}
use Rattle.walking.specs.declared.walker.Spot.{Spot}
use Rattle.std.proofs.Common.{Some, None}
use Rattle.std.specs.List.{enumerate_from}
use Rattle.record.proofs.Facts.{entry_facts, readable_facts}

-- ---- a walk hands out the record's fields

fields_more : (rec : List ℕ) (base k i : ℕ) → fields_from rec base (suc k) i ≡ fields_from rec base k i ++ (field_at rec base (i + k) ∷ [])
unfolding fields_from
fields_more rec base zero i = rw (add-zero i)
fields_more rec base (suc k) i =
    let e : i + suc k ≡ i + 1 + k = omega arith in
    rw (e, ← fields_more rec base k (i + 1))

map_snoc : {A B : Type 0} (f : A → B) (xs : List A) (x : A) → map f (xs ++ (x ∷ [])) ≡ map f xs ++ (f x ∷ [])
map_snoc f [] x = refl
map_snoc f (y ∷ xs) x = rw (map_snoc f xs x)

none : (rec : List ℕ) (base : ℕ) → [] ≡ fields_from rec base 0 0
unfolding fields_from
none rec base = refl

spots_before_lem : (rec : List ℕ) (k : ℕ) → map (field_in rec) (spots_before rec k) ≡ fields_from rec (leader_of rec).base k 0
unfolding spots_before
spots_before_lem rec zero = none rec (leader_of rec).base
spots_before_lem rec (suc k) =
    rw (map_snoc (field_in rec) (spots_before rec k) (spot_at rec k), spots_before_lem rec k, fields_more rec (leader_of rec).base k 0, zero-add k)

-- they are the record's fields, in directory order: each by its tag and by the bytes that lie there
pub spots_are : (rec : List ℕ) → map (field_in rec) (spots_of rec) ≡ fields_of rec
unfolding fields_of
spots_are rec = spots_before_lem rec (leader_of rec).nvf

before_length : (rec : List ℕ) (k : ℕ) → length (spots_before rec k) ≡ k
unfolding spots_before
before_length rec zero = refl
before_length rec (suc k) = rw (length-append, before_length rec k) (add-one k)

before_more : (rec : List ℕ) (k : ℕ) → spots_before rec k ++ (spot_at rec k ∷ []) ≡ spots_before rec (k + 1)
unfolding spots_before
before_more rec k = rw (add-one k)

-- and as many as the leader says
pub spots_length : (rec : List ℕ) → length (spots_of rec) ≡ (leader_of rec).nvf
spots_length rec = before_length rec (leader_of rec).nvf

-- ---- what stands at an index

pub walked_past : (rec : List ℕ) (i : ℕ) → (leader_of rec).nvf ≤ i → walked_at rec i ≡ None
unfolding walked_at
walked_past rec i h = rw (le-leb _ _ h)

pub walked_here : (rec : List ℕ) (i : ℕ) → i < (leader_of rec).nvf
    → walked_at rec i ≡ Some (spot_at rec i)
unfolding walked_at
walked_here rec i h = rw (lt-leb _ _ h)

walked_from : (rec : List ℕ) (k j i : ℕ) → j + k ≡ (leader_of rec).nvf
    → walked_fields rec (walked_at rec (j + i)) ≡ take 1 (drop i (fields_from rec (leader_of rec).base k j))
unfolding fields_from
walked_from rec zero j i e = rw (walked_past rec (j + i) (omega arith), drop-nil)
walked_from rec (suc k) j zero e = rw (add-zero j, walked_here rec j (omega arith))
walked_from rec (suc k) j (suc i) e =
    let z : j + suc i ≡ j + 1 + i = omega arith in
    rw z (walked_from rec k (j + 1) i (omega arith))

-- it is the record's field of that number, counted from 0, or nothing past the last one
pub walked_is : (rec : List ℕ) (i : ℕ) → walked_fields rec (walked_at rec i) ≡ take 1 (drop i (fields_of rec))
unfolding fields_of
walked_is rec i = simp zero-add at (walked_from rec (leader_of rec).nvf 0 i (zero-add _))

-- ---- it lies in the record

entry_in : (rec : List ℕ) (room k i pos j : ℕ) → directory_right rec room k i pos ≡ true → j < k → pos_at rec (i + j) + len_at rec (i + j) ≤ room
entry_in rec room zero i pos j d h = absurd (omega arith)
entry_in rec room (suc k) i pos zero d h = let f = entry_facts rec room k i pos d in rw (add-zero i) (omega arith)
entry_in rec room (suc k) i pos (suc j) d h =
    let f = entry_facts rec room k i pos d in
    let e : i + suc j ≡ i + 1 + j = omega arith in
    rw e (entry_in rec room k (i + 1) (pos + len_at rec i) j f.rest (omega arith))

module _ (rec : List ℕ) (i : ℕ) (r : Readable rec) (h : i < (leader_of rec).nvf) where
  pub field_in_lem : (leader_of rec).base + pos_at rec i + len_at rec i ≤ (leader_of rec).mfrl
  field_in_lem =
      let room : ℕ = (leader_of rec).mfrl - (leader_of rec).base in
      let e : pos_at rec i + len_at rec i ≤ room = simp zero-add at (entry_in rec room (leader_of rec).nvf 0 0 i (readable_facts r).directory h) in
      omega (arith, (readable_facts r).base_in)

  pub entry_within : 24 + 6 * i ≤ length rec
  entry_within = omega (arith, h, (readable_facts r).base_is, (readable_facts r).base_in, (readable_facts r).record_in)

-- so does every field that a walk hands out
abbrev pub Within : ℕ → List Spot → Type 0
Within n [] = Unit {0}
Within n (s ∷ ss) = (s.start + s.len ≤ n) × Within n ss

within_snoc : (n : ℕ) (ss : List Spot) (s : Spot) → Within n ss → s.start + s.len ≤ n → Within n (ss ++ (s ∷ []))
within_snoc n [] s w h = (h, tt)
within_snoc n (t ∷ ss) s w h = (w.0, within_snoc n ss s w.1 h)

none_within : (rec : List ℕ) (n : ℕ) → Within n (spots_before rec 0)
unfolding spots_before
none_within rec n = tt

pub spots_within : (rec : List ℕ) → Readable rec → Within (leader_of rec).mfrl (spots_of rec)
spots_within rec r = before (leader_of rec).nvf (le_refl _)
  where
    before : (k : ℕ) → k ≤ (leader_of rec).nvf → Within (leader_of rec).mfrl (spots_before rec k)
    before zero h = none_within rec (leader_of rec).mfrl
    before (suc k) h =
        rw (← add-one k, ← before_more rec k)
        (within_snoc (leader_of rec).mfrl (spots_before rec k) (spot_at rec k) (before k (omega arith)) (field_in_lem rec k r (omega arith)))

walked_cases : (b : Bool) (s t : Spot) → cond b None (Some s) ≡ Some t → (b ≡ false) × (s ≡ t)
walked_cases true s t p = absurd (cc)
walked_cases false s t p = (refl, (cc))

pub walked_in_lem : (rec : List ℕ) (i : ℕ) (s : Spot) → Readable rec → walked_at rec i ≡ Some s → s.start + s.len ≤ (leader_of rec).mfrl
unfolding walked_at
walked_in_lem rec i s r p =
    let q = walked_cases (at_end rec i) (spot_at rec i) s p in
    rw (← q.1) (field_in_lem rec i r (leb-false _ _ q.0))

-- ---- what a walk has left

pub spots_past : (rec : List ℕ) (n i : ℕ) → n ≤ i → spots_from rec (n - i) i ≡ []
unfolding spots_from
spots_past rec n i h = let z : n - i ≡ 0 = omega arith in rw z

pub spots_next : (rec : List ℕ) (n i : ℕ) → i < n → spots_from rec (n - i) i ≡ spot_at rec i ∷ spots_from rec (n - (i + 1)) (i + 1)
unfolding spots_from
spots_next rec n i h = let z : n - i ≡ suc (n - (i + 1)) = omega arith in rw z

pub left_length : (rec : List ℕ) (k i : ℕ) → length (spots_from rec k i) ≡ k
unfolding spots_from
left_length rec zero i = refl
left_length rec (suc k) i = ap suc (left_length rec k (i + 1))

left_more : (rec : List ℕ) (k i : ℕ) → spots_from rec (suc k) i ≡ spots_from rec k i ++ (spot_at rec (i + k) ∷ [])
unfolding spots_from
left_more rec zero i = rw (add-zero i)
left_more rec (suc k) i =
    let e : i + suc k ≡ i + 1 + k = omega arith in
    rw (e, ← left_more rec k (i + 1))

-- from the first field on it is all that a walk hands out
pub left_is : (rec : List ℕ) (k : ℕ) → spots_from rec k 0 ≡ spots_before rec k
unfolding spots_from spots_before
left_is rec zero = refl
left_is rec (suc k) = rw (left_more rec k 0, left_is rec k, zero-add k)

pub walk_new : (rec : List ℕ) (n : ℕ) → n ≡ (leader_of rec).nvf → spots_from rec (n - 0) 0 ≡ spots_of rec
walk_new rec n e = rw (sub-zero n, e, left_is)

-- numbered from n on, the one at j is that of index i + j
numbered_at : (rec : List ℕ) (k n i j : ℕ) (d : ℕ × Spot) → j < k → get_or (enumerate_from n (spots_from rec k i)) j d ≡ (n + j, spot_at rec (i + j))
unfolding spots_from
numbered_at rec zero n i j d h = absurd (omega arith)
numbered_at rec (suc k) n i zero d h = rw (add-zero n, add-zero i)
numbered_at rec (suc k) n i (suc j) d h =
    let a : n + suc j ≡ n + 1 + j = omega arith in
    let b : i + suc j ≡ i + 1 + j = omega arith in
    rw (a, b) (numbered_at rec k (n + 1) (i + 1) j d (omega arith))

pub numbered : (rec : List ℕ) (k j : ℕ) (d : ℕ × Spot) → j < k → get_or (enumerate_from 0 (spots_from rec k 0)) j d ≡ (j, spot_at rec j)
numbered rec k j d h = simp zero-add at (numbered_at rec k 0 0 j d h)

numbered_length_from : (rec : List ℕ) (k n i : ℕ) → length (enumerate_from n (spots_from rec k i)) ≡ k
unfolding spots_from
numbered_length_from rec zero n i = refl
numbered_length_from rec (suc k) n i = ap suc (numbered_length_from rec k (n + 1) (i + 1))

pub numbered_length : (rec : List ℕ) (k : ℕ) → length (enumerate_from 0 (spots_from rec k 0)) ≡ k
numbered_length rec k = numbered_length_from rec k 0 0

-- ---- lists of them: what the first k fields give, written over a list's front

unfoldable pub written : (Spot → ℕ) → List ℕ → ℕ → List ℕ → List ℕ
written f rec k d = overwrite d 0 (map f (spots_before rec k))

module _ (f : Spot → ℕ) (rec : List ℕ) (d : List ℕ) where
  pub written_none : written f rec 0 d ≡ d
  unfolding written spots_before
  written_none = overwrite_none d 0

  pub written_all : written f rec (leader_of rec).nvf d ≡ overwrite d 0 (map f (spots_of rec))
  unfolding written
  written_all = refl

  module _ (k : ℕ) where
    seen : length (map f (spots_before rec k)) ≡ k
    seen = length-map (spots_before rec k) f ∙ before_length rec k

    pub written_length : k ≤ length d → length (written f rec k d) ≡ length d
    unfolding written
    written_length h = overwrite_length d 0 (map f (spots_before rec k)) (omega (arith, seen))

    -- the next one, stored right behind
    pub written_more : k < length d → set (written f rec k d) k (f (spot_at rec k)) ≡ written f rec (k + 1) d
    unfolding written
    written_more h =
        let e : 0 + length (map f (spots_before rec k)) ≡ k = omega (arith, seen) in
        rw e at (overwrite_more d 0 (map f (spots_before rec k)) (f (spot_at rec k)) (omega (arith, seen)))
        ∙ rw (← map_snoc f (spots_before rec k) (spot_at rec k), before_more rec k)

-- ---- the steps: `search walk_answers` finds the premises among what was read

module _ (rec : List ℕ) (i n : ℕ) (c : n ≡ (leader_of rec).nvf) where
  -- a directory of that many entries fits in the record
  pub count_small : Readable rec → 6 * n < 65536
  count_small r = omega (arith, c, (readable_facts r).base_is, (readable_facts r).base_in, (readable_facts r).short)

  pub spot_is : (pos len : ℕ) (tag : Tag) → Readable rec → pos ≡ pos_at rec i → len ≡ len_at rec i → tag.0 ≡ tag_at rec i
      → record { tag = tag; start = 18 + 6 * n + pos; len = len } ≡ spot_at rec i
  spot_is pos len tag r p l t = rw (c, ← (readable_facts r).base_is, p, l, ← t)

pub ruleset walk_answers = (count_small, entry_within, spot_is)
