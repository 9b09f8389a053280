-- Inner: what a cursor stands for, the postings that are still to come and whether they can be read, and the run at which it stands: those of
-- them that stand in one block, eight bytes apart.
use Rattle.std.specs.Prelude.{ℕ, zero, suc, ◌+◌, ◌*◌, ◌-◌, ◌/◌, ◌%◌, min, ◌≤◌, ◌<◌, ◌≡◌, Bool, true, false, ◌&&◌, cond, List, [], ◌∷◌, ◌++◌, eqb, length, Option, Some, None, Result, Ok, Err}
use Rattle.posting.specs.Posting.{posting_at}
use Rattle.posting.specs.declared.answer.Refusal.{Refusal}
use Rattle.postings.specs.Segment.{is_end, run, run_inside}
use Rattle.postings.specs.Rules.{segments_from, ends_within, postings_of, headers_inside, counts_right, postings_inside, above, list_of, list_right}
use Rattle.postings.specs.declared.segment.Place.{Place}
use Rattle.postings.specs.declared.cursor.Cursor.{Cursor}
use Rattle.postings.specs.declared.list.Opened.{Opened}

-- ---- what is still to come

-- the segments behind one whose next place is q, k at most
unfoldable pub segments_after : List ℕ → ℕ → Place → List Place
segments_after f k q = cond (is_end q) [] (segments_from f k q)

-- they end, and headers, counts and postings are right
unfoldable pub segments_right : List ℕ → ℕ → Place → Bool
segments_right f k q =
    cond (is_end q) true (ends_within f k q)
    && headers_inside f (segments_after f k q)
    && counts_right f (segments_after f k q)
    && postings_inside f (segments_after f k q)

-- the postings still to come
unfoldable pub rest_of : List ℕ → Cursor → List ℕ
rest_of f c = run f c.left c.at ++ postings_of f (segments_after f c.fuel c.next)

-- they are inside the file, and so are the headers on the way
unfoldable pub stands_right : List ℕ → Cursor → Bool
stands_right f c = run_inside (length f) c.left c.at && segments_right f c.fuel c.next

-- there is room for a posting in the block, from the cursor's place on, which is not far behind the file
abbrev pub InBlock : List ℕ → Cursor → Type 0
InBlock f c = (c.at % 512 ≤ 504) × (c.at ≤ length f + 516)

-- the least posting that may come next, after the last one, if there is one
abbrev pub floor_of : Option ℕ → ℕ
floor_of None = 0
floor_of (Some last) = suc last

-- what is still to come keeps all rules, with so many postings due, from a floor on
unfoldable pub keeps_rules : List ℕ → Cursor → ℕ → ℕ → Bool
keeps_rules f c due floor = stands_right f c && above floor (rest_of f c) && eqb due (length (rest_of f c))

-- d is the cursor c moved on to the next posting, over empty segments
pub record Reached (f : List ℕ) (c d : Cursor) : Type 0 where
  pub some : 0 < d.left
  pub in_block : InBlock f d
  pub rest : rest_of f d ≡ rest_of f c
  pub right : stands_right f d ≡ stands_right f c

-- what moving on gives: that cursor, none where the list is over, or a refusal where it cannot be read
abbrev pub SettledFrom : List ℕ → Cursor → Result (Option Cursor) Refusal → Type 0
SettledFrom f c (Ok (Some d)) = Reached f c d
SettledFrom f c (Ok None) = (stands_right f c ≡ true) × (rest_of f c ≡ [])
SettledFrom f c (Err r) = stands_right f c ≡ false

-- ---- a list that is opened

-- what is still to come keeps the rules exactly if the list at p does, and is it where it does
pub record OpensList (f : List ℕ) (p : Place) (o : Opened) : Type 0 where
  pub in_block : InBlock f o.cursor
  pub right : keeps_rules f o.cursor o.total 0 ≡ list_right f p
  pub rest : list_right f p ≡ true → rest_of f o.cursor ≡ list_of f p

-- ---- a run

-- n postings from an offset on, eight bytes apart
unfoldable pub row : List ℕ → ℕ → ℕ → List ℕ
row f zero at = []
row f (suc n) at = posting_at f at ∷ row f n (at + 8)

-- how many of so many postings from an offset on stand in its block
abbrev pub run_size : ℕ → ℕ → ℕ
run_size at left = min left ((512 - at % 512) / 8)

-- the cursor c behind its run of n postings: what is left of the segment begins at word 0 of the next block
abbrev pub past_of : Cursor → ℕ → Cursor
past_of c n = record { at = c.at / 512 * 512 + 516; left = c.left - n; next = c.next; fuel = c.fuel }
