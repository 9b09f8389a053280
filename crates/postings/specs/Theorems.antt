-- What is proved of a list's segments and postings beside the calls' own promises. Document 02, C-14.
use Rattle.std.specs.Prelude.{ℕ, ◌+◌, ◌≤◌, ◌<◌, ◌≡◌, true, List, length, get_or}
use Rattle.posting.specs.Posting.{posting_at}
use Rattle.postings.specs.declared.segment.Place.{Place}
use Rattle.postings.specs.Segment.{word_offset, header_inside, follow, stands_at, run}
use Rattle.postings.specs.Rules.{words_of, ends_within, segments_of, headers_inside, word_number, each_once, list_right, paper_right}

-- ---- where postings stand

-- behind a posting at word w comes one at word w + 2, where two more words are left in the block
unfoldable pub FollowsWithin : Type 0
FollowsWithin = (b w : ℕ) → w + 4 ≤ 127 → follow (word_offset b w) ≡ word_offset b (w + 2)

-- and else at word 0 of the next block, so that none is split
unfoldable pub FollowsNext : Type 0
FollowsNext = (b w : ℕ) → 1 ≤ b → w ≤ 126 → 127 < w + 4 → follow (word_offset b w) ≡ word_offset (b + 1) 0

-- posting i of a run is the one at `stands_at` of its first
unfoldable pub StandsAt : Type 0
StandsAt = (f : List ℕ) (k i at : ℕ) → i < k → get_or (run f k at) i 0 ≡ posting_at f (stands_at at i)

-- ---- a segment twice

-- headers inside the file that have the same number stand at the same place, so `each_once` is said of segments
unfoldable pub NumbersPlaces : Type 0
NumbersPlaces =
    (len : ℕ) (p q : Place) → header_inside len p ≡ true → header_inside len q ≡ true → word_number p ≡ word_number q
    → (p.block ≡ q.block) × (p.word ≡ q.word)

-- where the headers are inside the file, a list ends within as many segments as the file has words exactly if none of them comes twice
unfoldable pub EndsOnce : Type 0
EndsOnce =
    (f : List ℕ) (p : Place) → header_inside (length f) p ≡ true → headers_inside f (segments_of f p) ≡ true
    → ends_within f (words_of f) p ≡ each_once (segments_of f p)

-- so the rules that the calls ask are the paper's
unfoldable pub RulesAreThePapers : Type 0
RulesAreThePapers = (f : List ℕ) (p : Place) → list_right f p ≡ paper_right f p
