-- What request C-13 says of the answers and the bytes of a list, as statements about single
-- settles. Proved in proofs/Theorems.
use Rattle.std.specs.Prelude.{Ok, Err}
use Rattle.std.specs.Prelude.{ℕ, ◌+◌, ◌≤◌, ◌<◌, ◌≡◌, Bool, true, false, ◌||◌, List, [], ◌∷◌, eqb, length, get_or, take, replicate}
use Rattle.layout.specs.Entry.{place_address}
use Rattle.files.specs.CrossReference.{slot_at}
use Rattle.files.specs.NamedBytes.{Within, BackByte}
use Rattle.store.specs.Store.{Store}
use Rattle.store.specs.Answer.{refuse, lowest, Answer}
use Rattle.store.specs.Reading.{lengths_permitted, place_for}
use Rattle.store.specs.Refusals.{gated, named, fine}
use Rattle.store.specs.declared.answer.Refusal.TheVariants.{BadLength, NotPending}
use Rattle.writing.specs.Refusals.{settle_answer}
use Rattle.writing.specs.Calls.{settle_leaves}
use Rattle.settling.specs.SettleList.{settle_each_answers, settle_each_leaves}

-- the same answers and bytes as settling each in order by the single call
pub record InOrder (s : Store) (ms : List ℕ) : Type 0 where
  -- an answer for each
  pub count : length (settle_each_answers s ms) ≡ length ms
  -- the one at i is the single call's, on what those before it left
  pub answer : (i : ℕ) → i < length ms → get_or (settle_each_answers s ms) i (Ok tt) ≡ settle_answer (settle_each_leaves s (take i ms)) (get_or ms i 0)
  -- which are the buffers as they were, then what each single call leaves, up to the last
  pub first : settle_each_leaves s (take 0 ms) ≡ s
  pub next : (i : ℕ) → i < length ms → settle_each_leaves s (take (i + 1) ms) ≡ settle_leaves (settle_each_leaves s (take i ms)) (get_or ms i 0)
  pub last : settle_each_leaves s (take (length ms) ms) ≡ settle_each_leaves s ms

-- the same MFN again after a 0, whatever was settled between: 10, unless an earlier check refuses
-- it
abbrev pub Again : Store → ℕ → List ℕ → Type 0
Again s m between =
    settle_answer s m ≡ Ok tt
    → settle_answer (settle_each_leaves (settle_leaves s m) between) m
    ≡ lowest
    (gated (settle_each_leaves (settle_leaves s m) between)
    (named (settle_each_leaves (settle_leaves s m) between) m (fine (settle_each_leaves (settle_leaves s m) between) m) (refuse NotPending true ∷ [])))

-- every answer of a list is the same, and nothing is changed
pub record EachAnswers (s : Store) (ms : List ℕ) (a : Answer) : Type 0 where
  pub answers : settle_each_answers s ms ≡ replicate (length ms) a
  pub nothing : settle_each_leaves s ms ≡ s

-- ---- which bytes change

-- a number is one of a list
abbrev pub among : ℕ → List ℕ → Bool
among n [] = false
among n (k ∷ ks) = eqb n k || among n ks

-- both buffers are as long, and every byte is what it was but for those of the entries of the
-- list's MFNs and of the back pointers at their places
pub record ChangesOnly (s s' : Store) (ms : List ℕ) : Type 0 where
  pub mst_length : length s'.mst ≡ length s.mst
  pub xrf_length : length s'.xrf ≡ length s.xrf
  pub mst_kept : (i : ℕ) → ((m : ℕ) → 1 ≤ m → among m ms ≡ true → BackByte (place_address (place_for s m)) i → ⊥) → get_or s'.mst i 0 ≡ get_or s.mst i 0
  pub xrf_kept : (i : ℕ) → ((m : ℕ) → 1 ≤ m → among m ms ≡ true → Within (slot_at m) 4 i → ⊥) → get_or s'.xrf i 0 ≡ get_or s.xrf i 0

-- ---- THE CLAIMS, of any two buffers and every list

pub record SettlesInOrder (s : Store) (ms : List ℕ) : Type 0 where
  pub in_order : InOrder s ms
  pub again : (m : ℕ) → Again s m ms
  -- on buffers of a length that is not permitted every answer is 1
  pub unpermitted : lengths_permitted s ≡ false → EachAnswers s ms (Err BadLength)
  pub changes : ChangesOnly s (settle_each_leaves s ms) ms
