-- What is proved of an index that passes. Document 02, C-11: "On an index that passes, a term is found exactly if a leaf met from its tree's root holds it."
use Rattle.std.specs.Prelude.{ℕ, ◌+◌, ◌*◌, ◌≤◌, ◌≡◌, ◌⊎◌, ◌↔◌, Bool, true, false, cond, List, [], ◌∷◌, length, Option, Some, None, Err}
use Rattle.terms.specs.Key.{ascending}
use Rattle.terms.specs.Term.{term_right, kind_for, width_of, padded}
use Rattle.index.specs.Files.{Index, nodes_in, leaves_in}
use Rattle.index.specs.Layout.{nodes_most}
use Rattle.index.specs.Rules.{record_right, part_of}
use Rattle.index.specs.Lookup.{at, Entry, entries_of, lookup_of}
use Rattle.index.specs.Reading.{Met, Node, Leaf, TooDeep, nodes_among, leaves_among}
use Rattle.index.specs.Shape.{Shape}
use Rattle.index.specs.declared.layout.Tree.{Tree}
use Rattle.index.specs.declared.lookup.Refusal.TheVariants.{NoTerm}
use Rattle.index_check.specs.Walk.{met, keys_along}
use Rattle.index_check.specs.Sound.{all, none_twice, sound_of}

-- ---- what the leaves hold

-- an entry among these has the key, and this block and word
unfoldable pub Among : List ℕ → ℕ → ℕ → List Entry → Type 0
Among key block word [] = ⊥
Among key block word (e ∷ es) = ((e.key ≡ key) × (e.block ≡ block) × (e.word ≡ word)) ⊎ Among key block word es

-- one of these leaves holds the key with this block and word
unfoldable pub HeldBy : List ℕ → Shape → List ℕ → ℕ → ℕ → List ℕ → Type 0
HeldBy f s key block word [] = ⊥
HeldBy f s key block word (n ∷ ns) = Among key block word (entries_of f s n) ⊎ HeldBy f s key block word ns

-- a leaf met from the root of the tree that CNT's part describes holds the key
unfoldable pub HeldIn : List ℕ → List ℕ → List ℕ → ℕ → ℕ → Option Tree → Type 0
HeldIn nodes leaves key block word None = ⊥
HeldIn nodes leaves key block word (Some t) = HeldBy leaves t.leaves key block word (leaves_among (met nodes t))

-- a leaf met from the root of the term's tree holds the padded term
abbrev pub Held : Index → List ℕ → ℕ → ℕ → Type 0
Held x term block word =
    HeldIn (nodes_in x (kind_for term)) (leaves_in x (kind_for term)) (padded (width_of (kind_for term)) term) block word (part_of x.cnt (kind_for term))

-- ---- the theorems

-- on an index that passes, a lookup of a right term finds block and word exactly if a leaf met holds the padded term with them
unfoldable pub FoundExactlyIfHeld : Type 0
FoundExactlyIfHeld =
    (x : Index) (term : List ℕ) → sound_of x ≡ true → term_right term ≡ true
    → (block word : ℕ) → (lookup_of x term ≡ at block word) ↔ Held x term block word

-- and answers 22 otherwise
unfoldable pub AbsentOtherwise : Type 0
AbsentOtherwise =
    (x : Index) (term : List ℕ) → sound_of x ≡ true → term_right term ≡ true
    → ((block word : ℕ) → Held x term block word → ⊥) → lookup_of x term ≡ Err NoTerm

-- ---- what the check goes over

-- a record that can be read: it keeps the rules of every record
abbrev pub readable : List ℕ → List ℕ → Tree → Met → Bool
readable nodes leaves t (Node n) = record_right nodes t.nodes n
readable nodes leaves t (Leaf n) = record_right leaves t.leaves n
readable nodes leaves t TooDeep = false

-- strict ascent along the leaves makes a leaf met twice impossible, where what is met can be read
unfoldable pub AscentMeetsOnce : Type 0
AscentMeetsOnce =
    (nodes leaves : List ℕ) (t : Tree) (ms : List Met) → all (readable nodes leaves t) ms ≡ true
    → ascending (keys_along leaves t.leaves (leaves_among ms)) ≡ true → none_twice (leaves_among ms) ≡ true

-- the longest beginning of what is met in which each keeps a sentence
unfoldable pub unbroken : (Met → Bool) → List Met → List Met
unbroken p [] = []
unbroken p (m ∷ ms) = cond (p m) (m ∷ unbroken p ms) []

-- up to the first record that cannot be read no more than 16 nodes are met for each leaf, and 16 besides. The check stops there at the latest, and no leaf is
-- met twice while keys ascend along the leaves, so that it meets no more nodes than 16 for each leaf of the file and 17 besides
unfoldable pub MeetsFew : Type 0
MeetsFew =
    (nodes leaves : List ℕ) (t : Tree)
    → nodes_among (unbroken (readable nodes leaves t) (met nodes t)) ≤ nodes_most * (length (leaves_among (unbroken (readable nodes leaves t) (met nodes t))) + 1)
