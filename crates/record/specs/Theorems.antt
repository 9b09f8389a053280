-- What holds of the number that the record test tells, as statements: which entry it is, and that the same rules make the record right. Request
-- C-16; proved in proofs/Theorems.
use Rattle.std.specs.Prelude.{ℕ, zero, suc, ◌+◌, ◌-◌, ◌≤◌, ◌<◌, ◌≡◌, ◌↔◌, ◌⊎◌, Bool, true, false, ◌&&◌, List, length}
use Rattle.layout.specs.Leader.{leader_of}
use Rattle.layout.specs.declared.entry.Place.{Place}
use Rattle.record.specs.Directory.{Widths, isis, len_in, entry_right, entries_right, first_broken}
use Rattle.record.specs.Record.{back_fine, well_formed, leader_right, record_right, broken_entry}

-- the sum of the lengths of the first n entries
unfoldable pub lengths_of : Widths → List ℕ → ℕ → ℕ
lengths_of w rec zero = 0
lengths_of w rec (suc n) = lengths_of w rec n + len_in w rec n

-- entry n, counted from 1, is right: its tag is in range, its POS is the sum of the lengths before it, and its LEN makes the sum at most room
abbrev pub number_right : Widths → List ℕ → ℕ → ℕ → Bool
number_right w rec room n = entry_right w rec room (n - 1) (lengths_of w rec (n - 1))

-- of nvf entries, entry n is the first that is not right
pub record FirstWrong (w : Widths) (rec : List ℕ) (room nvf n : ℕ) : Type 0 where
  pub low : 1 ≤ n
  pub high : n ≤ nvf
  pub wrong : number_right w rec room n ≡ false
  pub earlier : (j : ℕ) → 1 ≤ j → j < n → number_right w rec room j ≡ true

-- THE CLAIM on a directory, at any widths
pub record WhichEntry (w : Widths) (rec : List ℕ) (room nvf : ℕ) : Type 0 where
  -- the directory is right exactly if each of its entries is
  pub every : (entries_right w rec room nvf 0 0 ≡ true) ↔ ((n : ℕ) → 1 ≤ n → n ≤ nvf → number_right w rec room n ≡ true)
  -- the number is 0 exactly if the directory is right
  pub none : (first_broken w rec room nvf 0 0 ≡ 0) ↔ (entries_right w rec room nvf 0 0 ≡ true)
  -- it is n exactly if entry n is the first that is not right
  pub first : (n : ℕ) → 1 ≤ n → (first_broken w rec room nvf 0 0 ≡ n) ↔ FirstWrong w rec room nvf n

-- THE CLAIM on a record, tested for MFN m and deleted or not
pub record TellsWhich (rec : List ℕ) (m : ℕ) (deleted : Bool) : Type 0 where
  -- it passes exactly if its leader does and the number is 0
  pub passes : (record_right rec m deleted ≡ true) ↔ ((leader_right m deleted (length rec) (leader_of rec) ≡ true) × (broken_entry rec m deleted ≡ 0))
  -- the number is 0 exactly if the record passes or its leader already fails
  pub none : (broken_entry rec m deleted ≡ 0) ↔ ((record_right rec m deleted ≡ true) ⊎ (leader_right m deleted (length rec) (leader_of rec) ≡ false))
  -- it is n exactly if the leader passes and entry n is the first that is not right
  pub first : (n : ℕ) → 1 ≤ n
      → (broken_entry rec m deleted ≡ n)
      ↔ ((leader_right m deleted (length rec) (leader_of rec) ≡ true) × FirstWrong isis rec ((leader_of rec).mfrl - (leader_of rec).base) (leader_of rec).nvf n)
  -- with its back pointer the record is well formed as document 01 says it
  pub whole : (end : ℕ) (p : Place) → p.deleted ≡ deleted → well_formed rec end m p ≡ (record_right rec m deleted && back_fine end p (leader_of rec))
