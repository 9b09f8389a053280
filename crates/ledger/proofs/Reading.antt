-- What a sound store's bytes say of one MFN, beside what the ledger keeps of it: the MFN is not there, or it is gone, or it has a place with a
-- right record, and then the ledger's item is that record's fields, flag and mark.
use Prim.Native.Nat.{ℕ, suc, ◌-◌, ◌≤◌}
use mathlib.Core.Path.{◌≡◌, ap, ◌∙◌}
use mathlib.Core.Bool.{true, false}
use native.Mathlib.Omega.{arith}
use Rattle.files.specs.Control.{next_of}
use Rattle.layout.specs.declared.entry.Place.{Place}
use Rattle.layout.specs.declared.entry.Entry.TheVariants.{Gone, At}
use Rattle.store.specs.Reading.{lengths_permitted, control_fine, mfn_in_range, entry_for, record_fine, version_fine}
use Rattle.store.proofs.Gates.{mfn_facts}
use Rattle.ledger.specs.Ledger.{next_mfn, item_of, lengths_fine, mfn_in}
use Rattle.store.specs.Store.{Store}
use Rattle.ledger.specs.LedgerOf.{item_at, ledger_of}
use Rattle.ledger.proofs.Items.{tabulate_length, tabulate_at}

-- lengths and control record are right
pub record Opened (s : Store) : Type 0 where
  pub lengths : lengths_permitted s ≡ true
  pub control : control_fine s ≡ true
  pub next_low : 1 ≤ next_of s.mst

-- what is found of an MFN
pub data Seen (s : Store) (m : ℕ) : Type 0 where
  absent : mfn_in_range s.mst m ≡ false → Seen s m
  physically : mfn_in_range s.mst m ≡ true → entry_for s m ≡ Gone → Seen s m
  present : (p : Place) → mfn_in_range s.mst m ≡ true → entry_for s m ≡ At p → record_fine s.mst m p ≡ true → version_fine s.mst m p ≡ true → Seen s m

module _ (s : Store) (o : Opened s) where
  -- what the ledger keeps is what the bytes say
  pub next_is : next_mfn (ledger_of s) ≡ next_of s.mst
  unfolding ledger_of
  next_is = omega (arith, o.next_low, tabulate_length (next_of s.mst - 1) (item_at s))

  pub lengths_are : lengths_fine (ledger_of s) ≡ true
  unfolding ledger_of lengths_fine lengths_permitted
  lengths_are = o.lengths

  pub mfn_is : (m : ℕ) → mfn_in (ledger_of s) m ≡ mfn_in_range s.mst m
  unfolding mfn_in mfn_in_range
  mfn_is m = rw next_is

  pub item_is : (m : ℕ) → mfn_in_range s.mst m ≡ true → item_of (ledger_of s) m ≡ item_at s m
  unfolding ledger_of
  item_is m k =
      let r = mfn_facts s.mst m k in
      let e : suc (m - 1) ≡ m = omega arith in
      tabulate_at (next_of s.mst - 1) (item_at s) (m - 1) (omega arith) ∙ ap (item_at s) e
