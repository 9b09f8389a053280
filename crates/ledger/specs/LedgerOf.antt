-- What a sound store's bytes say of all that the ledger keeps.
use Rattle.std.specs.Prelude.{ℕ, zero, suc, ◌-◌, true, ◌≡◌, List, [], ◌∷◌, ◌++◌, length}
use Rattle.files.specs.Control.{next_of, end_of}
use Rattle.layout.specs.declared.entry.Mark.{Mark}
use Rattle.layout.specs.declared.entry.Mark.TheVariants.{Settled, Changed, New}
use Rattle.layout.specs.declared.entry.Place.{Place}
use Rattle.layout.specs.declared.entry.Entry.{Entry}
use Rattle.layout.specs.declared.entry.Entry.TheVariants.{Gone, Malformed, At}
use Rattle.record.specs.Fields.{fields_of}
use Rattle.store.specs.Reading.{entry_for, leader_at, settled_record, current_fields}
use Rattle.soundness.specs.Sound.{sound_of}
use Rattle.ledger.specs.Ledger.{Marking, settled, new, changed, Item, gone, held, Ledger}
use Rattle.store.specs.Store.{Store}

-- the mark of the record at a place, with the record length under new and changed, and under changed the settled version's fields
abbrev pub marking_at : List ℕ → Place → Mark → Marking
marking_at mst p Settled = settled
marking_at mst p New = new (leader_at mst p).mfrl
marking_at mst p Changed = changed (leader_at mst p).mfrl (fields_of (settled_record mst p))

-- the item of an entry
abbrev pub item_for : List ℕ → Entry → Item
item_for mst Gone = gone
item_for mst Malformed = gone
item_for mst (At p) = held (current_fields mst p) p.deleted (marking_at mst p p.mark)

-- the item of MFN m
abbrev pub item_at : Store → ℕ → Item
item_at s m = item_for s.mst (entry_for s m)

-- f of 1 to n
unfoldable pub tabulate : ℕ → (ℕ → Item) → List Item
tabulate zero f = []
tabulate (suc k) f = tabulate k f ++ (f (suc k) ∷ [])

unfoldable pub ledger_of : Store → Ledger
ledger_of s =
    record {
      mst_length = length s.mst;
      xrf_length = length s.xrf;
      end = end_of s.mst;
      items = tabulate (next_of s.mst - 1) (item_at s);
    }

-- the store is sound
abbrev pub SoundStore : Store → Type 0
SoundStore s = sound_of s ≡ true
