-- The ledger of a store after a call that is done: every other MFN's item is as it was, so the list of items is set at that MFN, or is one
-- longer where the MFN is new.
use Prim.Native.Nat.{ℕ, suc, ◌+◌, ◌-◌, ◌≤◌, ◌<◌}
use native.Mathlib.Omega.{arith}
use mathlib.Core.Path.{◌≡◌, refl, ap, ◌∙◌}
use mathlib.Core.List.{List, [], ◌∷◌, ◌++◌}
use Rattle.files.specs.Control.{next_of}
use Rattle.layout.specs.declared.entry.Mark.{Mark}
use Rattle.layout.specs.declared.entry.Mark.TheVariants.{Settled, Changed, New}
use Rattle.layout.specs.declared.entry.Place.{Place}
use Rattle.layout.specs.declared.entry.Entry.TheVariants.{At}
use Rattle.record.specs.Fields.{Field}
use Rattle.store.specs.Reading.{entry_for}
use Rattle.soundness.proofs.SoundEntries.{Sound, EntryStands, is_gone_lem, is_at}
use Rattle.soundness.proofs.Moves.{SameReading}
use Rattle.soundness.proofs.Leaving.{Leaves}
use Rattle.store.specs.Store.{store}
use Rattle.ledger.specs.Ledger.{Marking, settled, new, changed, Item, held}
use Rattle.ledger.specs.LedgerSteps.{item_set, item_added, applied}
use Rattle.ledger.specs.LedgerOf.{marking_at, item_for, item_at, tabulate, ledger_of}
use Rattle.ledger.proofs.Items.{tabulate_same, tabulate_set}

-- the mark with a record length and settled fields
abbrev pub marking_for : Mark → ℕ → List Field → Marking
marking_for Settled n old = settled
marking_for Changed n old = changed n old
marking_for New n old = new n

-- a mark that is read the same
marking_same : (mst mst' : List ℕ) (p : Place) → SameReading mst mst' p → (k : Mark) → p.mark ≡ k → marking_at mst' p k ≡ marking_at mst p k
marking_same mst mst' p r Settled e = refl
marking_same mst mst' p r Changed e = rw ((r.settled e).fields, r.leader)
marking_same mst mst' p r New e = rw r.leader

item_same : (mst mst' : List ℕ) (p : Place) → SameReading mst mst' p → item_for mst' (At p) ≡ item_for mst (At p)
item_same mst mst' p r = rw (r.fields, marking_same mst mst' p r p.mark refl)

-- the item of an entry that stands, where its record, if it has one, is read the same
pub item_stands : {mst xrf : List ℕ} (mst' : List ℕ) {o : ℕ} → EntryStands mst xrf o → ((q : Place) → entry_for (store mst xrf) o ≡ At q → SameReading mst mst' q)
    → item_for mst' (entry_for (store mst xrf) o) ≡ item_for mst (entry_for (store mst xrf) o)
item_stands mst' (is_gone_lem e) r = rw e
item_stands {mst} mst' (is_at q e f) r = rw e (item_same mst mst' q (r q e))

module _ {mst xrf mst' xrf' : List ℕ} {m end next : ℕ} {p : Place} {mfrl : ℕ} {fs old : List Field} (s : Sound mst xrf)
    (l : Leaves mst xrf mst' xrf' m end next p mfrl fs old) where
  item_kept : (o : ℕ) → (o ≡ m → ⊥) → 1 ≤ o → o < next_of mst → item_at (store mst' xrf') o ≡ item_at (store mst xrf) o
  item_kept o ne low high = ap (item_for mst') (l.others o ne low high) ∙ item_stands mst' (s.entries o low high) (λ q e. l.same o q ne low high e)

  -- the item of m
  own_marking : (k : Mark) → p.mark ≡ k → marking_at mst' p k ≡ marking_for k mfrl old
  own_marking Settled e = refl
  own_marking Changed e = rw (l.settled_all e, l.record_length_lem)
  own_marking New e = rw l.record_length_lem

  own_item : item_at (store mst' xrf') m ≡ held fs p.deleted (marking_for p.mark mfrl old)
  own_item = ap (item_for mst') l.entry ∙ rw (l.fields, own_marking p.mark refl)

  -- an MFN that was there
  pub ledger_set : next ≡ next_of mst → 1 ≤ m → m < next_of mst
      → ledger_of (store mst' xrf') ≡ applied (ledger_of (store mst xrf)) (item_set m (held fs p.deleted (marking_for p.mark mfrl old)) end)
  unfolding ledger_of
  ledger_set e low high =
      let same : next_of mst' ≡ next_of mst = l.next_is ∙ e in
      rw (
        l.mst_long,
        l.xrf_long,
        l.end_is,
        same,
        tabulate_set (next_of mst - 1) (item_at (store mst xrf)) (item_at (store mst' xrf')) m (held fs p.deleted (marking_for p.mark mfrl old)) low (omega arith) own_item
            (λ k lo hi ne. item_kept k ne lo (omega arith)),
      )

  -- a new MFN
  items_more : 1 ≤ next_of mst → next_of mst' ≡ next_of mst + 1 → m ≡ next_of mst
      → tabulate (next_of mst' - 1) (item_at (store mst' xrf')) ≡ tabulate (next_of mst - 1) (item_at (store mst xrf)) ++ (held fs p.deleted (marking_for p.mark mfrl old) ∷ [])
  unfolding tabulate
  items_more low e fresh =
      let k : next_of mst' - 1 ≡ suc (next_of mst - 1) = omega arith in
      let q : suc (next_of mst - 1) ≡ m = omega arith in
      rw k
      (ap (λ (is : List Item). is ++ (item_at (store mst' xrf') (suc (next_of mst - 1)) ∷ []))
      (tabulate_same (next_of mst - 1) (item_at (store mst' xrf')) (item_at (store mst xrf)) (λ o lo hi. item_kept o (λ z. omega arith) lo (omega arith)))
      ∙ ap (λ (j : Item). tabulate (next_of mst - 1) (item_at (store mst xrf)) ++ (j ∷ [])) (ap (item_at (store mst' xrf')) q ∙ own_item))

  pub ledger_more : 1 ≤ next_of mst → next ≡ next_of mst + 1 → m ≡ next_of mst
      → ledger_of (store mst' xrf')
      ≡ applied (ledger_of (store mst xrf)) (item_added (held fs p.deleted (marking_for p.mark mfrl old)) end)
  unfolding ledger_of
  ledger_more low e fresh = rw (l.mst_long, l.xrf_long, l.end_is, items_more low (l.next_is ∙ e) fresh)
