-- What is kept of a pending record through a list of calls, whatever is done between to it or to others: the settled fields under changed, and
-- under new that it was never settled. Both by one law about the mark.
use Prim.Native.Nat.{ℕ, ◌≤◌}
use native.Mathlib.Decide.{ℕ_discrete}
use native.Mathlib.Omega.{arith}
use mathlib.Core.Path.{◌≡◌, sym, ap, ◌∙◌}
use mathlib.Core.Bool.{Bool, true, false}
use mathlib.Core.List.{List, [], ◌∷◌}
use Rattle.word.proofs.Tests.{false_true}
use Rattle.record.specs.Fields.{Field}
use Rattle.settling.specs.Theorems.{among}
use Rattle.ledger.specs.Call.{Call, format, settle, revert, settle_list}
use Rattle.ledger.specs.Ledger.{Marking, new, changed, Item, held, Ledger, lengths_fine, item_of, kept_mark, is_new_mark}
use Rattle.ledger.specs.LedgerSteps.{Effect, item_set, item_added, applied, version_mark, version, effect_of, next_l, after_l}
use Rattle.ledger.specs.History.{Every, every_none, every_more, LeavesPending, LeavesNew}
use Rattle.ledger.proofs.Effects.{Known, Does, reads, empties, adds, changes, settles, settles_each, reverts, after_call, after_each, set_long, set_own, set_other, added_long, added_other}

-- MFN m is there, under a mark of some kind
pub record Marked (P : Marking → Type 0) (m : ℕ) (L : Ledger) : Type 0 where
  pub known : Known L m
  pub fields : List Field
  pub flag : Bool
  pub mark : Marking
  pub item : item_of L m ≡ held fields flag mark
  pub kind : P mark

-- changed over a settled version of these fields, and never settled
pub record Over (old : List Field) (k : Marking) : Type 0 where
  pub size : ℕ
  pub is : k ≡ changed size old

pub record Fresh (k : Marking) : Type 0 where
  pub size : ℕ
  pub is : k ≡ new size

-- an item of m is set, another is, one is added
module _ (P : Marking → Type 0) (m : ℕ) (L : Ledger) where
  pub marked_own : Known L m → (fs : List Field) (d : Bool) (k : Marking) → P k → (e : ℕ) → Marked P m (applied L (item_set m (held fs d k) e))
  unfolding lengths_fine
  marked_own w fs d k p e =
      record {
        known = record { lengths = w.lengths; low = w.low; high = rw (set_long L m (held fs d k) e) w.high };
        fields = fs;
        flag = d;
        mark = k;
        item = set_own L m (held fs d k) e w.low w.high;
        kind = p;
      }

  module _ (w : Marked P m L) where
    pub marked_other : (k : ℕ) (i : Item) (e : ℕ) → 1 ≤ k → (k ≡ m → ⊥) → Marked P m (applied L (item_set k i e))
    unfolding lengths_fine
    marked_other k i e low ne =
        record {
          known = record { lengths = w.known.lengths; low = w.known.low; high = rw (set_long L k i e) w.known.high };
          fields = w.fields;
          flag = w.flag;
          mark = w.mark;
          item = set_other L k i e m low w.known.low ne ∙ w.item;
          kind = w.kind;
        }

    marked_more : (i : Item) (e : ℕ) → Marked P m (applied L (item_added i e))
    unfolding lengths_fine
    marked_more i e =
        record {
          known = record { lengths = w.known.lengths; low = w.known.low; high = rw (added_long L i e) (let h = w.known.high in omega arith) };
          fields = w.fields;
          flag = w.flag;
          mark = w.mark;
          item = added_other L i e m w.known.low w.known.high ∙ w.item;
          kind = w.kind;
        }

-- a kind of mark that a new version keeps, through a call that neither formats nor settles m; a revert of m keeps it only by being refused
module _ (P : Marking → Type 0) (keeps : (fs : List Field) (k : Marking) (n : ℕ) → P k → P (version_mark fs k n)) (m : ℕ) where
  pub marked_kept : (L : Ledger) → Marked P m L → (c : Call) → (c ≡ format → ⊥) → (c ≡ settle m → ⊥)
      → ((ms : List ℕ) (lent : ℕ) → c ≡ settle_list ms lent → among m ms ≡ false) → ((k : Marking) → P k → c ≡ revert m → is_new_mark k ≡ false → ⊥) → Marked P m (next_l L c)
  marked_kept L w c no_format no_settle no_list no_revert = after_call (Marked P m) L c w (go (effect_of L c))
    where
      own : (k : ℕ) (fs : List Field) (d a : Bool) → 1 ≤ k → Dec (k ≡ m) → Marked P m (applied L (version L k fs d a))
      own k fs d a low (yes z) =
          rw (z, w.item)
          (marked_own P m L w.known fs d _ (keeps w.fields w.mark _ w.kind) _)
      own k fs d a low (no ne) = marked_other P m L w k _ _ low ne

      elsewhere : (k : ℕ) (i : Item) (e : ℕ) → 1 ≤ k → (k ≡ m → ⊥) → Marked P m (applied L (item_set k i e))
      elsewhere k i e low ne = marked_other P m L w k i e low ne

      go : (e : Effect) → Does L c e → Marked P m (applied L e)
      go _ reads = w
      go _ (empties e) = absurd (no_format e)
      go _ (adds f fs n e) = marked_more P m L w (held fs false (new n)) e
      go _ (changes k known fs d a) = own k fs d a known.low (ℕ_discrete k m)
      go _ (settles k known e fs d) = elsewhere k _ _ known.low (λ z. no_settle (e ∙ ap settle z))
      go _ (settles_each ms lent e) =
          after_each (Marked P m) ms
          (λ K k a v known. marked_other P m K v k _ _ known.low (λ z. false_true (sym (no_list ms lent e) ∙ ap (λ (o : ℕ). among o ms) (sym z) ∙ a)))
          L w
      go _ (reverts k known e r fs) =
          elsewhere k _ _ known.low
          (λ z.
          no_revert w.mark w.kind (e ∙ ap revert z)
          (sym (ap (λ (i : Item). is_new_mark (kept_mark i)) w.item) ∙ rw z at r))

-- through a list of calls
pub marked_through : {P : Marking → Type 0} {Q : Call → Type 0} {m : ℕ} → ((L : Ledger) → Marked P m L → (c : Call) → Q c → Marked P m (next_l L c))
    → (L : Ledger) → Marked P m L → (cs : List Call) → Every Q cs → Marked P m (after_l L cs)
unfolding after_l
marked_through f L w [] every_none = w
marked_through f L w (c ∷ cs) (every_more q qs) = marked_through f (next_l L c) (f L w c q) cs qs

-- ---- the two kinds

over_version : (old fs : List Field) (k : Marking) (n : ℕ) → Over old k → Over old (version_mark fs k n)
over_version old fs k n o = record { size = n; is = rw o.is }

fresh_version : (fs : List Field) (k : Marking) (n : ℕ) → Fresh k → Fresh (version_mark fs k n)
fresh_version fs k n f = record { size = n; is = rw f.is }

fresh_new : (k : Marking) → Fresh k → is_new_mark k ≡ true
fresh_new k f = rw f.is

-- a settled version stays, and so does it that there is none
pub over_kept : (old : List Field) (m : ℕ) (L : Ledger) → Marked (Over old) m L → (c : Call) → LeavesPending m c → Marked (Over old) m (next_l L c)
over_kept old m L w c q = marked_kept (Over old) (over_version old) m L w c q.no_format q.no_settle q.no_list (λ k p e n. q.no_revert e)

pub fresh_kept : (m : ℕ) (L : Ledger) → Marked Fresh m L → (c : Call) → LeavesNew m c → Marked Fresh m (next_l L c)
fresh_kept m L w c q = marked_kept Fresh fresh_version m L w c q.no_format q.no_settle q.no_list (λ k p e n. false_true (sym n ∙ fresh_new k p))
