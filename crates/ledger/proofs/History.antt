-- What specs/History states, on the store's own answers: each is a law of the ledger, carried to the bytes by demand 3.
use Rattle.std.specs.Prelude.{Ok}
use Prim.Native.Nat.{ℕ}
use mathlib.Core.Path.{◌≡◌, refl, sym, ap, ◌∙◌}
use mathlib.Core.Bool.{false}
use mathlib.Core.List.{List, [], ◌∷◌, ◌++◌}
use Rattle.layout.specs.declared.entry.Mark.TheVariants.{Settled}
use Rattle.layout.specs.declared.entry.Place.{Place}
use Rattle.record.specs.Fields.{Field}
use Rattle.store.specs.Reading.{current_fields}
use Rattle.store.specs.Store.{Store}
use Rattle.drafts.specs.Draft.{Draft}
use Rattle.ledger.specs.Call.{Call, view, view_settled, create, revert, Outcome}
use Rattle.ledger.specs.Ledger.{settled, held, Ledger, next_mfn, item_of}
use Rattle.ledger.specs.LedgerAnswers.{number_l, Given, nothing, the_mfn, the_field, the_answers, gives_l, outcome_of, answer_l}
use Rattle.ledger.specs.LedgerSteps.{next_l, after_l}
use Rattle.ledger.specs.StoreRun.{answer_s, next_s, after_s}
use Rattle.ledger.specs.LedgerOf.{marking_at, ledger_of, SoundStore}
use Rattle.ledger.specs.Demand3.{Kept}
use Rattle.ledger.specs.History.{Every, every_none, every_more, LiveSettled, UpdatesOrDeletes, LeavesPending, SettledVersion, LeavesNew, NeverSettledYet}
use Rattle.ledger.proofs.Reading.{lengths_are, mfn_is}
use Rattle.ledger.proofs.Answering.{item_at}
use Rattle.ledger.proofs.Theorem.{opened, step, answers_are_the_ledgers}
use Rattle.ledger.proofs.Effects.{Known, in_range}
use Rattle.ledger.proofs.Between.{Marked, Over, Fresh, marked_through, over_kept, fresh_kept}
use Rattle.ledger.proofs.Versioned.{field_shown, live_view, settled_view, change_pends, over_view, over_reverted, over_restored, over_item, fresh_reverts, fresh_view, create_returns, create_fresh}

-- what a store that holds a ledger answers
pub answered : {u : Store} {K : Ledger} → Kept u K → (c : Call) → answer_s u c ≡ answer_l K c
answered {u} {K} k c = (step u k.sound c).answer ∙ ap (λ (L : Ledger). answer_l L c) k.ledger

-- and holds after a call
pub called : {u : Store} {K : Ledger} → Kept u K → (c : Call) → Kept (next_s u c) (next_l K c)
unfolding after_s after_l
called {u} {K} k c = rw k.ledger at (answers_are_the_ledgers u k.sound (c ∷ [])).kept

-- the answer alone
pub number_is : (L : Ledger) (c : Call) → (answer_l L c).answer ≡ number_l L c
unfolding answer_l
number_is L c = go (gives_l L c)
  where
    go : (g : Given) → (outcome_of (number_l L c) g).answer ≡ number_l L c
    go nothing = refl
    go (the_mfn m) = refl
    go (the_field bytes n) = refl
    go (the_answers each) = refl

module _ (s : Store) (h : SoundStore s) where
  pub holds_own : Kept s (ledger_of s)
  unfolding after_s after_l
  holds_own = (answers_are_the_ledgers s h []).kept

  pub done_is : (c : Call) → (answer_s s c).answer ≡ Ok tt → number_l (ledger_of s) c ≡ Ok tt
  done_is c e = sym (number_is (ledger_of s) c) ∙ sym (ap (λ (o : Outcome). o.answer) (answered holds_own c)) ∙ e

  -- after a call and a list
  behind : (c : Call) (cs : List Call) → Kept (after_s (next_s s c) cs) (after_l (next_l (ledger_of s) c) cs)
  unfolding after_s after_l
  behind c cs = (answers_are_the_ledgers s h (c ∷ cs)).kept

-- the calls before others
every_front : {P : Call → Type 0} (done rest : List Call) → Every P (done ++ rest) → Every P done
every_front [] rest e = every_none
every_front (c ∷ done) rest (every_more q qs) = every_more q (every_front done rest qs)

-- ---- THE SETTLED VERSION, WHATEVER WAS DONE BETWEEN

settled_item : (mst : List ℕ) (p : Place) → p.deleted ≡ false → p.mark ≡ Settled
    → held (current_fields mst p) p.deleted (marking_at mst p p.mark) ≡ held (current_fields mst p) false settled
settled_item mst p live mark = rw (live, mark)

module _ (s : Store) (h : SoundStore s) (m : ℕ) (a : LiveSettled s m) where
  abbrev fields : List Field
  fields = current_fields s.mst a.place

  known : Known (ledger_of s) m
  known =
      let r = in_range (ledger_of s) m (mfn_is s (opened s h) m ∙ a.in_range) in
      record { lengths = lengths_are s (opened s h); low = r.0; high = r.1 }

  item : item_of (ledger_of s) m ≡ held fields false settled
  item = item_at s (opened s h) m a.place a.in_range a.entry ∙ settled_item s.mst a.place a.live a.settled

  viewed : (tag occ : ℕ) → answer_s s (view m tag occ) ≡ field_shown fields tag occ
  viewed tag occ = answered (holds_own s h) (view m tag occ) ∙ live_view (ledger_of s) m known fields settled item tag occ

  pub settled_version : (c : Call) → UpdatesOrDeletes m c → (answer_s s c).answer ≡ Ok tt → (cs : List Call) → Every (LeavesPending m) cs → SettledVersion s m c cs
  settled_version c b e cs q =
      record {
        readable = λ done rest z tag occ.
            answered (behind s h c done) (view_settled m tag occ)
            ∙ over_view fields m _ (pending done (every_front done rest (rw z q))) tag occ
            ∙ sym (viewed tag occ);
        reverts = answered (behind s h c cs) (revert m) ∙ over_reverted fields m _ (pending cs q);
        current = λ tag occ. answered restored (view m tag occ) ∙ live_view _ m back fields settled (over_item fields m _ (pending cs q)) tag occ ∙ sym (viewed tag occ);
        settled = λ tag occ. answered restored (view_settled m tag occ) ∙ settled_view _ m back fields (over_item fields m _ (pending cs q)) tag occ ∙ sym (viewed tag occ);
      }
    where
      pending : (ds : List Call) → Every (LeavesPending m) ds → Marked (Over fields) m (after_l (next_l (ledger_of s) c) ds)
      pending ds es =
          marked_through (over_kept fields m) (next_l (ledger_of s) c) (change_pends (ledger_of s) m known fields item c b (done_is s h c e)) ds es

      restored : Kept (next_s (after_s (next_s s c) cs) (revert m)) (next_l (after_l (next_l (ledger_of s) c) cs) (revert m))
      restored = called (behind s h c cs) (revert m)

      back : Known (next_l (after_l (next_l (ledger_of s) c) cs) (revert m)) m
      back = (over_restored fields m _ (pending cs q)).known

-- ---- NEVER SETTLED

pub never_settled : (s : Store) → SoundStore s → (d : Draft) → (answer_s s (create d)).answer ≡ Ok tt → (cs : List Call)
    → Every (LeavesNew (answer_s s (create d)).mfn) cs → NeverSettledYet s d (answer_s s (create d)).mfn cs
never_settled s h d e cs q =
    rw made
    (record {
      reverts = answered (behind s h (create d) cs) (revert (next_mfn (ledger_of s))) ∙ fresh_reverts (next_mfn (ledger_of s)) _ new;
      settled = λ tag occ. answered (behind s h (create d) cs) (view_settled (next_mfn (ledger_of s)) tag occ) ∙ fresh_view (next_mfn (ledger_of s)) _ new tag occ;
    })
  where
    made : (answer_s s (create d)).mfn ≡ next_mfn (ledger_of s)
    made = ap (λ (o : Outcome). o.mfn) (answered (holds_own s h) (create d)) ∙ create_returns (ledger_of s) d (done_is s h (create d) e)

    new : Marked Fresh (next_mfn (ledger_of s)) (after_l (next_l (ledger_of s) (create d)) cs)
    new =
        marked_through (fresh_kept (next_mfn (ledger_of s))) (next_l (ledger_of s) (create d)) (create_fresh (ledger_of s) d (done_is s h (create d) e)) cs
        (rw made at q)
