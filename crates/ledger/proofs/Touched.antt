-- THE THEOREM: what a call touches. A call that is done touches what soundness says of it; a refused one leaves the store as it was, and so does
-- one that only reads.
use Rattle.std.specs.Prelude.{Ok}
use Prim.Native.Nat.{ℕ}
use mathlib.Core.Path.{◌≡◌, refl}
use mathlib.Core.Logic.{⊎_elim}
use lib.ListN.{length}
use Rattle.soundness.proofs.Recount.{recounts}
use Rattle.files.specs.Control.{next_of}
use Rattle.store.specs.Store.{Store}
use Rattle.store.specs.Answer.{after, Answer}
use Rattle.store.proofs.Gates.{after_cases}
use Rattle.writing.specs.Refusals.{create_answer, update_answer, delete_answer, settle_answer, revert_answer}
use Rattle.writing.specs.Calls.{create_leaves, update_leaves, delete_leaves, settle_leaves, revert_leaves}
use Rattle.soundness.specs.Touching.{MayChange, TouchesOnly}
use Rattle.soundness.proofs.Touching.{calls_touch_only, nothing_touched}
use Rattle.settling.specs.SettleList.{settle_each_leaves, settle_list_answer, settle_list_leaves}
use Rattle.settling.proofs.Theorems.{unchanged, changes_only}
use Rattle.ledger.specs.Call.{format, view, view_settled, create, update, delete, settle, revert, check, migrate, settle_list, recount}
use Rattle.ledger.specs.StoreRun.{next_s, result_s}
use Rattle.ledger.specs.LedgerSteps.{effect_of}
use Rattle.ledger.specs.Touched.{Touches, ListTouches}
use Rattle.ledger.proofs.Reading.{next_is}
use Rattle.ledger.proofs.Answering.{migrate_left}
use Rattle.ledger.proofs.Theorem.{opened}

same_touched : (s s' : Store) (m : ℕ) → s' ≡ s → TouchesOnly s s' m
same_touched s s' m e = rw e (nothing_touched s m (MayChange s s m))

-- done or refused
either : (s new : Store) (a : Answer) (m : ℕ) → (a ≡ Ok tt → TouchesOnly s (after a new s) m) → TouchesOnly s (after a new s) m
either s new a m done = ⊎_elim (λ d. done d.0) (λ r. same_touched s (after a new s) m r.1) (after_cases a new s)

pub touches : Touches
unfolding next_s result_s effect_of create_leaves update_leaves delete_leaves settle_leaves revert_leaves
touches s format sound other no_list = absurd (other refl)
touches s (view m tag occ) sound other no_list = same_touched s s 0 refl
touches s (view_settled m tag occ) sound other no_list = same_touched s s 0 refl
touches s (create d) sound other no_list = rw (next_is s (opened s sound)) (either s _ (create_answer s d) (next_of s.mst) ((calls_touch_only s sound).create d))
touches s (update m d) sound other no_list = either s _ (update_answer s m d) m ((calls_touch_only s sound).update m d)
touches s (delete m) sound other no_list = either s _ (delete_answer s m) m ((calls_touch_only s sound).delete m)
touches s (settle m) sound other no_list = either s _ (settle_answer s m) m ((calls_touch_only s sound).settle m)
touches s (revert m) sound other no_list = either s _ (revert_answer s m) m ((calls_touch_only s sound).revert m)
touches s check sound other no_list = same_touched s s 0 refl
touches s migrate sound other no_list = same_touched s _ 0 (migrate_left s (opened s sound))
touches s (settle_list ms lent) sound other no_list = absurd (no_list ms lent refl)
touches s recount sound other no_list = same_touched s _ 0 ((recounts s).nothing sound)

-- a list of MFNs, refused or not
pub list_touches : ListTouches
unfolding next_s result_s settle_list_leaves
list_touches s ms lent =
    ⊎_elim
    (λ d. rw d.1 (changes_only s ms))
    (λ r. rw r.1 (unchanged s ms))
    (after_cases (settle_list_answer (length ms) lent) (settle_each_leaves s ms) s)
