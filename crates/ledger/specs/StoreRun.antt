-- The library's own run of a list of calls: each call gets the bytes the last one left. Made only of the definitions that the contracts of
-- the calls cite.
use Rattle.std.specs.Prelude.{ℕ, List, [], ◌∷◌, length}
use Rattle.writing.specs.Refusals.{format_answer, update_answer, delete_answer, settle_answer, revert_answer}
use Rattle.writing.specs.Calls.{Created, format_leaves, create_of, create_leaves, update_leaves, delete_leaves, settle_leaves, revert_leaves}
use Rattle.views.specs.Views.{Shown, view_of, settled_view_of, shown_bytes}
use Rattle.soundness.specs.Sound.{check_answer}
use Rattle.soundness.specs.Recount.{recount_answer, recount_leaves}
use Rattle.migrating.specs.Migrate.{migrate_answer, migrate_leaves}
use Rattle.settling.specs.SettleList.{settle_each_answers, settle_list_answer, settle_list_leaves}
use Rattle.store.specs.Answer.{after}
use Rattle.store.specs.Store.{Store}
use Rattle.ledger.specs.Call.{Call, format, view, view_settled, create, update, delete, settle, revert, check, migrate, settle_list, recount, Outcome, plain, returned, viewed, listed}

-- what a view shows, and what a create returns
abbrev pub shown_outcome : List ℕ → Shown → Outcome
shown_outcome mst r = viewed r.answer (shown_bytes mst r) r.occurrences

abbrev pub created_outcome : Created → Outcome
created_outcome r = returned r.answer r.mfn.0

-- what a list of MFNs answers: the answers that are written are the outcome's, by their numbers
abbrev pub list_outcome : Store → List ℕ → ℕ → Outcome
list_outcome s ms lent = listed (settle_list_answer (length ms) lent) (after (settle_list_answer (length ms) lent) (settle_each_answers s ms) [])

-- what a call answers and the store that it leaves
pub record Result : Type 0 where
  pub outcome : Outcome
  pub left : Store

abbrev pub result : Outcome → Store → Result
result o s = record { outcome = o; left = s }

unfoldable pub result_s : Store → Call → Result
result_s s format = result (plain (format_answer s)) (format_leaves s)
result_s s (view m tag occ) = result (shown_outcome s.mst (view_of s m tag occ)) s
result_s s (view_settled m tag occ) = result (shown_outcome s.mst (settled_view_of s m tag occ)) s
result_s s (create d) = result (created_outcome (create_of s d)) (create_leaves s d)
result_s s (update m d) = result (plain (update_answer s m d)) (update_leaves s m d)
result_s s (delete m) = result (plain (delete_answer s m)) (delete_leaves s m)
result_s s (settle m) = result (plain (settle_answer s m)) (settle_leaves s m)
result_s s (revert m) = result (plain (revert_answer s m)) (revert_leaves s m)
result_s s check = result (plain (check_answer s)) s
result_s s migrate = result (plain (migrate_answer s)) (migrate_leaves s)
result_s s (settle_list ms lent) = result (list_outcome s ms lent) (settle_list_leaves s ms lent)
result_s s recount = result (plain (recount_answer s)) (recount_leaves s)

unfoldable pub answer_s : Store → Call → Outcome
answer_s s c = (result_s s c).outcome

unfoldable pub next_s : Store → Call → Store
next_s s c = (result_s s c).left

-- the answers to a list of calls, in order, and the buffers after them
unfoldable pub answers_s : Store → List Call → List Outcome
answers_s s [] = []
answers_s s (c ∷ cs) = answer_s s c ∷ answers_s (next_s s c) cs

unfoldable pub after_s : Store → List Call → Store
after_s s [] = s
after_s s (c ∷ cs) = after_s (next_s s c) cs
