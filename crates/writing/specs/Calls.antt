-- What each call that may write leaves in the two buffers: the new store where it is done, the old one where it is refused.
-- Document 01, "What the calls do".
use Rattle.std.specs.Prelude.{ℕ, length, Result, Ok, Err}
use Rattle.files.specs.CrossReference.{formatted_xrf}
use Rattle.files.specs.Control.{next_of, formatted_mst}
use Rattle.store.specs.Store.{Store, store}
use Rattle.drafts.specs.Draft.{Draft, fields_in}
use Rattle.store.specs.Answer.{Answer, after}
use Rattle.store.specs.Reading.{place_for, current_fields}
use Rattle.versions.specs.Written.{created_mst, created_xrf, updated_mst, updated_xrf, deleted_mst, deleted_xrf, settled_mst, settled_xrf, reverted_mst, reverted_xrf}
use Rattle.writing.specs.Refusals.{format_answer, create_answer, update_answer, delete_answer, settle_answer, revert_answer}
use Rattle.layout.specs.declared.sizes.Mfn.{Mfn}
use Rattle.store.specs.declared.answer.Refusal.{Refusal}

unfoldable pub format_leaves : Store → Store
format_leaves s = after (format_answer s) (store (formatted_mst (length s.mst)) (formatted_xrf (length s.xrf))) s

-- the answer of a create, and the MFN that it returns
pub record Created : Type 0 where
  pub answer : Answer
  pub mfn : Mfn

-- the same of what is given
abbrev pub created : Result Mfn Refusal → Created
created (Ok m) = record { answer = Ok tt; mfn = m }
created (Err r) = record { answer = Err r; mfn = record { 0 = 0 } }

-- create returns the MFN, 0 where it is refused
unfoldable pub create_of : Store → Draft → Created
create_of s d = record { answer = create_answer s d; mfn = record { 0 = after (create_answer s d) (next_of s.mst) 0 } }

unfoldable pub create_leaves : Store → Draft → Store
create_leaves s d = after (create_answer s d) (store (created_mst s.mst (fields_in d)) (created_xrf s.mst s.xrf)) s

unfoldable pub update_leaves : Store → ℕ → Draft → Store
update_leaves s m d =
    after (update_answer s m d)
    (store (updated_mst s.mst m (place_for s m) (fields_in d)) (updated_xrf s.mst s.xrf m (place_for s m) (fields_in d)))
    s

unfoldable pub delete_leaves : Store → ℕ → Store
delete_leaves s m =
    after (delete_answer s m)
    (store (deleted_mst s.mst m (place_for s m) (current_fields s.mst (place_for s m))) (deleted_xrf s.mst s.xrf m (place_for s m)))
    s

unfoldable pub settle_leaves : Store → ℕ → Store
settle_leaves s m = after (settle_answer s m) (store (settled_mst s.mst (place_for s m)) (settled_xrf s.xrf m (place_for s m))) s

unfoldable pub revert_leaves : Store → ℕ → Store
revert_leaves s m =
    after (revert_answer s m) (store (reverted_mst s.mst (place_for s m)) (reverted_xrf s.mst s.xrf m (place_for s m))) s
