-- Inner: serves the functions of this crate, no part of what is promised. What an update or a
-- delete has decided before it writes: the refusal, or where the new version goes.
use Rattle.std.specs.Prelude.{ℕ, ◌+◌, Bool, ◌&&◌, cond, ltb, Result, Ok, Err}
use Rattle.files.specs.Control.{end_of}
use Rattle.drafts.specs.Bytes.{need_for}
use Rattle.store.specs.Store.{Store}
use Rattle.drafts.specs.Draft.{Draft, fields_in}
use Rattle.store.specs.Answer.{give, Answer}
use Rattle.store.specs.Gate.{reached_at}
use Rattle.store.specs.Reading.{place_for, is_settled, leader_at}
use Rattle.store.specs.declared.answer.Refusal.{Refusal}
use Rattle.store.specs.declared.answer.Refusal.TheVariants.{NoRoom}
use Rattle.store.specs.declared.gate.Reached.{Reached}
use Rattle.writing.specs.Refusals.{update_answer, delete_answer}
use Rattle.versions.specs.Written.{update_appends}
use Rattle.updating.specs.declared.changes.NewVersion.{NewVersion}

-- a new version of what was reached, at the end or in place
abbrev pub version_of : Reached → Bool → NewVersion
version_of was appends = record { was = was; appends = appends }

-- that of MFN m's record, where the answer is done
unfoldable pub plan_if : Answer → Bool → Store → ℕ → Result NewVersion Refusal
plan_if a appends s m = give a (version_of (reached_at (end_of s.mst) (place_for s m) (leader_at s.mst (place_for s m))) appends)

unfoldable pub update_plan : Store → ℕ → Draft → Result NewVersion Refusal
update_plan s m d =
    plan_if (update_answer s m d) (update_appends (place_for s m) (leader_at s.mst (place_for s m)) (need_for (fields_in d))) s m

unfoldable pub delete_plan : Store → ℕ → Result NewVersion Refusal
delete_plan s m = plan_if (delete_answer s m) (is_settled (place_for s m).mark) s m

-- a version of a need in an MST of a length: if it goes to the end, there has to be room for it
unfoldable pub room_plan : ℕ → ℕ → Reached → Bool → Result NewVersion Refusal
room_plan room need was appends = cond (appends && ltb room (was.end + need)) (Err NoRoom) (Ok (version_of was appends))
