-- The calls of a list of numbers, by the table of `script/specs/Ops`, and what is left of the list behind each.
use Rattle.std.specs.Prelude.{ℕ, zero, suc, cond, List, [], ◌∷◌, leb, length, take, drop, Option, Some, None}
use Rattle.drafts.specs.Draft.{Draft, draft}
use Rattle.ledger.specs.Call.{Call, format, view, view_settled, create, update, delete, settle, revert, check, migrate, settle_list, recount}
use Rattle.script.specs.Ops.{call_size, counts, taken_of, op_in}
use Rattle.script.specs.declared.calls.Counts.{Counts}
use Rattle.script.specs.declared.lists.Script as lent
use Rattle.script.specs.declared.calls.Reading.{Reading}
use Rattle.script.specs.declared.calls.Writing.{Writing}
use Rattle.script.specs.declared.calls.Op.{Op}
use Rattle.script.specs.declared.calls.Reading.TheVariants.{View, Settled, Check}
use Rattle.script.specs.declared.calls.Writing.TheVariants.{Format, Create, Update, Delete, Settle, Revert, Migrate, Recount}
use Rattle.script.specs.declared.calls.Op.TheVariants.{Asks, Writes, Settles}

-- what is left of a list of calls: the numbers, the MFNs that are settled as lists, and the drafts' tags, lengths and data
pub record Script : Type 0 where
  pub ops : List ℕ
  pub mfns : List ℕ
  pub tags : List ℕ
  pub lens : List ℕ
  pub bytes : List ℕ

abbrev pub script : List ℕ → List ℕ → List ℕ → List ℕ → List ℕ → Script
script ops mfns tags lens bytes = record { ops = ops; mfns = mfns; tags = tags; lens = lens; bytes = bytes }

-- the lists that were lent
abbrev pub script_of : lent.Script → Script
script_of l = script l.ops.now l.mfns.now l.tags.now l.lens.now l.bytes.now

-- ---- the call that it is

abbrev pub reading_call : Reading → Call
reading_call (View m tag occ) = view m.0 tag.0 occ
reading_call (Settled m tag occ) = view_settled m.0 tag.0 occ
reading_call Check = check

-- one that may write, with its draft
unfoldable pub writing_call : Draft → Writing → Call
writing_call d Format = format
writing_call d Create = create d
writing_call d (Update m) = update m.0 d
writing_call d (Delete m) = delete m.0
writing_call d (Settle m) = settle m.0
writing_call d (Revert m) = revert m.0
writing_call d Migrate = migrate
writing_call d Recount = recount

-- so much from the front of the three lists
abbrev pub front_draft : List ℕ → List ℕ → List ℕ → Counts → Draft
front_draft tags lens bytes n = draft (take n.tags tags) (take n.lens lens) (take n.bytes bytes)

abbrev pub call_by : Script → Op → Call
call_by s (Asks r) = reading_call r
call_by s (Writes w n) = writing_call (front_draft s.tags s.lens s.bytes n) w
-- the next MFNs, lent a list for so many answers
call_by s (Settles n lent) = settle_list (take n s.mfns) lent

abbrev pub call_of : Script → Option Op → Option Call
call_of s None = None
call_of s (Some o) = Some (call_by s o)

-- ---- the calls of a list

-- what is left of the MFNs and of the drafts
abbrev pub left_of : Script → Counts
left_of s = counts (length s.mfns) (length s.tags) (length s.lens) (length s.bytes)

unfoldable pub first_op : Script → Option Op
first_op s = op_in s.ops (left_of s)

-- the first call; none where the list is at its end or malformed
unfoldable pub first_call : Script → Option Call
first_call s = cond (leb call_size (length s.ops)) (call_of s (first_op s)) None

-- the list after its first call, which uses its MFNs or its draft up, and after n calls
unfoldable pub rest_of : Script → Script
rest_of s =
    script
    (drop call_size s.ops)
    (drop (taken_of (first_op s)).mfns s.mfns)
    (drop (taken_of (first_op s)).tags s.tags)
    (drop (taken_of (first_op s)).lens s.lens)
    (drop (taken_of (first_op s)).bytes s.bytes)

unfoldable pub rest_after : ℕ → Script → Script
rest_after zero s = s
rest_after (suc n) s = rest_after n (rest_of s)

-- by whether there is a call
abbrev pub on_call {ℓ} : {A : Type ℓ} → Option Call → A → (Call → A) → A
on_call None x f = x
on_call (Some c) x f = f c

-- the calls of a list, at most n, up to the first that is malformed
unfoldable pub calls_in : ℕ → Script → List Call
calls_in zero s = []
calls_in (suc n) s = on_call (first_call s) [] (λ c. c ∷ calls_in n (rest_of s))

-- all of them: there are no more calls than numbers
unfoldable pub calls_of : Script → List Call
calls_of s = calls_in (length s.ops) s
