-- Calls as numbers. Five numbers a call: which call, the MFN, and three counts or arguments; the MFNs that are settled as a list, and the tags,
-- lengths and data of the drafts, stand one after the other in four lists of their own.
--
--   call               number   second   third            fourth       fifth
--   format             0
--   view               1        MFN      tag              occurrence
--   settled view       2        MFN      tag              occurrence
--   create             3                 number of tags   of lengths   of bytes
--   update             4        MFN      number of tags   of lengths   of bytes
--   delete             5        MFN
--   settle             6        MFN
--   revert             7        MFN
--   check              8
--   migrate            9
--   settle a list      10                number of MFNs   of answers
--   recount            11
use Rattle.std.specs.Prelude.{ℕ, Bool, true, false, ◌&&◌, cond, List, eqb, leb, get_or, Option, Some, None}
use Rattle.layout.specs.declared.sizes.Mfn.{Mfn}
use Rattle.layout.specs.declared.sizes.Tag.{Tag}
use Rattle.script.specs.declared.calls.Counts.{Counts}
use Rattle.script.specs.declared.calls.Op.{Op}
use Rattle.script.specs.declared.calls.Reading.TheVariants.{View, Settled, Check}
use Rattle.script.specs.declared.calls.Writing.TheVariants.{Format, Create, Update, Delete, Settle, Revert, Migrate, Recount}
use Rattle.script.specs.declared.calls.Op.TheVariants.{Asks, Writes, Settles}

-- the numbers of a call
abbrev pub call_size : ℕ
call_size = 5

-- numbers as the code holds them
abbrev pub mfn_of : ℕ → Mfn
mfn_of m = record { 0 = m }

abbrev pub tag_of : ℕ → Tag
tag_of t = record { 0 = t }

-- how many of the lists' MFNs, and how much of the drafts' tags, lengths and data
abbrev pub counts : ℕ → ℕ → ℕ → ℕ → Counts
counts mfns tags lens bytes = record { mfns = mfns; tags = tags; lens = lens; bytes = bytes }

abbrev pub draft_of : ℕ → ℕ → ℕ → Counts
draft_of tags lens bytes = counts 0 tags lens bytes

abbrev pub mfns_of : ℕ → Counts
mfns_of n = counts n 0 0 0

abbrev pub no_draft : Counts
no_draft = counts 0 0 0 0

-- a call whose numbers have to pass a test; else they are no call
abbrev pub op_if : Bool → Op → Option Op
op_if b o = cond b (Some o) None

-- a view, whose tag is a number of 16 bits
abbrev pub view_op : Bool → ℕ → ℕ → ℕ → Option Op
view_op settled m tag occ =
    op_if (leb tag 65535) (Asks (cond settled (Settled (mfn_of m) (tag_of tag) occ) (View (mfn_of m) (tag_of tag) occ)))

-- THE TABLE, by the number of the call, the MFN and the three numbers behind it
unfoldable pub op_named : ℕ → ℕ → ℕ → ℕ → ℕ → Option Op
op_named call m x y z =
    cond (eqb call 0) (Some (Writes Format no_draft))
    (cond (eqb call 1) (view_op false m x y)
    (cond (eqb call 2) (view_op true m x y)
    (cond (eqb call 3) (Some (Writes Create (draft_of x y z)))
    (cond (eqb call 4) (Some (Writes (Update (mfn_of m)) (draft_of x y z)))
    (cond (eqb call 5) (Some (Writes (Delete (mfn_of m)) no_draft))
    (cond (eqb call 6) (Some (Writes (Settle (mfn_of m)) no_draft))
    (cond (eqb call 7) (Some (Writes (Revert (mfn_of m)) no_draft))
    (cond (eqb call 8) (Some (Asks Check))
    (cond (eqb call 9) (Some (Writes Migrate no_draft))
    (cond (eqb call 10) (Some (Settles x y))
    (cond (eqb call 11) (Some (Writes Recount no_draft))
    None)))))))))))

-- the MFNs or the draft that it takes
abbrev pub taken_by : Op → Counts
taken_by (Asks r) = no_draft
taken_by (Writes w n) = n
taken_by (Settles mfns lent) = mfns_of mfns

-- what is no call takes none
abbrev pub taken_of : Option Op → Counts
taken_of None = no_draft
taken_of (Some o) = taken_by o

-- they have to be there: no more than what is left of the lists
abbrev pub counts_fit : Counts → Counts → Bool
counts_fit n left = leb n.mfns left.mfns && leb n.tags left.tags && leb n.lens left.lens && leb n.bytes left.bytes

abbrev pub op_fitting : Option Op → Counts → Option Op
op_fitting None left = None
op_fitting (Some o) left = op_if (counts_fit (taken_by o) left) o

-- from the first five of a list
unfoldable pub op_in : List ℕ → Counts → Option Op
op_in ns left = op_fitting (op_named (get_or ns 0 0) (get_or ns 1 0) (get_or ns 2 0) (get_or ns 3 0) (get_or ns 4 0)) left
