-- `put_directory`: after i turns the entries of the first i fields stand at byte 18, and pos is the sum of their lengths.
use Rattle.std.proofs.Common.{◌≡◌, length, take}
use Rattle.word.specs.Overwrite.{overwrite}
use Rattle.drafts.specs.Draft.{sum, draft_fields}
use Rattle.drafts.specs.Bytes.{directory_bytes}
use Rattle.drafts.proofs.writer.put_directory.Given as goal

abbrev pub invariant-loop-i : goal.invariant-loop-i
invariant-loop-i l =
    (length l.out ≡ length l.initial.out)
    × (l.pos ≡ sum (take l.i l.draft.lens.now))
    × (l.out ≡ overwrite l.initial.out 18 (directory_bytes 0 (take l.i (draft_fields l.draft.tags.now l.draft.lens.now l.draft.data.now))))
