-- `put_directory`: after i turns the entries of the first i fields stand at byte 18, and pos is the sum of their lengths.
use Rattle.std.proofs.Common.{refl, arith}
use Rattle.drafts.specs.Draft.{sum}
use Rattle.drafts.proofs.DraftFacts.{draft_facts}
use Rattle.drafts.proofs.Writing.{entries_none, entries_sum, entries_fit, entries_more, entries_all}
use Rattle.drafts.proofs.writer.put_directory.Goals as goal

pub loop-i-init : goal.loop-i-init
unfolding sum
loop-i-init c = (refl, refl, entries_none _ _ _ _ c.requires.right c.requires.room)

pub bounds-draft-i : goal.bounds-draft-i
bounds-draft-i c = let f = draft_facts _ _ _ c.requires.right in omega arith

pub overflow_add-pos : goal.overflow_add-pos
overflow_add-pos c =
    let v = c.loop-i.invariant in
    omega (arith, entries_fit c.args.out.now _ _ _ c.requires.right c.requires.room _ _ v.1 c.loop-i-test.true)

pub loop-i-preserved : goal.loop-i-preserved
loop-i-preserved c =
    let v = c.loop-i.invariant in
    let h = c.loop-i-test.true in (
      omega arith,
      entries_sum c.args.out.now _ _ _ c.requires.right c.requires.room _ _ v.1 h,
      entries_more _ _ _ _ c.requires.right c.requires.room _ _ v.1 v.2 h c.put_directory_entry.ensures,
    )

pub returns : goal.returns
returns c = entries_all _ _ _ _ c.requires.right c.requires.room _ c.loop-i-test.false c.loop-i.invariant.2
