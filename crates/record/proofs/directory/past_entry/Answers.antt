use Rattle.std.proofs.Common.{sym, ◌∙◌}
use Rattle.record.specs.Directory.{isis}
use Rattle.record.proofs.DirectoryTest.{right_fits}
use Rattle.record.proofs.directory.past_entry.Goals as goal

pub returns-clause-fits : goal.returns-clause-fits
returns-clause-fits c =
    let l = c.len_at.ensures.0 in
    rw l (right_fits isis _ _ _ _ (sym c.entry_right.ensures ∙ c.if-not-entry_right.false))
