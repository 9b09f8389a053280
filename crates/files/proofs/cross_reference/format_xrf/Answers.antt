use Rattle.files.proofs.Answers.{xrf_put}
use Rattle.files.proofs.cross_reference.format_xrf.Goals as goal

pub returns : goal.returns
returns c = xrf_put _ _ _ (c.fill.ensures.after (λ y e. e)) c.put_heads.ensures
