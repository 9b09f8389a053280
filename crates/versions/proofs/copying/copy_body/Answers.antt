use Rattle.versions.proofs.Body.{body_copied}
use Rattle.versions.proofs.copying.copy_body.Goals as goal

pub returns : goal.returns
returns c = search body_copied
