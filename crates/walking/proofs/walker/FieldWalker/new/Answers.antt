use Rattle.walking.proofs.Walking.{walk_new}
use Rattle.walking.proofs.walker.FieldWalker.new.Goals as goal

pub returns : goal.returns
returns c = walk_new _ _ c.requires.1
