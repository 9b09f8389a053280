-- `find_field`: what was met before entry i is what was asked for without `left`, and the rest of the walk is that from i on.
use Rattle.record.proofs.Search.{Sought}
use Rattle.record.proofs.fields.find_field.Given as goal

abbrev pub invariant-loop-i : goal.invariant-loop-i
invariant-loop-i l = Sought l.rec l.tag.0 l.occurrence l.base l.nvf l.i l.left
