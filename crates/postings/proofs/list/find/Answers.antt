use mathlib.Core.Path.{refl}
use Rattle.postings.proofs.Opening.{open_bad, open_words, open_total, open_at}
use Rattle.postings.proofs.list.find.Goals as goal

pub overflow_sub-result : goal.overflow_sub-result
overflow_sub-result c = open_words _ _ _ c.read_header.ensures _ c.in-Some.is

pub returns-in-Some-clause-opens : goal.returns-in-Some-clause-opens
returns-in-Some-clause-opens c = open_at _ _ _ c.read_header.ensures _ c.in-Some.is c.if-s-lt2147483648.true

pub returns-in_default-clause-broken : goal.returns-in_default-clause-broken
returns-in_default-clause-broken c = (refl, open_total _ _ _ c.read_header.ensures _ c.in-Some.is c.if-s-lt2147483648.false)

pub returns-in_default-2-clause-broken : goal.returns-in_default-2-clause-broken
returns-in_default-2-clause-broken c = (refl, open_bad _ _ _ c.read_header.ensures c.in_default.is)
