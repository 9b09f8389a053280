use native.Mathlib.Omega.{arith}
use Rattle.walking.proofs.Walking.{walk_answers}
use Rattle.record.proofs.Facts.{readable_facts}
use Rattle.walking.proofs.walker.spot_at.Goals as goal

pub tag_at-requires : goal.tag_at-requires
tag_at-requires c = omega (arith, readable_facts c.requires.readable)

pub overflow_mul-result : goal.overflow_mul-result
overflow_mul-result c = omega (arith, readable_facts c.requires.readable)

pub overflow_add-result : goal.overflow_add-result
overflow_add-result c = omega (arith, readable_facts c.requires.readable)

pub pos_at-requires : goal.pos_at-requires
pos_at-requires c = omega (arith, readable_facts c.requires.readable)

pub overflow_add-result-2 : goal.overflow_add-result-2
overflow_add-result-2 c = omega (arith, readable_facts c.requires.readable)

pub len_at-requires : goal.len_at-requires
len_at-requires c = omega (arith, readable_facts c.requires.readable)

pub returns : goal.returns
returns c = search walk_answers
