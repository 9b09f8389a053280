use Rattle.layout.proofs.Codec.{coding}
use Rattle.layout.proofs.entry.encode.Goals as goal

pub overflow_add-low : goal.overflow_add-low
overflow_add-low c = search coding

pub overflow_cast-low : goal.overflow_cast-low
overflow_cast-low c = search coding

pub overflow_sub-result : goal.overflow_sub-result
overflow_sub-result c = search coding

pub overflow_add-result : goal.overflow_add-result
overflow_add-result c = search coding

pub returns-then-p : goal.returns-then-p
returns-then-p c = search coding

pub returns-else-p : goal.returns-else-p
returns-else-p c = search coding
