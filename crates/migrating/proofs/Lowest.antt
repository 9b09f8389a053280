-- The table of a migration ascends, so its answer is the lowest that applies.
use mathlib.Core.Path.{refl}
use Rattle.store.specs.Store.{Store}
use Rattle.store.specs.Answer.{number_of}
use Rattle.store.proofs.Lowest.{above, IsLowest, lowest_is_lowest}
use Rattle.migrating.specs.Migrate.{migrate_refusals, migrate_answer}

pub migrate_lowest : (s : Store) → IsLowest (migrate_refusals s) (migrate_answer s)
unfolding migrate_answer above number_of
migrate_lowest s = lowest_is_lowest (migrate_refusals s) refl
