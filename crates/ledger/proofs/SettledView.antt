-- WHERE A RECORD IS SETTLED, ITS SETTLED VIEW IS ITS CURRENT ONE, on any two buffers: the settled version is asked for under changed alone.
use Prim.Native.Nat.{ℕ}
use mathlib.Core.Bool.{and-true}
use Rattle.store.specs.Reading.{version_fine}
use Rattle.views.specs.Views.{view_answer, settled_view_answer, view_of, settled_view_of}
use Rattle.store.specs.Store.{Store}
use Rattle.ledger.specs.StoreRun.{answer_s, result_s}
use Rattle.ledger.specs.History.{SettledIsCurrent}

pub settled_is_current : (s : Store) (m : ℕ) → SettledIsCurrent s m
unfolding answer_s view_of settled_view_of view_answer settled_view_answer version_fine result_s
settled_is_current s m e tag occ = rw (e, and-true _, and-true _)
