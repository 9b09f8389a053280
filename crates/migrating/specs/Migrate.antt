-- What a migration answers and leaves. Request C-12.
use Rattle.std.specs.Prelude.{Bool, not, List, [], ◌∷◌, length}
use Rattle.layout.specs.Sizes.{capacity_of}
use Rattle.files.specs.Control.{old_control_right, migrated_mst}
use Rattle.store.specs.Store.{Store, store}
use Rattle.store.specs.Answer.{Row, refuse, lowest, after, Answer}
use Rattle.store.specs.Reading.{lengths_permitted}
use Rattle.store.specs.declared.answer.Refusal.TheVariants.{BadLength, BadControl}

-- the control record is right by the old rule, for the capacity of the XRF
abbrev pub old_control_fine : Store → Bool
old_control_fine s = old_control_right s.mst (capacity_of (length s.xrf))

-- 0, 1 or 2
abbrev pub migrate_refusals : Store → List Row
migrate_refusals s =
    refuse BadLength (not (lengths_permitted s))
    ∷ refuse BadControl (not (old_control_fine s))
    ∷ []

unfoldable pub migrate_answer : Store → Answer
migrate_answer s = lowest (migrate_refusals s)

-- NXTMFP plus 1, and no other byte changed
unfoldable pub migrate_leaves : Store → Store
migrate_leaves s = after (migrate_answer s) (store (migrated_mst s.mst) s.xrf) s
