-- The refusals that calls share, in the order of their numbers. Document 01, "Answer numbers".
use Rattle.std.specs.Prelude.{ℕ, Bool, not, ◌&&◌, List, ◌∷◌}
use Rattle.store.specs.Store.{Store}
use Rattle.store.specs.Answer.{Row, refuse}
use Rattle.store.specs.Reading.{lengths_permitted, control_fine, mfn_in_range, entry_for, place_for, is_malformed, is_gone, record_fine, version_fine}
use Rattle.store.specs.declared.answer.Refusal.TheVariants.{BadLength, BadControl, NoMfn, BadEntry, Gone, BadRecord}

-- 1 and 2, before the refusals of every call but format
abbrev pub gated : Store → List Row → List Row
gated s rest =
    refuse BadLength (not (lengths_permitted s))
    ∷ refuse BadControl (not (control_fine s))
    ∷ rest

-- 4, 6, 7 and 8, for calls that name an MFN; `fine` is what 8 asks
abbrev pub named : Store → ℕ → Bool → List Row → List Row
named s m fine rest =
    refuse NoMfn (not (mfn_in_range s.mst m))
    ∷ refuse BadEntry (is_malformed (entry_for s m))
    ∷ refuse Gone (is_gone (entry_for s m))
    ∷ refuse BadRecord (not fine)
    ∷ rest

-- 8 for a call that uses the record alone, and for one that uses its settled version too
abbrev pub fine : Store → ℕ → Bool
fine s m = record_fine s.mst m (place_for s m)

abbrev pub both_fine : Store → ℕ → Bool
both_fine s m = record_fine s.mst m (place_for s m) && version_fine s.mst m (place_for s m)
