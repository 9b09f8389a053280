-- Format makes any two buffers of permitted length a sound store whose ledger is empty, whatever they held.
use Rattle.std.specs.Prelude.{Ok}
use Prim.Native.Nat.{ℕ}
use mathlib.Core.Path.{◌≡◌}
use mathlib.Core.Bool.{true}
use mathlib.Core.List.{List}
use lib.ListN.{length}
use Rattle.files.proofs.Count.{formatted_none}
use Rattle.soundness.specs.Sound.{sum_to, live_count}
use Rattle.layout.specs.Sizes.{mst_permitted, xrf_permitted}
use Rattle.files.specs.CrossReference.{formatted_xrf}
use Rattle.files.specs.Control.{next_of, end_of, formatted_mst}
use Rattle.files.proofs.ControlRecord.{formatted_length, formatted_next, formatted_end}
use Rattle.files.proofs.CrossReference.{formatted_xrf_length}
use Rattle.store.specs.Reading.{lengths_permitted}
use Rattle.writing.specs.Refusals.{format_answer}
use Rattle.writing.specs.Calls.{format_leaves}
use Rattle.store.proofs.Gates.{lengths_both, after_done}
use Rattle.soundness.proofs.SoundEntries.{sound}
use Rattle.soundness.proofs.Writes.{format_sound}
use Rattle.ledger.specs.Call.{format}
use Rattle.ledger.specs.Ledger.{empty}
use Rattle.store.specs.Store.{Store, store}
use Rattle.ledger.specs.StoreRun.{next_s, result_s}
use Rattle.ledger.specs.LedgerOf.{tabulate, ledger_of, SoundStore}

-- a store just formatted
abbrev pub formatted : List ℕ → List ℕ → Store
formatted mst xrf = store (formatted_mst (length mst)) (formatted_xrf (length xrf))

module _ (mst xrf : List ℕ) (h : lengths_permitted (store mst xrf) ≡ true) where
  mst_fits : mst_permitted (length mst) ≡ true
  mst_fits = (lengths_both mst xrf h).0

  xrf_fits : xrf_permitted (length xrf) ≡ true
  xrf_fits = (lengths_both mst xrf h).1

  mst_long : length (formatted_mst (length mst)) ≡ length mst
  mst_long = formatted_length (length mst) mst_fits

  xrf_long : length (formatted_xrf (length xrf)) ≡ length xrf
  xrf_long = formatted_xrf_length (length xrf) xrf_fits

  first_next : next_of (formatted_mst (length mst)) ≡ 1
  first_next = formatted_next (length mst) mst_fits

  first_end : end_of (formatted_mst (length mst)) ≡ 64
  first_end = formatted_end (length mst) mst_fits

  pub formatted_sound : SoundStore (formatted mst xrf)
  unfolding live_count sum_to
  formatted_sound =
      sound (formatted_mst (length mst)) (formatted_xrf (length xrf)) (format_sound mst xrf h) (rw first_next (formatted_none (length mst) mst_fits))

  pub formatted_ledger : ledger_of (formatted mst xrf) ≡ empty (length mst) (length xrf)
  unfolding ledger_of empty tabulate
  formatted_ledger = rw (first_next, first_end, mst_long, xrf_long)

  pub format_done : format_answer (store mst xrf) ≡ Ok tt
  unfolding format_answer
  format_done = rw h

  -- what a format that is done leaves
  pub format_leaves_lem : next_s (store mst xrf) format ≡ formatted mst xrf
  unfolding next_s format_leaves result_s
  format_leaves_lem = after_done (format_answer (store mst xrf)) (formatted mst xrf) (store mst xrf) format_done
