-- THE CLAIMS of specs/History hold of every sound store.
use Rattle.std.specs.Prelude.{Ok, Err}
use mathlib.Core.Path.{◌≡◌, ap}
use Rattle.soundness.proofs.SoundEntries.{stands, sound_apart_lem}
use Rattle.soundness.proofs.Recount.{recounts}
use Rattle.store.specs.Store.{Store}
use Rattle.store.specs.declared.answer.Refusal.TheVariants.{BadControl}
use Rattle.ledger.specs.Call.{migrate, plain, recount}
use Rattle.ledger.specs.StoreRun.{answer_s, next_s, result_s}
use Rattle.ledger.specs.LedgerOf.{SoundStore}
use Rattle.ledger.specs.History.{Claims}
use Rattle.ledger.proofs.History.{settled_version, never_settled}
use Rattle.ledger.proofs.Others.{other_views}
use Rattle.ledger.proofs.Room.{create_room, update_room, delete_room}
use Rattle.ledger.proofs.Answering.{migrate_refuses, migrate_left}
use Rattle.ledger.proofs.Theorem.{opened}

migrate_refused : (s : Store) → SoundStore s → answer_s s migrate ≡ plain (Err BadControl)
unfolding answer_s result_s
migrate_refused s h = ap plain (migrate_refuses s (opened s h))

migrate_nothing : (s : Store) → SoundStore s → next_s s migrate ≡ s
unfolding next_s result_s
migrate_nothing s h = migrate_left s (opened s h)

recount_nothing : (s : Store) → SoundStore s → next_s s recount ≡ s
unfolding next_s result_s
recount_nothing s h = (recounts s).nothing h

recount_done : (s : Store) → SoundStore s → answer_s s recount ≡ plain (Ok tt)
unfolding answer_s result_s
recount_done s h = ap plain ((recounts s).done (sound_apart_lem s.mst s.xrf (stands s.mst s.xrf h)))

pub claims : (s : Store) → SoundStore s → Claims s
claims s h =
    record {
      settled_version = settled_version s h;
      never_settled = never_settled s h;
      others = other_views s h;
      create_room = create_room s h;
      update_room = update_room s h;
      delete_room = delete_room s h;
      migrate_refused = migrate_refused s h;
      migrate_nothing = migrate_nothing s h;
      recount_done = recount_done s h;
      recount_nothing = recount_nothing s h;
    }
