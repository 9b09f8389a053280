-- DEMAND 3. Format two buffers of permitted size, whatever they held; then for every list of calls, refused ones included, every answer, every
-- MFN returned, every field shown and every count equals, in order, what the ledger answers to the same calls, and the buffers hold what the
-- ledger keeps. One statement about the whole list, by induction from one step; it starts from any sound store, with the ledger that its bytes
-- give, and format is the special case.
use Rattle.std.specs.Prelude.{Ok}
use Prim.Native.Nat.{ℕ}
use mathlib.Core.Path.{◌≡◌, refl, sym, ap, ◌∙◌}
use mathlib.Core.Bool.{Bool, true, false}
use mathlib.Core.List.{List, [], ◌∷◌}
use lib.ListN.{length}
use lib.IntN.{pos}
use Rattle.files.specs.Control.{end_of, formatted_mst, count_of, count_full, count_none}
use Rattle.layout.specs.declared.entry.Place.{Place}
use Rattle.layout.specs.declared.entry.Entry.TheVariants.{At}
use Rattle.store.proofs.Gates.{mfn_facts}
use Rattle.soundness.specs.Sound.{live_count}
use Rattle.soundness.proofs.Live.{sound_not_full, sound_not_none}
use Rattle.soundness.proofs.Recount.{recounts}
use Rattle.files.specs.CrossReference.{formatted_xrf}
use Rattle.drafts.proofs.Draftable.{draft_draftable}
use Rattle.store.specs.Answer.{lowest, after, Answer}
use Rattle.settling.specs.SettleList.{settle_each_answers, settle_each_leaves, settle_list_refusals, settle_list_answer, settle_list_leaves}
use Rattle.store.specs.Reading.{lengths_permitted, mfn_in_range, entry_for}
use Rattle.writing.specs.Refusals.{format_answer, create_answer, update_answer, delete_answer, settle_answer, revert_answer}
use Rattle.writing.specs.Calls.{format_leaves, create_of, create_leaves, update_leaves, delete_leaves, settle_leaves, revert_leaves}
use Rattle.store.proofs.Gates.{after_same}
use Rattle.soundness.proofs.SoundEntries.{Sound, stands, stands_counted, body_apart_lem, body_sound_lem, EntryStands, is_gone_lem, is_at, known_stands, create_row, below_capacity, version_fine_lem}
use Rattle.soundness.proofs.Asked.{create_asked, update_asked, delete_asked, settle_asked, revert_asked}
use Rattle.store.specs.Store.{Store, store}
use Rattle.drafts.specs.Draft.{Draft}
use Rattle.ledger.specs.Call.{Call, format, view, view_settled, create, update, delete, settle, revert, check, migrate, settle_list, recount, Outcome, plain, returned, listed}
use Rattle.ledger.specs.Ledger.{Ledger, next_mfn}
use Rattle.ledger.specs.LedgerAnswers.{settle_rows, settled_one, settled_each, answers_each, refusals_l, number_l, gives_l, outcome_of, answer_l, reply_l}
use Rattle.ledger.specs.LedgerSteps.{stays, applied, effect_of, next_l, after_l}
use Rattle.ledger.specs.StoreRun.{answer_s, next_s, after_s, result_s}
use Rattle.ledger.specs.LedgerOf.{ledger_of, SoundStore}
use Rattle.ledger.specs.Demand3.{Kept, FromSound, Demand3}
use Rattle.ledger.proofs.Reading.{Opened, Seen, absent, physically, present, next_is}
use Rattle.ledger.proofs.Answering.{format_answer_lem, create_answer_lem, update_answer_lem, delete_answer_lem, settle_answer_lem, revert_answer_lem, check_answer_lem, recount_answer_lem, migrate_answer_lem, migrate_left}
use Rattle.ledger.proofs.Viewing.{view_outcome, settled_view_outcome}
use Rattle.ledger.proofs.Formatting.{formatted, formatted_sound, formatted_ledger, format_leaves_lem}
use Rattle.ledger.proofs.Creating.{create_left}
use Rattle.ledger.proofs.Either.{Left, either}
use Rattle.ledger.proofs.Versions.{update_left, delete_left, settle_left, revert_left}
use Rattle.ledger.proofs.Effects.{one_is}
use Rattle.ledger.proofs.Lists.{Step, run_all}

module _ (t : Store) (h : SoundStore t) where
  -- ---- what is known of a sound store

  s : Sound t.mst t.xrf
  s = stands t.mst t.xrf h

  -- RECCNT
  c : count_of t.mst ≡ pos (live_count t)
  c = stands_counted t.mst t.xrf h

  less : count_full t.mst ≡ false
  less = sound_not_full s c

  some : (m : ℕ) (p : Place) → mfn_in_range t.mst m ≡ true → entry_for t m ≡ At p → p.deleted ≡ false → count_none t.mst ≡ false
  some m p k e live = let r = mfn_facts t.mst m k in sound_not_none s c m p r.low r.high e live

  pub opened : Opened t
  opened = record { lengths = s.lengths; control = s.control; next_low = s.numbers.next_low }

  see : (m : ℕ) → Seen t m
  see m = go (mfn_in_range t.mst m) refl
    where
      at : mfn_in_range t.mst m ≡ true → EntryStands t.mst t.xrf m → Seen t m
      at k (is_gone_lem e) = physically k e
      at k (is_at p e f) = present p k e f.fine (version_fine_lem t.mst m p f)

      go : (b : Bool) → mfn_in_range t.mst m ≡ b → Seen t m
      go true k = at k (known_stands s m k)
      go false k = absent k

  -- ---- one call: it reads, or it may write

  asked : (c : Call) → answer_s t c ≡ answer_l (ledger_of t) c → next_s t c ≡ t → effect_of (ledger_of t) c ≡ stays → Step t c
  unfolding next_l
  asked c a n e =
      record { answer = a; next = rw (n, e, after_same (number_l (ledger_of t) c) (ledger_of t)); sound = rw n h }

  written : (c : Call) (a : Answer) (t' : Store) → a ≡ number_l (ledger_of t) c → answer_s t c ≡ outcome_of a (gives_l (ledger_of t) c) → next_s t c ≡ after a t' t
      → (a ≡ Ok tt → Left t' (applied (ledger_of t) (effect_of (ledger_of t) c))) → Step t c
  unfolding answer_l next_l
  written c a t' same gives leaves done =
      let l = either a (number_l (ledger_of t) c) t t' (applied (ledger_of t) (effect_of (ledger_of t) c)) same h done in
      record {
        answer = gives ∙ ap (λ (b : Answer). outcome_of b (gives_l (ledger_of t) c)) same;
        next = rw leaves l.ledger;
        sound = rw leaves l.sound;
      }

  -- the ledger knows the lengths, and the next MFN
  emptied_left : Left (store (formatted_mst (length t.mst)) (formatted_xrf (length t.xrf))) (applied (ledger_of t) (effect_of (ledger_of t) format))
  unfolding effect_of ledger_of
  emptied_left = record { ledger = formatted_ledger t.mst t.xrf s.lengths; sound = formatted_sound t.mst t.xrf s.lengths }

  create_gives : (d : Draft) → answer_s t (create d) ≡ outcome_of (create_answer t d) (gives_l (ledger_of t) (create d))
  unfolding answer_s gives_l create_of reply_l result_s
  create_gives d =
      ap (λ (n : ℕ). returned (create_answer t d) (after (create_answer t d) n 0))
      (sym (next_is t opened))

  -- one MFN is settled
  settle_step : (m : ℕ) → Step t (settle m)
  unfolding answer_s gives_l next_s effect_of settle_leaves reply_l result_s
  settle_step m =
      written (settle m) (settle_answer t m) _ (settle_answer_lem t opened m (see m)) refl refl
      (λ e. settle_left t.mst t.xrf s c m opened (settle_asked s m e).here)

-- ---- a list of MFNs: each is settled by one step

record Each (t : Store) (ms : List ℕ) : Type 0 where
  answers : settle_each_answers t ms ≡ answers_each (ledger_of t) ms
  last : ledger_of (settle_each_leaves t ms) ≡ settled_each (ledger_of t) ms
  sound : SoundStore (settle_each_leaves t ms)

-- what the step of one says of the fold
first_answer : (t : Store) (m : ℕ) → Step t (settle m) → settle_answer t m ≡ lowest (settle_rows (ledger_of t) m)
unfolding answer_s result_s answer_l number_l refusals_l gives_l reply_l
first_answer t m one = ap (λ (o : Outcome). o.answer) one.answer

first_left : (t : Store) (m : ℕ) → Step t (settle m) → Left (settle_leaves t m) (settled_one (ledger_of t) m)
unfolding next_s result_s
first_left t m one = record { ledger = one.next ∙ sym (one_is (ledger_of t) m); sound = one.sound }

each : (t : Store) → SoundStore t → (ms : List ℕ) → Each t ms
unfolding settle_each_answers settle_each_leaves answers_each settled_each
each t h [] = record { answers = refl; last = refl; sound = h }
each t h (m ∷ ms) =
    let one = settle_step t h m in
    let l = first_left t m one in
    let rest = each (settle_leaves t m) l.sound ms in
    record {
      answers = rw (first_answer t m one, rest.answers, l.ledger);
      last = rest.last ∙ ap (λ (L : Ledger). settled_each L ms) l.ledger;
      sound = rest.sound;
    }

-- and the list is refused by the same two lengths
list_step : (t : Store) → SoundStore t → (ms : List ℕ) (lent : ℕ) → Step t (settle_list ms lent)
unfolding answer_s next_s result_s answer_l next_l number_l refusals_l gives_l reply_l effect_of settle_list_answer settle_list_leaves
list_step t h ms lent =
    let r = each t h ms in
    let a = lowest (settle_list_refusals (length ms) lent) in
    let l = either a a t (settle_each_leaves t ms) (settled_each (ledger_of t) ms) refl h (λ d. record { ledger = r.last; sound = r.sound }) in
    record { answer = ap (λ (each : List Answer). listed a (after a each [])) r.answers; next = l.ledger; sound = l.sound }

-- ---- every call

module _ (t : Store) (h : SoundStore t) where
  pub step : (c : Call) → Step t c
  unfolding answer_s answer_l gives_l next_s effect_of format_leaves create_leaves update_leaves delete_leaves settle_leaves revert_leaves reply_l result_s
  step format = written t h format (format_answer t) _ (format_answer_lem t (opened t h)) refl refl (λ d. emptied_left t h)
  step (view m tag occ) = asked t h (view m tag occ) (view_outcome t (opened t h) m tag occ (see t h m)) refl refl
  step (view_settled m tag occ) = asked t h (view_settled m tag occ) (settled_view_outcome t (opened t h) m tag occ (see t h m)) refl refl
  step (create d) =
      written t h (create d) (create_answer t d) _ (create_answer_lem t (opened t h) d (less t h) (λ e. create_row (s t h) (below_capacity (s t h) e))) (create_gives t h d) refl
      (λ e. create_left t.mst t.xrf d (s t h) (c t h) (create_asked (s t h) d e))
  step (update m d) =
      written t h (update m d) (update_answer t m d) _ (update_answer_lem t (opened t h) m (see t h m) d) refl refl
      (λ e.
      let a = update_asked (s t h) m d e in
      update_left t.mst t.xrf (s t h) (c t h) m (opened t h) a.here d (draft_draftable d.tags d.lens d.bytes a.draft) a.live a.room)
  step (delete m) =
      written t h (delete m) (delete_answer t m) _ (delete_answer_lem t (opened t h) m (see t h m) (some t h m)) refl refl
      (λ e. let a = delete_asked (s t h) m e in delete_left t.mst t.xrf (s t h) (c t h) m (opened t h) a.here a.live a.room)
  step (settle m) = settle_step t h m
  step (revert m) =
      written t h (revert m) (revert_answer t m) _ (revert_answer_lem t (opened t h) m (see t h m) (less t h)) refl refl
      (λ e. let a = revert_asked (s t h) m e in revert_left t.mst t.xrf (s t h) (c t h) m (opened t h) a.here a.changed)
  step check = asked t h check (ap plain (check_answer_lem t (opened t h) (body_sound_lem t.mst t.xrf (s t h) (c t h)))) refl refl
  step migrate = asked t h migrate (ap plain (migrate_answer_lem t (opened t h))) (migrate_left t (opened t h)) refl
  step (settle_list ms lent) = list_step t h ms lent
  step recount = asked t h recount (ap plain (recount_answer_lem t (opened t h) (body_apart_lem t.mst t.xrf (s t h)))) ((recounts t).nothing h) refl

  -- what the control record says
  end_is : end_of t.mst ≡ (ledger_of t).end
  unfolding ledger_of
  end_is = refl

  pub kept : (L : Ledger) → ledger_of t ≡ L → Kept t L
  kept L e =
      record { sound = h; ledger = e; next = sym (next_is t (opened t h)) ∙ ap next_mfn e; end = end_is ∙ ap (λ (K : Ledger). K.end) e }

-- ---- THE THEOREM

-- from any sound store: every answer, MFN, field and count of a list of calls is the ledger's, and so is the store after it
pub answers_are_the_ledgers : (t : Store) → SoundStore t → (cs : List Call) → FromSound t cs
answers_are_the_ledgers t h cs =
    let r = run_all step t h cs in
    record { answers = r.answers; kept = kept (after_s t cs) r.sound (after_l (ledger_of t) cs) r.last }

-- DEMAND 3, for two buffers of permitted lengths, whatever they held, and every list of calls after format
pub demand_3 : (mst xrf : List ℕ) → lengths_permitted (store mst xrf) ≡ true → (cs : List Call) → Demand3 mst xrf cs
demand_3 mst xrf h cs =
    let r = answers_are_the_ledgers (formatted mst xrf) (formatted_sound mst xrf h) cs in
    rw (format_leaves_lem mst xrf h, ← formatted_ledger mst xrf h) r
