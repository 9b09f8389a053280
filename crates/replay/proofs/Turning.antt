-- What the functions of one turn promise, one law for each way that they return: its premises are what is known there, the callees' promises and
-- the tests on the way. In the order of the code, from the inside: what a call answers and leaves (`Wrote`), that it is reported where there is
-- room (`Ran`), and that it is the first call of what is left (`Turned`).
use Prim.Native.Nat.{ℕ, ◌+◌, ◌*◌, ◌-◌, ◌≤◌, ◌<◌}
use native.Mathlib.Nat.{add-sub_cancel_left}
use native.Mathlib.Omega.{arith}
use mathlib.Core.Path.{◌≡◌, refl, sym, ap, ◌∙◌}
use mathlib.Core.Bool.{Bool, true, false, not}
use Rattle.std.specs.Prelude.{Option, Some, None, Result, Ok, Err, IfOk, MatchResult}
use Rattle.std.specs.Option.{ok_or}
use Rattle.std.specs.Result.{ResultUnwrapsOrElse}
use Rattle.std.proofs.lemmas.Bool.{eqb-true}
use Rattle.std.proofs.lemmas.List.{take_all, get_or-take}
use Rattle.word.proofs.Tests.{false_true}
use mathlib.Core.List.{List, [], ◌∷◌, ◌++◌, map}
use lib.Dec.{leb, eqb}
use lib.ListN.{length, take, drop, length-drop, length-map}
use lib.Seq.{length-take-le}
use borrow.Author.Tests.{le-leb, lt-leb, eq-eqb, ne_eqb}
use Rattle.word.specs.Overwrite.{overwrite, part}
use Rattle.word.proofs.Overwrite.{part_length, overwrite_none}
use Rattle.script.proofs.Numbers.{before_part}
use borrow.Rule.Slice.PartMut.{mid_of, put_mid}
use Rattle.store.specs.Answer.{refusal_number, number_of, after, refuse, lowest, Answer}
use Rattle.store.specs.Reading.{lengths_permitted, control_fine}
use Rattle.views.specs.Views.{Shown, shown, occurrences_told, view_answer, settled_view_answer, shown_at, view_of, settled_view_of}
use Rattle.record.specs.declared.fields.Span.{Span}
use Rattle.store.specs.declared.answer.Refusal.{Refusal}
use Rattle.store.specs.declared.answer.Refusal.TheVariants.{BadLength, BadControl, NotSound, NoRoomInList}
use Rattle.drafts.specs.Draft.{Draft, draft}
use Rattle.writing.specs.Refusals.{format_answer, update_answer, delete_answer, settle_answer, revert_answer}
use Rattle.writing.specs.Calls.{created, format_leaves, create_of, create_leaves, update_leaves, delete_leaves, settle_leaves, revert_leaves}
use Rattle.store.proofs.Gates.{Refusing, holds, lengths_facts}
use Rattle.layout.specs.Sizes.{mst_most}
use Rattle.layout.specs.declared.sizes.Mfn.{Mfn}
use Rattle.layout.specs.declared.sizes.Tag.{Tag}
use Rattle.soundness.specs.Sound.{body_sound, check_answer}
use Rattle.migrating.specs.Migrate.{migrate_answer, migrate_leaves}
use Rattle.soundness.specs.Recount.{recount_answer, recount_leaves}
use Rattle.settling.specs.SettleList.{settle_each_answers, lists_right, settle_list_answer, settle_list_leaves, settle_list_tells}
use Rattle.settling.proofs.Folding.{answers_count, lists_same, lists_short, lists_fine}
use Rattle.store.specs.Store.{Store, store}
use Rattle.ledger.specs.Call.{Call, Outcome, plain, listed}
use Rattle.ledger.specs.StoreRun.{shown_outcome, created_outcome, answer_s, next_s, result_s}
use Rattle.script.specs.Ops.{call_size, mfns_of, no_draft, counts, taken_by, op_in}
use Rattle.replay.specs.Calls.{Script, script, reading_call, writing_call, call_of, left_of, first_op}
use Rattle.script.specs.Report.{outcome_size}
use Rattle.replay.specs.Replay.{numbers_of, stop_at}
use Rattle.script.specs.Cursor.{left_at, moved, DraftWithin, Within}
use Rattle.replay.specs.Turns.{writing_at, settling_at, script_at, IsFirst, IsOver, without_mfn, written, shown_numbers, created_numbers, Wrote, ListFits, ListReported, room_at, Ran, Turned}
use Rattle.script.specs.declared.calls.Counts.{Counts}
use Rattle.script.specs.declared.calls.Reading.{Reading}
use Rattle.script.specs.declared.calls.Reading.TheVariants.{View, Settled, Check}
use Rattle.script.specs.declared.calls.Writing.{Writing}
use Rattle.script.specs.declared.calls.Writing.TheVariants.{Format, Create, Update, Delete, Settle, Revert, Migrate, Recount}
use Rattle.script.specs.declared.calls.Op.{Op}
use Rattle.script.specs.declared.calls.Op.TheVariants.{Asks, Writes, Settles}
use Rattle.script.specs.declared.report.Stop.{Stop}
use Rattle.script.specs.declared.report.Stop.TheVariants.{Ended, NoRoom}
use Rattle.script.specs.declared.report.Stop.TheVariants as stop
use Rattle.script.specs.declared.cursor.Cursor.{Cursor}
use Rattle.replay.proofs.Decoding.{first_fits, too_short, long_enough}

-- ---- calls that read

module _ (mst xrf : List ℕ) (r : Reading) (found : Result Span Refusal) where
  pub view_asked : (m : Mfn) (tag : Tag) (occ : ℕ) → r ≡ View m tag occ → shown found ≡ view_of (store mst xrf) m.0 tag.0 occ
      → shown_outcome mst (shown found) ≡ answer_s (store mst xrf) (reading_call r)
  unfolding answer_s result_s
  view_asked m tag occ e f = rw (e, f)

  pub settled_asked : (m : Mfn) (tag : Tag) (occ : ℕ) → r ≡ Settled m tag occ → shown found ≡ settled_view_of (store mst xrf) m.0 tag.0 occ
      → shown_outcome mst (shown found) ≡ answer_s (store mst xrf) (reading_call r)
  unfolding answer_s result_s
  settled_asked m tag occ e f = rw (e, f)

-- the number that an answer tells
abbrev told_of : Answer → ℕ
told_of (Ok tt) = 0
told_of (Err r) = occurrences_told r

-- a check tells none: it is never refused since a tag occurs too few times
untold : (s : Store) (r : Refusal) → Err r ≡ check_answer s → occurrences_told r ≡ 0
unfolding check_answer
untold s r e = go (lengths_permitted s) (control_fine s) (body_sound s) e
  where
    go : (x y z : Bool) → Err r ≡ lowest (refuse BadLength (not x) ∷ refuse BadControl (not y) ∷ refuse NotSound (not z) ∷ []) → occurrences_told r ≡ 0
    go false y z e = ap told_of e
    go true false z e = ap told_of e
    go true true false e = ap told_of e
    go true true true e = ap told_of e

pub check_passed : (mst xrf : List ℕ) (r : Reading) (a : Answer) (s : Span) → r ≡ Check → a ≡ check_answer (store mst xrf) → a ≡ Ok tt → s.start ≡ 0 → s.len ≡ 0
    → shown_outcome mst (shown (Ok s)) ≡ answer_s (store mst xrf) (reading_call r)
unfolding answer_s result_s
check_passed mst xrf r a s e f g x y = rw (e, ← f, g, x, y)

pub check_refused : (mst xrf : List ℕ) (r : Reading) (a : Answer) (x : Refusal) → r ≡ Check → a ≡ check_answer (store mst xrf) → a ≡ Err x
    → shown_outcome mst (shown (Err x)) ≡ answer_s (store mst xrf) (reading_call r)
unfolding answer_s result_s
check_refused mst xrf r a x e f g = let u : occurrences_told x ≡ 0 = untold (store mst xrf) x (sym g ∙ f) in rw (e, ← f, g, u)

pub ruleset asked_answers = (view_asked, settled_asked, check_passed, check_refused)

-- a view that is done read a MST of permitted length: what is shown has a length of 32 bits
no_length : Refusing (Err BadLength)
unfolding number_of
no_length z = omega arith

module _ (mst xrf : List ℕ) where
  short : (a : Answer) (at : ℕ) (rec : List ℕ) (tag occ : ℕ) (s : Span) → shown (Ok s) ≡ shown_at a at rec tag occ → (a ≡ Ok tt → lengths_permitted (store mst xrf) ≡ true) → s.start + s.len ≤ length mst
      → s.len ≤ mst_most
  unfolding shown_at
  short a at rec tag occ s e permitted within = let d : a ≡ Ok tt = sym (ap (λ (x : Shown). x.answer) e) in let l = (lengths_facts mst xrf (permitted d)).mst_high in omega arith

  pub view_short : (m tag occ : ℕ) (found : Result Span Refusal) → shown found ≡ view_of (store mst xrf) m tag occ → IfOk found (λ s. s.start + s.len ≤ length mst)
      → IfOk found (λ s. s.len ≤ mst_most)
  unfolding view_of view_answer
  view_short m tag occ (Ok s) e w = short (view_answer (store mst xrf) m tag occ) _ _ tag occ s e (λ d. (holds (lengths_permitted (store mst xrf)) (Err BadLength) _ no_length d).0) w
  view_short m tag occ (Err r) e w = tt

  pub settled_short : (m tag occ : ℕ) (found : Result Span Refusal) → shown found ≡ settled_view_of (store mst xrf) m tag occ → IfOk found (λ s. s.start + s.len ≤ length mst)
      → IfOk found (λ s. s.len ≤ mst_most)
  unfolding settled_view_of settled_view_answer
  settled_short m tag occ (Ok s) e w = short (settled_view_answer (store mst xrf) m tag occ) _ _ tag occ s e (λ d. (holds (lengths_permitted (store mst xrf)) (Err BadLength) _ no_length d).0) w
  settled_short m tag occ (Err r) e w = tt

pub ruleset short_answers = (view_short, settled_short)

-- ---- calls that may write

-- one law for each kind of call: its premises are the promises of the function that it is run by
module _ (s s' : Store) (d : Draft) (w : Writing) where
  pub create_writes : (m : Mfn) → w ≡ Create → created (Ok m) ≡ create_of s d → s' ≡ create_leaves s d → Wrote s (writing_call d w) (written (Ok (Some m))) s'
  unfolding writing_call answer_s next_s result_s
  create_writes m k e f = record { outcome = rw (k, ← e); left = rw (k, f) }

  pub create_refused : (q : Refusal) → w ≡ Create → created (Err q) ≡ create_of s d → s' ≡ create_leaves s d → Wrote s (writing_call d w) (written (Err q)) s'
  unfolding writing_call answer_s next_s result_s
  create_refused q k e f = record { outcome = rw (k, ← e); left = rw (k, f) }

  -- with no MFN, the answer alone
  plain_outcome : (a : Answer) → created_outcome (written (without_mfn a)) ≡ plain a
  plain_outcome (Ok tt) = refl
  plain_outcome (Err q) = refl

  module _ (r : Result (Option Mfn) Refusal) (a : Answer) (i : r ≡ without_mfn a) where
    pub format_writes : w ≡ Format → a ≡ format_answer s → s' ≡ format_leaves s → Wrote s (writing_call d w) (written r) s'
    unfolding writing_call answer_s next_s result_s
    format_writes k e f = record { outcome = rw (k, i, ← e) (plain_outcome a); left = rw (k, f) }

    pub update_writes : (m : Mfn) → w ≡ Update m → a ≡ update_answer s m.0 d → s' ≡ update_leaves s m.0 d → Wrote s (writing_call d w) (written r) s'
    unfolding writing_call answer_s next_s result_s
    update_writes m k e f = record { outcome = rw (k, i, ← e) (plain_outcome a); left = rw (k, f) }

    pub delete_writes : (m : Mfn) → w ≡ Delete m → a ≡ delete_answer s m.0 → s' ≡ delete_leaves s m.0 → Wrote s (writing_call d w) (written r) s'
    unfolding writing_call answer_s next_s result_s
    delete_writes m k e f = record { outcome = rw (k, i, ← e) (plain_outcome a); left = rw (k, f) }

    pub settle_writes : (m : Mfn) → w ≡ Settle m → a ≡ settle_answer s m.0 → s' ≡ settle_leaves s m.0 → Wrote s (writing_call d w) (written r) s'
    unfolding writing_call answer_s next_s result_s
    settle_writes m k e f = record { outcome = rw (k, i, ← e) (plain_outcome a); left = rw (k, f) }

    pub revert_writes : (m : Mfn) → w ≡ Revert m → a ≡ revert_answer s m.0 → s' ≡ revert_leaves s m.0 → Wrote s (writing_call d w) (written r) s'
    unfolding writing_call answer_s next_s result_s
    revert_writes m k e f = record { outcome = rw (k, i, ← e) (plain_outcome a); left = rw (k, f) }

    pub migrate_writes : w ≡ Migrate → a ≡ migrate_answer s → s' ≡ migrate_leaves s → Wrote s (writing_call d w) (written r) s'
    unfolding writing_call answer_s next_s result_s
    migrate_writes k e f = record { outcome = rw (k, i, ← e) (plain_outcome a); left = rw (k, f) }

    pub recount_writes : w ≡ Recount → a ≡ recount_answer s → s' ≡ recount_leaves s → Wrote s (writing_call d w) (written r) s'
    unfolding writing_call answer_s next_s result_s
    recount_writes k e f = record { outcome = rw (k, i, ← e) (plain_outcome a); left = rw (k, f) }

pub ruleset written_answers = (format_writes, create_writes, create_refused, update_writes, delete_writes, settle_writes, revert_writes, migrate_writes, recount_writes)

-- the parts of three lists that are lent as a draft are the draft at the cursor
pub written_at : (s s' : Store) (tags lens bytes : List ℕ) (at : Cursor) (n : Counts) (w : Writing) (r : Result (Option Mfn) Refusal)
    → Wrote s
    (writing_call
    (draft
    (take (at.used.tags + n.tags - at.used.tags) (drop at.used.tags tags))
    (take (at.used.lens + n.lens - at.used.lens) (drop at.used.lens lens))
    (take (at.used.bytes + n.bytes - at.used.bytes) (drop at.used.bytes bytes)))
    w)
    (written r) s'
    → Wrote s (writing_at tags lens bytes at n w) (written r) s'
unfolding writing_at
written_at s s' tags lens bytes at n w r h =
    rw (add-sub_cancel_left at.used.tags n.tags, add-sub_cancel_left at.used.lens n.lens, add-sub_cancel_left at.used.bytes n.bytes) at h

-- ---- a call is run and reported

-- a call that reads leaves the store as it was
reading_keeps : (s : Store) (r : Reading) → next_s s (reading_call r) ≡ s
unfolding next_s result_s
reading_keeps s (View m tag occ) = refl
reading_keeps s (Settled m tag occ) = refl
reading_keeps s Check = refl

-- there is no room for a call, whichever it is
module _ (s : Store) (c : Call) (n : Counts) (answers shown : List ℕ) (at : Cursor) where
  full : room_at answers shown at (answer_s s c) ≡ false → Ran s c n answers shown at (Err NoRoom) s answers shown
  full b = record { turn = rw b; left = rw b; numbers = rw b; fields = rw b }

  pub no_numbers : length answers - at.numbers < outcome_size → Ran s c n answers shown at (Err NoRoom) s answers shown
  no_numbers h = full (rw (lt-leb (length (numbers_of (answer_s s c))) (length answers - at.numbers) (omega arith)))

-- where a call that reads found its field, or nowhere: so the code has it, and it lies in the MST
pub spot_is : (found : Result Span Refusal) (x : Span) → ResultUnwrapsOrElse found (λ y. (y.start ≡ 0) × (y.len ≡ 0)) x → ((shown found).start ≡ x.start) × ((shown found).len ≡ x.len)
spot_is (Ok s) x u = rw u (refl, refl)
spot_is (Err r) x u = (sym u.0, sym u.1)

shown_within : (mst : List ℕ) (found : Result Span Refusal) → IfOk found (λ s. s.start + s.len ≤ length mst) → (shown found).start + (shown found).len ≤ length mst
shown_within mst (Ok s) w = w
shown_within mst (Err r) w = omega arith

-- it is reported, where there is room for the five numbers
module _ (mst xrf answers shown₀ : List ℕ) (at : Cursor) (r : Reading) (found : Result Span Refusal) (x : Span)
    (e : shown_outcome mst (shown found) ≡ answer_s (store mst xrf) (reading_call r)) (w : IfOk found (λ s. s.start + s.len ≤ length mst))
    (spot : ((shown found).start ≡ x.start) × ((shown found).len ≡ x.len)) (h : outcome_size ≤ length answers - at.numbers) where
  abbrev s : Store
  s = store mst xrf

  abbrev o : Outcome
  o = answer_s s (reading_call r)

  shown_length : length o.shown ≡ x.len
  shown_length = rw (← e) (part_length mst (shown found).start (shown found).len (shown_within mst found w) ∙ spot.1)

  -- it lists no answers
  numbers_size : length (numbers_of o) ≡ outcome_size
  numbers_size = rw (← e)

  numbers_fit : leb (length (numbers_of o)) (length answers - at.numbers) ≡ true
  numbers_fit = rw numbers_size (le-leb outcome_size (length answers - at.numbers) h)

  pub no_bytes : length shown₀ - at.shown < x.len → Ran s (reading_call r) no_draft answers shown₀ at (Err NoRoom) s answers shown₀
  no_bytes k = full s (reading_call r) no_draft answers shown₀ at (rw (numbers_fit, shown_length, lt-leb x.len (length shown₀ - at.shown) k))

  pub asked_next : (answers' shown' five : List ℕ) (n : Counts) (at' : Cursor) → x.len ≤ length shown₀ - at.shown
      → five ≡ shown_numbers (shown found) → answers' ≡ overwrite answers at.numbers five
      → shown' ≡ overwrite shown₀ at.shown (part mst x.start (x.start + x.len - x.start))
      → n.mfns ≡ 0 → n.tags ≡ 0 → n.lens ≡ 0 → n.bytes ≡ 0 → at' ≡ moved at n outcome_size x.len
      → Ran s (reading_call r) no_draft answers shown₀ at (Ok at') s answers' shown'
  asked_next answers' shown' five n at' k f en ef nm nt nl nb at'-is =
      let b : room_at answers shown₀ at o ≡ true = rw (numbers_fit, shown_length, le-leb x.len (length shown₀ - at.shown) k) in
      let bytes : o.shown ≡ part mst x.start x.len = rw (← e, spot.0, spot.1) in
      let numbers : numbers_of o ≡ five = let size : length (part mst (shown found).start (shown found).len) ≡ (shown found).len = part_length mst (shown found).start (shown found).len (shown_within mst found w) in rw (f, ← e, size) in
      record {
        turn = rw (b, numbers_size, shown_length, at'-is, nm, nt, nl, nb);
        left = rw (b, reading_keeps s r);
        numbers = rw (b, numbers) en;
        fields = rw (b, bytes) (rw (add-sub_cancel_left x.start x.len) at ef);
      }

-- a call that may write is run where there is room for the five numbers: it shows nothing and lists nothing
pub wrote_next : (s s' : Store) (tags lens bytes : List ℕ) (r : Result (Option Mfn) Refusal) (answers answers' five : List ℕ) (at at' : Cursor) (k : Writing) (n : Counts)
    → Wrote s (writing_at tags lens bytes at n k) (written r) s' → outcome_size ≤ length answers - at.numbers
    → five ≡ created_numbers (written r) → answers' ≡ overwrite answers at.numbers five
    → at' ≡ moved at n outcome_size 0
    → (shown : List ℕ) → Ran s (writing_at tags lens bytes at n k) n answers shown at (Ok at') s' answers' shown
wrote_next s s' tags lens bytes r answers answers' five at at' k n w h ef en m shown =
    let b : room_at answers shown at (answer_s s (writing_at tags lens bytes at n k)) ≡ true = rw (← w.outcome, le-leb outcome_size (length answers - at.numbers) h, le-leb 0 (length shown - at.shown) (omega arith)) in
    record {
      turn = rw (b, ← w.outcome, m);
      left = rw (b, w.left);
      numbers = rw (b, ← w.outcome) (rw ef at en);
      fields = rw (b, ← w.outcome) (sym (overwrite_none shown at.shown));
    }

-- ---- a list is run and reported

-- lists that are not right: nothing is run, and 17 is what the call answers
module _ (s : Store) (mfns answers : List ℕ) (at : Cursor) (n lent : ℕ) (i : at.used.mfns + n ≤ length mfns) where
  abbrev c : Call
  c = settling_at mfns at n lent

  mfns_length : length (take n (drop at.used.mfns mfns)) ≡ n
  mfns_length = length-take-le n (drop at.used.mfns mfns) (let x = length-drop at.used.mfns mfns in omega arith)

  refused_outcome : lists_right n lent ≡ false → answer_s s c ≡ listed (Err NoRoomInList) []
  unfolding settling_at answer_s result_s settle_list_answer after number_of
  refused_outcome h = rw (mfns_length, h)

  refused_left : lists_right n lent ≡ false → next_s s c ≡ s
  unfolding settling_at next_s result_s settle_list_answer settle_list_leaves after number_of
  refused_left h = rw (mfns_length, h)

  pub list_refused : (answers' : List ℕ) (a x y z v t l q : ℕ) (at' : Cursor) (b : Bool) → b ≡ lists_right n lent → b ≡ false
      → outcome_size ≤ length answers - at.numbers → a ≡ refusal_number NoRoomInList → x ≡ 0 → y ≡ 0 → z ≡ 0 → v ≡ 0
      → answers' ≡ overwrite answers at.numbers (a ∷ x ∷ y ∷ z ∷ v ∷ [])
      → t ≡ 0 → l ≡ 0 → q ≡ 0 → at' ≡ moved at (counts n t l q) outcome_size 0
      → (shown : List ℕ) → Ran s c (mfns_of n) answers shown at (Ok at') s answers' shown
  unfolding number_of
  list_refused answers' a x y z v t l q at' b e f h ea ex ey ez ev en et el eq m shown =
      let w : lists_right n lent ≡ false = sym e ∙ f in
      let o = refused_outcome w in
      let r : room_at answers shown at (answer_s s c) ≡ true = rw (o, le-leb outcome_size (length answers - at.numbers) h, le-leb 0 (length shown - at.shown) (omega arith)) in
      record {
        turn = rw (r, o, m, et, el, eq);
        left = rw (r, refused_left w);
        numbers = rw (r, o, ← ea) (rw (ex, ey, ez, ev) at en);
        fields = rw (r, o) (sym (overwrite_none shown at.shown));
      }

  -- lists that are
  module _ (b : Bool) (e : b ≡ lists_right n lent) (f : b ≡ true) where
    right : lists_right n lent ≡ true
    right = sym e ∙ f

    pub lent_is : lent ≡ n
    lent_is = sym (lists_same n lent right)

    done_outcome : answer_s s c ≡ listed (Ok tt) (settle_each_answers s (take n (drop at.used.mfns mfns)))
    unfolding settling_at answer_s result_s settle_list_answer after number_of
    done_outcome = rw (mfns_length, right)

    done_size : length (numbers_of (answer_s s c)) ≡ outcome_size + n
    done_size =
        let k = length-map (settle_each_answers s (take n (drop at.used.mfns mfns))) number_of ∙ answers_count s (take n (drop at.used.mfns mfns)) ∙ mfns_length in
        rw done_outcome (omega arith)

    pub list_full : length answers - at.numbers < outcome_size + n → (shown : List ℕ) → Ran s c (mfns_of n) answers shown at (Err NoRoom) s answers shown
    list_full h shown = full s c (mfns_of n) answers shown at (rw (done_size, lt-leb (outcome_size + n) (length answers - at.numbers) h))

    pub list_fits : outcome_size + n ≤ length answers - at.numbers → at.numbers ≤ length answers → ListFits mfns n answers at
    list_fits h g = record { mfns_in = i; short = lists_short n lent right; room = omega arith }

    pub list_next : (s' : Store) (answers' : List ℕ) (t l q : ℕ) (at' : Cursor) → outcome_size + n ≤ length answers - at.numbers
        → ListReported s (settling_at mfns at n n) answers at s' answers' → t ≡ 0 → l ≡ 0 → q ≡ 0 → at' ≡ moved at (counts n t l q) (outcome_size + n) 0
        → (shown : List ℕ) → Ran s c (mfns_of n) answers shown at (Ok at') s' answers' shown
    list_next s' answers' t l q at' h w et el eq m shown =
        let same : settling_at mfns at n n ≡ c = ap (settling_at mfns at n) (sym lent_is) in
        let o = done_outcome in
        let none : length (answer_s s c).shown ≡ 0 = rw o in
        let r : room_at answers shown at (answer_s s c) ≡ true = rw (done_size, le-leb (outcome_size + n) (length answers - at.numbers) h, none, le-leb 0 (length shown - at.shown) (omega arith)) in
        record {
          turn = rw (r, done_size, none, m, et, el, eq);
          left = rw r (w.left ∙ ap (next_s s) same);
          numbers = rw r (w.numbers ∙ ap (λ (q : Call). overwrite answers at.numbers (numbers_of (answer_s s q))) same);
          fields = rw (r, o) (sym (overwrite_none shown at.shown));
        }

-- the list is settled in a part of the room, and the five numbers stand before it
pub list_reported : (s s' : Store) (mfns : List ℕ) (n : ℕ) (answers answers₁ answers₂ : List ℕ) (at : Cursor) (a : Answer) (k x y z : ℕ) → ListFits mfns n answers at
    → a ≡ settle_list_answer (length (take (at.used.mfns + n - at.used.mfns) (drop at.used.mfns mfns))) (length (mid_of (at.numbers + outcome_size) (at.numbers + outcome_size + n - (at.numbers + outcome_size)) answers))
    → s' ≡ settle_list_leaves s (take (at.used.mfns + n - at.used.mfns) (drop at.used.mfns mfns)) (length (mid_of (at.numbers + outcome_size) (at.numbers + outcome_size + n - (at.numbers + outcome_size)) answers))
    → answers₁ ≡ settle_list_tells s (take (at.used.mfns + n - at.used.mfns) (drop at.used.mfns mfns)) (mid_of (at.numbers + outcome_size) (at.numbers + outcome_size + n - (at.numbers + outcome_size)) answers)
    → k ≡ number_of a → x ≡ 0 → y ≡ 0 → z ≡ 0
    → answers₂ ≡ overwrite (put_mid (at.numbers + outcome_size) (at.numbers + outcome_size + n - (at.numbers + outcome_size)) answers answers₁) at.numbers (k ∷ x ∷ y ∷ z ∷ n ∷ [])
    → ListReported s (settling_at mfns at n n) answers at s' answers₂
unfolding settling_at answer_s next_s result_s settle_list_answer settle_list_leaves settle_list_tells after number_of
list_reported s s' mfns n answers answers₁ answers₂ at a k x y z fits ea el et ek ex ey ez en =
    let i = fits.mfns_in in
    let room = fits.room in
    let ms = take n (drop at.used.mfns mfns) in
    let x = length-drop at.used.mfns mfns in
    let y = length-drop (at.numbers + outcome_size) answers in
    let fine : lists_right n n ≡ true = lists_fine n fits.short in
    let long : length ms ≡ n = length-take-le n (drop at.used.mfns mfns) (omega arith) in
    let p : at.used.mfns + n - at.used.mfns ≡ n = omega arith in
    let q : at.numbers + outcome_size + n - (at.numbers + outcome_size) ≡ n = omega arith in
    let w : length (take n (drop (at.numbers + outcome_size) answers)) ≡ n = length-take-le n (drop (at.numbers + outcome_size) answers) (omega arith) in
    let a-is : a ≡ (Ok tt) = ea ∙ rw (p, q, long, w, fine) in
    let told : answers₁ ≡ map number_of (settle_each_answers s ms) = et ∙ rw (p, q, long, w, fine) in
    let size : length answers₁ ≡ n = ap length told ∙ length-map (settle_each_answers s ms) number_of ∙ answers_count s ms ∙ long in
    let count : length (settle_each_answers s ms) ≡ n = answers_count s ms ∙ long in
    let zero_is : k ≡ 0 = ek ∙ rw a-is in
    let placed : answers₂ ≡ overwrite answers at.numbers ((k ∷ 0 ∷ 0 ∷ 0 ∷ n ∷ []) ++ answers₁) =
    rw (ex, ey, ez) at en ∙ rw q (before_part answers (k ∷ 0 ∷ 0 ∷ 0 ∷ n ∷ []) answers₁ at.numbers n (omega arith) size) in
    record { left = el ∙ rw (p, q, long, w, fine); numbers = rw (long, fine, count) (rw (zero_is, told) at placed) }

pub ruleset asked_turns = (no_numbers, no_bytes, asked_next)

pub ruleset written_turns = (no_numbers, wrote_next)

pub ruleset settled_turns = (no_numbers, list_refused, list_full, list_fits, list_next)

-- ---- a turn

-- the first five of a list are all that a call is read from
op_front : (ns : List ℕ) (left : Counts) → op_in (take call_size ns) left ≡ op_in ns left
unfolding op_in
op_front ns left =
    rw (
      get_or-take call_size ns 0 0 (omega arith),
      get_or-take call_size ns 1 0 (omega arith),
      get_or-take call_size ns 2 0 (omega arith),
      get_or-take call_size ns 3 0 (omega arith),
      get_or-take call_size ns 4 0 (omega arith),
    )

module _ (ops mfns tags lens bytes : List ℕ) (at : Cursor) where
  abbrev rest : Script
  rest = script_at (script ops mfns tags lens bytes) at

  rest_length : length rest.ops ≡ length ops - call_size * at.calls
  rest_length = length-drop (call_size * at.calls) ops

  -- what is left is no call, though something is left
  stop_malformed : (length ops ≡ call_size * at.calls → ⊥) → call_size * at.calls ≤ length ops → stop.Malformed ≡ stop_at rest
  stop_malformed k h = rw (rest_length, ne_eqb (length ops - call_size * at.calls) 0 (λ e. k (omega arith)))

  -- the numbers that the code looks at are all that are left
  abbrev looked_at : List ℕ
  looked_at = take (length ops - call_size * at.calls) (drop (call_size * at.calls) ops)

  looked_is : looked_at ≡ rest.ops
  looked_is = take_all (length ops - call_size * at.calls) rest.ops (let k = rest_length in omega arith)

  module _ (h : call_size * at.calls ≤ length ops) (b : Bool) (e : b ≡ eqb (length looked_at) 0) where
    pub op_ended : b ≡ true → IsOver rest Ended
    op_ended f =
        let k = rest_length in
        let n : length rest.ops ≡ 0 = ap length (sym looked_is) ∙ eqb-true (length looked_at) 0 (sym e ∙ f) in
        record { none = too_short rest (omega arith); stop = rw n }

    module _ (f : b ≡ false) where
      left_over : length ops ≡ call_size * at.calls → ⊥
      left_over z =
          let k = rest_length in
          let n : length looked_at ≡ 0 = ap length looked_is ∙ omega arith in
          false_true (sym f ∙ e ∙ eq-eqb (length looked_at) 0 n)

      pub op_short : length looked_at < call_size → IsOver rest stop.Malformed
      op_short g = record { none = too_short rest (rw looked_is at g); stop = stop_malformed left_over h }

      -- the op that the code reads at the cursor is the first of what is left
      pub op_read : (numbers : List ℕ) (all left : Counts) (o : Option Op) (r : Result Op Stop) → call_size ≤ length looked_at → numbers ≡ take call_size looked_at
          → all ≡ counts (length mfns) (length tags) (length lens) (length bytes) → left ≡ left_at all at → o ≡ op_in numbers left → r ≡ ok_or o stop.Malformed
          → MatchResult r (IsFirst rest) (IsOver rest)
      unfolding first_op
      op_read numbers all left o r g en ea el eo er = rw (er, was) (go (first_op rest) refl)
        where
          long : call_size ≤ length rest.ops
          long = rw looked_is at g

          was : o ≡ first_op rest
          was =
              let l : left ≡ left_of rest = el ∙ rw (ea, length-drop at.used.mfns mfns, length-drop at.used.tags tags, length-drop at.used.lens lens, length-drop at.used.bytes bytes) in
              eo ∙ rw (en, l, op_front looked_at (left_of rest), looked_is)

          go : (q : Option Op) → first_op rest ≡ q → MatchResult (ok_or q stop.Malformed) (IsFirst rest) (IsOver rest)
          go None z = record { none = long_enough rest long ∙ ap (call_of rest) z; stop = stop_malformed left_over h }
          go (Some x) z = record { read = z; called = long_enough rest long ∙ ap (call_of rest) z }

  -- so the draft of a call that may write lies within the lists
  pub draft_within : (o : Op) (w : Writing) (n : Counts) (answers shown : List ℕ) → IsFirst rest o → o ≡ Writes w n → Within ops mfns tags lens bytes answers shown at → DraftWithin tags lens bytes at n
  draft_within o w n answers shown e k i =
      let f = rw (e.read, k) at (first_fits rest) in
      let d = i.drafts_in in
      let x = length-drop at.used.tags tags in
      let y = length-drop at.used.lens lens in
      let z = length-drop at.used.bytes bytes in
      record { tags_in = omega arith; lens_in = omega arith; bytes_in = omega arith }

  -- and so do the MFNs of a call
  pub mfns_within : (o q : Op) (answers shown : List ℕ) → IsFirst rest o → o ≡ q → Within ops mfns tags lens bytes answers shown at → at.used.mfns + (taken_by q).mfns ≤ length mfns
  mfns_within o q answers shown e k i =
      let f = rw (e.read, k) at (first_fits rest) in
      let d = i.mfns_in in
      let x = length-drop at.used.mfns mfns in
      omega arith

  module _ (answers shown : List ℕ) (s : Store) where
    -- there is no call
    pub turned_over : (x : Stop) → IsOver rest x → Turned rest s answers shown at (Err x) s answers shown
    unfolding Turned
    turned_over x o = rw o.none (record { turn = ap (λ (y : Stop). Err y) o.stop; left = refl; numbers = refl; fields = refl })

    pub turned_asks : (o : Op) (r : Reading) (t : Result Cursor Stop) (answers' shown' : List ℕ) → IsFirst rest o → o ≡ Asks r → Ran s (reading_call r) no_draft answers shown at t s answers' shown'
        → Turned rest s answers shown at t s answers' shown'
    unfolding Turned
    turned_asks o r t answers' shown' f e k = rw (f.called, f.read, e) k

    pub turned_writes : (o : Op) (w : Writing) (n : Counts) (t : Result Cursor Stop) (s' : Store) (answers' : List ℕ) → IsFirst rest o → o ≡ Writes w n
        → ((z : List ℕ) → Ran s (writing_at tags lens bytes at n w) n answers z at t s' answers' z)
        → Turned rest s answers shown at t s' answers' shown
    unfolding Turned writing_at
    turned_writes o w n t s' answers' f e k = rw (f.called, f.read, e) (k shown)

    pub turned_settles : (o : Op) (n lent : ℕ) (t : Result Cursor Stop) (s' : Store) (answers' : List ℕ) → IsFirst rest o → o ≡ Settles n lent
        → ((z : List ℕ) → Ran s (settling_at mfns at n lent) (mfns_of n) answers z at t s' answers' z)
        → Turned rest s answers shown at t s' answers' shown
    unfolding Turned settling_at
    turned_settles o n lent t s' answers' f e k = rw (f.called, f.read, e) (k shown)

pub ruleset first_ops = (op_ended, op_short, op_read)

pub ruleset turns = (turned_over, turned_asks, turned_writes, turned_settles)
