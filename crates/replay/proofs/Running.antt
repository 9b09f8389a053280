-- The loop of a replay. What it has reported is a list of outcomes, what it has run a list of calls; each is the first part of what the whole
-- list gives, and what is left of the list at the cursor gives the rest. A turn moves one call from the rest to the first part, or shows that
-- nothing more is reported.
use Prim.Native.Nat.{ℕ, zero, suc, ◌+◌, ◌*◌, ◌-◌, ◌≤◌, ◌<◌}
use native.Mathlib.Nat.{le_refl}
use native.Mathlib.Omega.{arith}
use native.Mathlib.Numerals.{add-one, unary_clauses}
use mathlib.Core.Path.{◌≡◌, refl, sym, ap, ◌∙◌}
use mathlib.Core.Bool.{Bool, true, false, cond}
use Rattle.std.specs.Prelude.{Option, Some, None, Result, Ok, Err}
use mathlib.Core.List.{List, [], ◌∷◌, ◌++◌, append_assoc, append-nil}
use lib.ListN.{length, take, drop, length-append, length-drop}
use lib.Seq.{take_at, drop-drop}
use borrow.Author.Tests.{lt-ltb, le-ltb}
use Rattle.word.specs.Overwrite.{overwrite}
use Rattle.word.proofs.Overwrite.{overwrite_none, overwrite_next, overwrite_length}
use Rattle.word.proofs.Tests.{tests}
use Rattle.store.specs.Store.{Store}
use Rattle.ledger.specs.Call.{Call, Outcome}
use Rattle.ledger.specs.StoreRun.{answer_s, next_s, answers_s, after_s}
use Rattle.script.specs.Ops.{call_size, counts, no_draft, taken_of}
use Rattle.replay.specs.Calls.{Script, script, first_op, first_call, rest_of, rest_after, calls_in, calls_of}
use Rattle.replay.specs.Replay.{numbers_of, outcome_numbers, outcome_bytes, has_room, fitting, stop_at, stop_for}
use Rattle.script.specs.Cursor.{moved, Within}
use Rattle.replay.specs.Turns.{script_at, room_at, Ran, Halted, Turned, Finished}
use Rattle.script.specs.declared.report.Stop.{Stop}
use Rattle.script.specs.declared.report.Stop.TheVariants.{NoRoom}
use Rattle.script.specs.declared.cursor.Cursor.{Cursor}
use Rattle.replay.proofs.Decoding.{first_fits, has_numbers}

-- what is reported of a list: the store's answers, as far as there is room for them
abbrev told : Store → ℕ → ℕ → Script → List Outcome
told s numbers bytes p = fitting numbers bytes (answers_s s (calls_of p))

-- ---- one more, at the end of a list

numbers_more : (os : List Outcome) (o : Outcome) → outcome_numbers (os ++ (o ∷ [])) ≡ outcome_numbers os ++ numbers_of o
unfolding outcome_numbers
numbers_more [] o = append-nil (numbers_of o)
numbers_more (x ∷ os) o = ap (λ (l : List ℕ). numbers_of x ++ l) (numbers_more os o) ∙ sym (append_assoc (numbers_of x) (outcome_numbers os) (numbers_of o))

bytes_more : (os : List Outcome) (o : Outcome) → outcome_bytes (os ++ (o ∷ [])) ≡ outcome_bytes os ++ o.shown
unfolding outcome_bytes
bytes_more [] o = append-nil o.shown
bytes_more (x ∷ os) o = ap (λ (l : List ℕ). x.shown ++ l) (bytes_more os o) ∙ sym (append_assoc x.shown (outcome_bytes os) o.shown)

after_more : (s : Store) (cs : List Call) (c : Call) → after_s s (cs ++ (c ∷ [])) ≡ next_s (after_s s cs) c
unfolding after_s
after_more s [] c = refl
after_more s (x ∷ cs) c = after_more (next_s s x) cs c

rest_more : (n : ℕ) (p : Script) → rest_after (suc n) p ≡ rest_of (rest_after n p)
unfolding rest_after
rest_more zero p = refl
rest_more (suc n) p = rest_more n (rest_of p)

-- ---- the calls that are left

calls_none : (n : ℕ) (s : Script) → first_call s ≡ None → calls_in n s ≡ []
unfolding calls_in
calls_none zero s e = refl
calls_none (suc n) s e = rw e

calls_some : (n : ℕ) (s : Script) (c : Call) → first_call s ≡ Some c → calls_in (suc n) s ≡ c ∷ calls_in n (rest_of s)
unfolding calls_in
calls_some n s c e = rw e

fitting_one : (numbers bytes : ℕ) (s : Store) (c : Call) (cs : List Call)
    → fitting numbers bytes (answers_s s (c ∷ cs))
    ≡ cond (has_room numbers bytes (answer_s s c)) (answer_s s c ∷ fitting (numbers - length (numbers_of (answer_s s c))) (bytes - length (answer_s s c).shown) (answers_s (next_s s c) cs)) []
unfolding fitting answers_s
fitting_one numbers bytes s c cs = refl

fitting_none : (numbers bytes : ℕ) (s : Store) → fitting numbers bytes (answers_s s []) ≡ []
unfolding fitting answers_s
fitting_none numbers bytes s = refl

-- ---- the invariant

-- lists of calls are the same where their parts are
script_same : {a b c d e a' b' c' d' e' : List ℕ} → a ≡ a' → b ≡ b' → c ≡ c' → d ≡ d' → e ≡ e' → script a b c d e ≡ script a' b' c' d' e'
script_same f g h i j = rw (f, g, h, i, j)

module _ (ops mfns tags lens bytes : List ℕ) where
  abbrev pub p : Script
  p = script ops mfns tags lens bytes

  -- as many calls as there are numbers bounds what is left
  abbrev pub left_calls : Cursor → List Call
  left_calls at = calls_in (length ops - at.calls) (script_at p at)

  -- from s₀ and two rooms, after the calls before the cursor
  pub record Going (s₀ : Store) (answers₀ shown₀ : List ℕ) (s : Store) (answers shown : List ℕ) (at : Cursor) : Type 0 where
    -- what is reported, and the calls that were run
    pub done : List Outcome
    pub ran : List Call
    pub within : Within ops mfns tags lens bytes answers shown at
    -- the cursor counts them, and the rooms hold them
    pub answers_long : length answers ≡ length answers₀
    pub shown_long : length shown ≡ length shown₀
    pub done_count : length done ≡ at.calls
    pub ran_count : length ran ≡ at.calls
    pub number_count : length (outcome_numbers done) ≡ at.numbers
    pub byte_count : length (outcome_bytes done) ≡ at.shown
    pub numbers_are : answers ≡ overwrite answers₀ 0 (outcome_numbers done)
    pub bytes_are : shown ≡ overwrite shown₀ 0 (outcome_bytes done)
    -- the store is what they leave
    pub store_is : s ≡ after_s s₀ ran
    -- and what is left of the list gives the rest of the calls and of what is told
    pub rest_is : script_at p at ≡ rest_after at.calls p
    pub calls_are : calls_of p ≡ ran ++ left_calls at
    pub told_are : told s₀ (length answers₀) (length shown₀) p
        ≡ done ++ fitting (length answers₀ - at.numbers) (length shown₀ - at.shown) (answers_s s (left_calls at))

  -- before the first turn
  going_start_at : (s₀ : Store) (answers₀ shown₀ : List ℕ) (at : Cursor) → at ≡ record { calls = 0; used = no_draft; numbers = 0; shown = 0 }
      → Going s₀ answers₀ shown₀ s₀ answers₀ shown₀ at
  unfolding outcome_numbers outcome_bytes after_s rest_after calls_of
  going_start_at s₀ answers₀ shown₀ at e =
      rw e
      (record {
        done = [];
        ran = [];
        within =
            record {
              ops_in = omega arith;
              mfns_in = omega arith;
              drafts_in = record { tags_in = omega arith; lens_in = omega arith; bytes_in = omega arith };
              room_in = record { reported = record { calls_within = omega arith; numbers_in = omega arith }; shown_in = omega arith };
            };
        answers_long = refl;
        shown_long = refl;
        done_count = refl;
        ran_count = refl;
        number_count = refl;
        byte_count = refl;
        numbers_are = sym (overwrite_none answers₀ 0);
        bytes_are = sym (overwrite_none shown₀ 0);
        store_is = refl;
        rest_is = refl;
        calls_are = simp unary_clauses;
        told_are = simp unary_clauses;
      })

  pub going_start : (s₀ : Store) (answers₀ shown₀ : List ℕ) (at : Cursor)
      → at.calls ≡ 0 → at.used.mfns ≡ 0 → at.used.tags ≡ 0 → at.used.lens ≡ 0 → at.used.bytes ≡ 0 → at.numbers ≡ 0 → at.shown ≡ 0
      → Going s₀ answers₀ shown₀ s₀ answers₀ shown₀ at
  going_start s₀ answers₀ shown₀ at c m t l b n f =
      let z : record { calls = at.calls; used = counts at.used.mfns at.used.tags at.used.lens at.used.bytes; numbers = at.numbers; shown = at.shown }
      ≡ record { calls = 0; used = no_draft; numbers = 0; shown = 0 } = rw (c, m, t, l, b, n, f) in
      going_start_at s₀ answers₀ shown₀ at z

  -- the cursor after a call stands before the rest
  rest_moved : (at : Cursor) (size len : ℕ) → script_at p (moved at (taken_of (first_op (script_at p at))) size len) ≡ rest_of (script_at p at)
  unfolding rest_of
  rest_moved at size len =
      let five : call_size * (at.calls + 1) ≡ call_size * at.calls + call_size = omega arith in
      script_same
      (ap (λ (n : ℕ). drop n ops) five ∙ sym (drop-drop call_size (call_size * at.calls) ops))
      (sym (drop-drop _ at.used.mfns mfns))
      (sym (drop-drop _ at.used.tags tags))
      (sym (drop-drop _ at.used.lens lens))
      (sym (drop-drop _ at.used.bytes bytes))

  module _ (s₀ : Store) (answers₀ shown₀ : List ℕ) (s : Store) (answers shown : List ℕ) (at : Cursor) (g : Going s₀ answers₀ shown₀ s answers shown at) where
    abbrev rest : Script
    rest = script_at p at

    -- what is reported from a cursor on
    abbrev told_from : Cursor → Store → List Outcome
    told_from from x = fitting (length answers₀ - from.numbers) (length shown₀ - from.shown) (answers_s x (left_calls from))

    -- ---- the rest begins with a call

    module _ (c : Call) (e : first_call rest ≡ Some c) where
      abbrev o : Outcome
      o = answer_s s c

      left_now : call_size + call_size * at.calls ≤ length ops
      left_now = let h = has_numbers rest c e in let k = length-drop (call_size * at.calls) ops in omega arith

      -- the calls behind it
      abbrev behind : List Call
      behind = calls_in (length ops - (at.calls + 1)) (rest_of rest)

      calls_now : left_calls at ≡ c ∷ behind
      calls_now =
          let n : length ops - at.calls ≡ suc (length ops - (at.calls + 1)) = let l = left_now in omega arith in
          rw n (calls_some (length ops - (at.calls + 1)) rest c e)

      -- it is reported where there is room, and then those behind it
      told_now : told_from at s
          ≡ cond (room_at answers shown at o)
          (o ∷ fitting (length answers₀ - at.numbers - length (numbers_of o)) (length shown₀ - at.shown - length o.shown) (answers_s (next_s s c) behind))
          []
      told_now =
          ap (λ (l : List Call). fitting (length answers₀ - at.numbers) (length shown₀ - at.shown) (answers_s s l)) calls_now
          ∙ fitting_one (length answers₀ - at.numbers) (length shown₀ - at.shown) s c behind
          ∙ rw (g.answers_long, g.shown_long)

      -- ---- and there is room for it

      module _ (room : room_at answers shown at o ≡ true) where
        abbrev next : Cursor
        next = moved at (taken_of (first_op rest)) (length (numbers_of o)) (length o.shown)

        room_now : (length (numbers_of o) ≤ length answers - at.numbers) × (length o.shown ≤ length shown - at.shown)
        room_now = simp tests at room

        calls_next : left_calls at ≡ c ∷ left_calls next
        calls_next = calls_now ∙ rw (rest_moved at (length (numbers_of o)) (length o.shown))

        within_next : Within ops mfns tags lens bytes (overwrite answers at.numbers (numbers_of o)) (overwrite shown at.shown o.shown) next
        within_next =
            let d = first_fits rest in
            let w = g.within.drafts_in in
            let l = left_now in
            let r = room_now in
            let x = g.within.room_in in
            let y = g.within.mfns_in in
            let km = length-drop at.used.mfns mfns in
            let kt = length-drop at.used.tags tags in
            let kl = length-drop at.used.lens lens in
            let kb = length-drop at.used.bytes bytes in
            let an : length (overwrite answers at.numbers (numbers_of o)) ≡ length answers = overwrite_length answers at.numbers (numbers_of o) (omega arith) in
            let sn : length (overwrite shown at.shown o.shown) ≡ length shown = overwrite_length shown at.shown o.shown (omega arith) in
            record {
              ops_in = omega arith;
              mfns_in = omega arith;
              drafts_in = record { tags_in = omega arith; lens_in = omega arith; bytes_in = omega arith };
              room_in = record { reported = record { calls_within = omega arith; numbers_in = omega arith }; shown_in = omega arith };
            }

        numbers_next : overwrite answers at.numbers (numbers_of o) ≡ overwrite answers₀ 0 (outcome_numbers (g.done ++ (o ∷ [])))
        numbers_next =
            let n : at.numbers ≡ 0 + length (outcome_numbers g.done) = let m = g.number_count in omega arith in
            rw (n, g.numbers_are, numbers_more g.done o) (overwrite_next answers₀ 0 (outcome_numbers g.done) (numbers_of o) (omega arith))

        bytes_next : overwrite shown at.shown o.shown ≡ overwrite shown₀ 0 (outcome_bytes (g.done ++ (o ∷ [])))
        bytes_next =
            let n : at.shown ≡ 0 + length (outcome_bytes g.done) = let m = g.byte_count in omega arith in
            rw (n, g.bytes_are, bytes_more g.done o) (overwrite_next shown₀ 0 (outcome_bytes g.done) o.shown (omega arith))

        told_next : told_from at s ≡ o ∷ told_from next (next_s s c)
        told_next =
            let n : length answers₀ - at.numbers - length (numbers_of o) ≡ length answers₀ - (at.numbers + length (numbers_of o)) = omega arith in
            let m : length shown₀ - at.shown - length o.shown ≡ length shown₀ - (at.shown + length o.shown) = omega arith in
            told_now ∙ rw (room, n, m, rest_moved at (length (numbers_of o)) (length o.shown))

        pub going_more : Going s₀ answers₀ shown₀ (next_s s c) (overwrite answers at.numbers (numbers_of o)) (overwrite shown at.shown o.shown) next
        going_more =
            record {
              done = g.done ++ (o ∷ []);
              ran = g.ran ++ (c ∷ []);
              within = within_next;
              answers_long = overwrite_length answers at.numbers (numbers_of o) (let r = room_now in let w = g.within.room_in.reported.numbers_in in omega arith) ∙ g.answers_long;
              shown_long = overwrite_length shown at.shown o.shown (let r = room_now in let w = g.within.room_in.shown_in in omega arith) ∙ g.shown_long;
              done_count = length-append g.done (o ∷ []) ∙ ap (λ (n : ℕ). n + 1) g.done_count;
              ran_count = length-append g.ran (c ∷ []) ∙ ap (λ (n : ℕ). n + 1) g.ran_count;
              number_count = ap length (numbers_more g.done o) ∙ length-append (outcome_numbers g.done) (numbers_of o) ∙ ap (λ (n : ℕ). n + length (numbers_of o)) g.number_count;
              byte_count = ap length (bytes_more g.done o) ∙ length-append (outcome_bytes g.done) o.shown ∙ ap (λ (n : ℕ). n + length o.shown) g.byte_count;
              numbers_are = numbers_next;
              bytes_are = bytes_next;
              store_is = ap (λ (x : Store). next_s x c) g.store_is ∙ sym (after_more s₀ g.ran c);
              rest_is = rest_moved at (length (numbers_of o)) (length o.shown) ∙ ap rest_of g.rest_is ∙ sym (rest_more at.calls p) ∙ ap (λ (n : ℕ). rest_after n p) (sym (add-one at.calls));
              calls_are = g.calls_are ∙ ap (λ (l : List Call). g.ran ++ l) calls_next ∙ sym (append_assoc g.ran (c ∷ []) (left_calls next));
              told_are = g.told_are ∙ ap (λ (l : List Outcome). g.done ++ l) told_next ∙ sym (append_assoc g.done (o ∷ []) (told_from next (next_s s c)));
            }

    -- ---- nothing more is reported

    module _ (none_left : told_from at s ≡ []) where
      told_all : told s₀ (length answers₀) (length shown₀) p ≡ g.done
      told_all = g.told_are ∙ ap (λ (l : List Outcome). g.done ++ l) none_left ∙ append-nil g.done

      told_count : length (told s₀ (length answers₀) (length shown₀) p) ≡ at.calls
      told_count = ap length told_all ∙ g.done_count

      finished : (x : Stop) → x ≡ stop_for at.calls p
          → Finished s₀ answers₀ shown₀ p (record { stop = x; calls = at.calls }) s answers shown
      finished x stops =
          record {
            reports =
                record {
                  stop = stops;
                  calls = sym told_count;
                  numbers = g.numbers_are ∙ ap (λ (os : List Outcome). overwrite answers₀ 0 (outcome_numbers os)) (sym told_all);
                  fields = g.bytes_are ∙ ap (λ (os : List Outcome). overwrite shown₀ 0 (outcome_bytes os)) (sym told_all);
                };
            left = g.store_is ∙ ap (λ (cs : List Call). after_s s₀ cs)
                (sym (ap (take at.calls) g.calls_are ∙ take_at g.ran (left_calls at) at.calls g.ran_count));
          }

    -- since there is no further call
    finished_list : first_call rest ≡ None → Finished s₀ answers₀ shown₀ p (record { stop = stop_at rest; calls = at.calls }) s answers shown
    unfolding stop_for
    finished_list e =
        let no_more : left_calls at ≡ [] = calls_none (length ops - at.calls) rest e in
        let none_left : told_from at s ≡ [] = rw no_more (fitting_none (length answers₀ - at.numbers) (length shown₀ - at.shown) s) in
        let n : length (calls_of p) ≡ at.calls = ap length (g.calls_are ∙ ap (λ (l : List Call). g.ran ++ l) no_more ∙ append-nil g.ran) ∙ g.ran_count in
        finished none_left (stop_at rest)
        (rw (n, le-ltb at.calls at.calls (le_refl _)) (ap stop_at g.rest_is))

    -- since the next call has no room
    finished_room : (c : Call) → first_call rest ≡ Some c → room_at answers shown at (answer_s s c) ≡ false
        → Finished s₀ answers₀ shown₀ p (record { stop = NoRoom; calls = at.calls }) s answers shown
    unfolding stop_for
    finished_room c e full =
        let none_left : told_from at s ≡ [] = told_now c e ∙ rw full in
        let m : length (calls_of p) ≡ at.calls + suc (length (behind c e)) =
        ap length (g.calls_are ∙ ap (λ (l : List Call). g.ran ++ l) (calls_now c e))
        ∙ length-append g.ran (c ∷ behind c e)
        ∙ ap (λ (i : ℕ). i + suc (length (behind c e))) g.ran_count in
        finished none_left NoRoom (rw (m, lt-ltb at.calls (at.calls + suc (length (behind c e))) (omega arith)))

    -- ---- what a turn did

    module _ (t : Result Cursor Stop) (s' : Store) (answers' shown' : List ℕ) (u : Turned rest s answers shown at t s' answers' shown') where
      -- a call was run and reported, or it had no room, or there was none
      data Did : Type 0 where
        more : (c : Call) → first_call rest ≡ Some c → room_at answers shown at (answer_s s c) ≡ true
            → t ≡ Ok (moved at (taken_of (first_op rest)) (length (numbers_of (answer_s s c))) (length (answer_s s c).shown)) → s' ≡ next_s s c
            → answers' ≡ overwrite answers at.numbers (numbers_of (answer_s s c)) → shown' ≡ overwrite shown at.shown (answer_s s c).shown → Did
        full : (c : Call) → first_call rest ≡ Some c → room_at answers shown at (answer_s s c) ≡ false
            → t ≡ Err NoRoom → s' ≡ s → answers' ≡ answers → shown' ≡ shown → Did
        over : first_call rest ≡ None → t ≡ Err (stop_at rest) → s' ≡ s → answers' ≡ answers → shown' ≡ shown → Did

      did : Did
      unfolding Turned
      did = go (first_call rest) refl
        where
          ran : (c : Call) → first_call rest ≡ Some c → Ran s c (taken_of (first_op rest)) answers shown at t s' answers' shown'
              → (b : Bool) → room_at answers shown at (answer_s s c) ≡ b → Did
          ran c e r true b = more c e b (rw b at r.turn) (rw b at r.left) (rw b at r.numbers) (rw b at r.fields)
          ran c e r false b = full c e b (rw b at r.turn) (rw b at r.left) (rw b at r.numbers) (rw b at r.fields)

          go : (q : Option Call) → first_call rest ≡ q → Did
          go None e = let h : Halted rest s answers shown t s' answers' shown' = rw e at u in over e h.turn h.left h.numbers h.fields
          go (Some c) e =
              let r : Ran s c (taken_of (first_op rest)) answers shown at t s' answers' shown' = rw e at u in
              ran c e r (room_at answers shown at (answer_s s c)) refl

      -- it moves on
      pub going_next : (at' : Cursor) → t ≡ Ok at' → Going s₀ answers₀ shown₀ s' answers' shown' at'
      going_next at' n = go did
        where
          go : Did → Going s₀ answers₀ shown₀ s' answers' shown' at'
          go (more c e b turn left numbers fields) =
              let z : at' ≡ moved at (taken_of (first_op rest)) (length (numbers_of (answer_s s c))) (length (answer_s s c).shown) = cc in
              rw (z, left, numbers, fields) (going_more c e b)
          go (full c e b turn left numbers fields) = absurd (let z : ◌≡◌ {A = ℕ} 0 1 = cc in omega arith)
          go (over e turn left numbers fields) = absurd (let z : ◌≡◌ {A = ℕ} 0 1 = cc in omega arith)

      -- and what is left to run falls
      pub going_less : (at' : Cursor) → t ≡ Ok at' → length ops - at'.calls < length ops - at.calls
      going_less at' n = go did
        where
          go : Did → length ops - at'.calls < length ops - at.calls
          go (more c e b turn left numbers fields) =
              let z : at' ≡ moved at (taken_of (first_op rest)) (length (numbers_of (answer_s s c))) (length (answer_s s c).shown) = cc in
              let m : at'.calls ≡ at.calls + 1 = ap (λ (x : Cursor). x.calls) z in
              let l = left_now c e in
              omega arith
          go (full c e b turn left numbers fields) = absurd (let z : ◌≡◌ {A = ℕ} 0 1 = cc in omega arith)
          go (over e turn left numbers fields) = absurd (let z : ◌≡◌ {A = ℕ} 0 1 = cc in omega arith)

      -- it stops
      pub going_stop : (x : Stop) → t ≡ Err x → Finished s₀ answers₀ shown₀ p (record { stop = x; calls = at.calls }) s' answers' shown'
      going_stop x n = go did
        where
          go : Did → Finished s₀ answers₀ shown₀ p (record { stop = x; calls = at.calls }) s' answers' shown'
          go (more c e b turn left numbers fields) = absurd (let z : ◌≡◌ {A = ℕ} 0 1 = cc in omega arith)
          go (full c e b turn left numbers fields) = let z : x ≡ NoRoom = cc in rw (z, left, numbers, fields) (finished_room c e b)
          go (over e turn left numbers fields) = let z : x ≡ stop_at rest = cc in rw (z, left, numbers, fields) (finished_list e)

pub ruleset goings = (going_start, going_next, going_less, going_stop)
