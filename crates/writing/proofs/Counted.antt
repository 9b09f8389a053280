-- What RECCNT does to a table: the second reason for 2 of a create and a revert may as well be a row behind the gate, where the code asks it, and that
-- of a delete one behind 4 to 9. Where it does not bar a call, the table is the one without it.
use Rattle.std.specs.Prelude.{Ok, Err}
use Prim.Native.Nat.{ℕ, ◌+◌}
use native.Mathlib.Omega.{arith}
use mathlib.Core.Path.{◌≡◌, refl, sym, ap, ◌∙◌}
use mathlib.Core.Bool.{Bool, true, false, not, ◌&&◌, ◌||◌, cond}
use mathlib.Core.List.{List, [], ◌∷◌, ◌++◌}
use lib.Dec.{eqb}
use lib.ListN.{length}
use Rattle.layout.specs.Sizes.{capacity_of}
use Rattle.files.specs.CrossReference.{xrf_block, head_right, slot_free}
use Rattle.files.specs.Control.{next_of, count_full, count_none}
use Rattle.drafts.specs.Bytes.{need_for}
use Rattle.drafts.specs.Draft.{Draft, is_right, fields_in}
use Rattle.store.specs.Store.{Store}
use Rattle.store.specs.Answer.{Row, number_of, refuse, lowest, Answer}
use Rattle.store.specs.Reading.{lengths_permitted, control_fine, place_for, is_settled, is_new, current_fields}
use Rattle.store.specs.Refusals.{gated, named, both_fine}
use Rattle.store.specs.declared.answer.Refusal.TheVariants.{BadLength, BadControl, BadDraft, NoSlot, BadEntry, NotPending, NeverSettled, NoRoom}
use Rattle.store.proofs.Gates.{passed, gated_passes, gate_done}
use Rattle.writing.specs.Refusals.{exceeds, gated_unless, none_of, delete_named, create_answer, delete_answer, revert_answer}

-- ---- a table that RECCNT may bar

-- two reasons for one answer
either : (a b : Bool) (x y : Answer) → cond (a || b) x y ≡ cond a x (cond b x y)
either true b x y = refl
either false b x y = refl

module _ (s : Store) (barred : Bool) (rest : List Row) where
  -- as two rows
  pub unless_rows : lowest (gated_unless s barred rest) ≡ lowest (gated s (refuse BadControl barred ∷ rest))
  unless_rows = ap (cond (not (lengths_permitted s)) (Err BadLength)) (either (not (control_fine s)) barred (Err BadControl) (lowest rest))

  -- where it does not
  pub unless_clear : barred ≡ false → lowest (gated_unless s barred rest) ≡ lowest (gated s rest)
  unless_clear h = unless_rows ∙ rw h

  -- a call that is done was not barred
  unless_done : lowest (gated_unless s barred rest) ≡ Ok tt → lowest (gated s rest) ≡ Ok tt
  unfolding number_of
  unless_done e =
      let g = gate_done s.mst s.xrf _ (sym unless_rows ∙ e) in
      gated_passes s.mst s.xrf rest g.0 g.1 ∙ (passed barred (Err BadControl) (lowest rest) (λ z. omega arith) g.2).1

module _ (s : Store) where
  -- the rows behind the gate
  abbrev pub create_rows : Draft → List Row
  create_rows d =
      refuse BadDraft (not (is_right d))
      ∷ refuse NoSlot (eqb (next_of s.mst) (capacity_of (length s.xrf) + 1))
      ∷ refuse BadEntry (not (head_right s.xrf (xrf_block (next_of s.mst)) && slot_free s.xrf (next_of s.mst)))
      ∷ refuse NoRoom (exceeds s.mst (need_for (fields_in d)))
      ∷ []

  abbrev pub revert_rows : ℕ → List Row
  revert_rows m =
      named s m (both_fine s m)
      (refuse NotPending (is_settled (place_for s m).mark) ∷ refuse NeverSettled (is_new (place_for s m).mark) ∷ [])

  -- as the code asks them
  pub create_asks_count : (d : Draft) → create_answer s d ≡ lowest (gated s (refuse BadControl (count_full s.mst) ∷ create_rows d))
  unfolding create_answer
  create_asks_count d = unless_rows s (count_full s.mst) (create_rows d)

  pub revert_asks_count : (m : ℕ) → revert_answer s m ≡ lowest (gated s (refuse BadControl (count_full s.mst) ∷ revert_rows m))
  unfolding revert_answer
  revert_asks_count m = unless_rows s (count_full s.mst) (revert_rows m)

  -- below 2,147,483,647
  pub create_clear : (d : Draft) → count_full s.mst ≡ false → create_answer s d ≡ lowest (gated s (create_rows d))
  unfolding create_answer
  create_clear d h = unless_clear s (count_full s.mst) (create_rows d) h

  pub revert_clear : (m : ℕ) → count_full s.mst ≡ false → revert_answer s m ≡ lowest (gated s (revert_rows m))
  unfolding revert_answer
  revert_clear m h = unless_clear s (count_full s.mst) (revert_rows m) h

  pub create_through : (d : Draft) → create_answer s d ≡ Ok tt → lowest (gated s (create_rows d)) ≡ Ok tt
  unfolding create_answer
  create_through d e = unless_done s (count_full s.mst) (create_rows d) e

  pub revert_through : (m : ℕ) → revert_answer s m ≡ Ok tt → lowest (gated s (revert_rows m)) ≡ Ok tt
  unfolding revert_answer
  revert_through m e = unless_done s (count_full s.mst) (revert_rows m) e

-- ---- delete

-- a row that is given only where none of some others applies may stand behind them
pub late : (a : Answer) (c : Bool) (rows rest : List Row) → lowest (record { answer = a; applies = c && none_of rows } ∷ (rows ++ rest)) ≡ lowest (rows ++ (record { answer = a; applies = c } ∷ rest))
late a c [] rest = ap (λ (b : Bool). cond b a (lowest rest)) (and_true c)
  where
    and_true : (b : Bool) → b && true ≡ b
    and_true true = refl
    and_true false = refl
late a c (r ∷ rows) rest = go r.applies c (late a c rows rest)
  where
    go : (t b : Bool) → cond (b && none_of rows) a (lowest (rows ++ rest)) ≡ lowest (rows ++ (record { answer = a; applies = c } ∷ rest))
        → cond (b && (not t && none_of rows)) a (cond t r.answer (lowest (rows ++ rest))) ≡ cond t r.answer (lowest (rows ++ (record { answer = a; applies = c } ∷ rest)))
    go true true h = refl
    go true false h = refl
    go false b h = h

module _ (s : Store) (m : ℕ) where
  abbrev pub room_row : Row
  room_row = refuse NoRoom (is_settled (place_for s m).mark && exceeds s.mst (need_for (current_fields s.mst (place_for s m))))

  -- as the code asks it
  pub delete_late : delete_answer s m ≡ lowest (gated s (delete_named s m (refuse BadControl (count_none s.mst) ∷ room_row ∷ [])))
  unfolding delete_answer
  delete_late =
      unless_rows s (count_none s.mst && none_of (delete_named s m [])) (delete_named s m (room_row ∷ []))
      ∙ ap (λ (a : Answer). cond (not (lengths_permitted s)) (Err BadLength) (cond (not (control_fine s)) (Err BadControl) a))
      (late (Err BadControl) (count_none s.mst) (delete_named s m []) (room_row ∷ []))

  -- where RECCNT is above 0
  pub delete_clear : count_none s.mst ≡ false → delete_answer s m ≡ lowest (gated s (delete_named s m (room_row ∷ [])))
  unfolding delete_answer
  delete_clear h = unless_clear s (count_none s.mst && none_of (delete_named s m [])) (delete_named s m (room_row ∷ [])) (rw h)
