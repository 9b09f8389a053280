-- What a recount answers and leaves, and what holds after it. Request C-17: for older cards one new call writes RECCNT.
use Rattle.std.specs.Prelude.{Ok}
use Rattle.std.specs.Prelude.{ℕ, ◌≡◌, true, not, cond, List, [], ◌∷◌, pos, length, get_or}
use Rattle.files.specs.Control.{count_of, count_is, with_count}
use Rattle.files.specs.NamedBytes.{CountByte}
use Rattle.store.specs.Store.{Store, store}
use Rattle.store.specs.Answer.{Row, refuse, lowest, after, Answer}
use Rattle.store.specs.Refusals.{gated}
use Rattle.store.specs.declared.answer.Refusal.TheVariants.{NotSound}
use Rattle.soundness.specs.Sound.{live_count, body_apart, sound_apart, sound_of}

-- 0, 1, 2, or 14 if the store is not sound apart from RECCNT, whatever that holds
abbrev pub recount_refusals : Store → List Row
recount_refusals s = gated s (refuse NotSound (not (body_apart s)) ∷ [])

unfoldable pub recount_answer : Store → Answer
recount_answer s = lowest (recount_refusals s)

-- the MST with n in RECCNT; where it is n already, no byte is written
unfoldable pub recounted_mst : List ℕ → ℕ → List ℕ
recounted_mst mst n = cond (count_is mst n) mst (with_count mst (pos n))

unfoldable pub recount_leaves : Store → Store
recount_leaves s = after (recount_answer s) (store (recounted_mst s.mst (live_count s)) s.xrf) s

-- THE CLAIM, of any two buffers
pub record Recounts (s : Store) : Type 0 where
  -- it is done exactly if the store is sound apart from RECCNT
  pub done : sound_apart s ≡ true → recount_answer s ≡ Ok tt
  pub only : recount_answer s ≡ Ok tt → sound_apart s ≡ true
  -- the store is sound then, and RECCNT is the number of live entries that there were
  pub sound : recount_answer s ≡ Ok tt → sound_of (recount_leaves s) ≡ true
  pub count : recount_answer s ≡ Ok tt → count_of (recount_leaves s).mst ≡ pos (live_count s)
  -- no byte but those of RECCNT is changed
  pub long : length (recount_leaves s).mst ≡ length s.mst
  pub kept : (i : ℕ) → (CountByte i → ⊥) → get_or (recount_leaves s).mst i 0 ≡ get_or s.mst i 0
  pub xrf : (recount_leaves s).xrf ≡ s.xrf
  -- and of a sound store none
  pub nothing : sound_of s ≡ true → recount_leaves s ≡ s
