use Rattle.std.proofs.lemmas.Result.{err_from_is_err_and}
use Rattle.replay.proofs.Turning.{draft_within, mfns_within, turns}
use Rattle.replay.proofs.turns.one_turn.Goals as goal

pub returns-in_err-r : goal.returns-in_err-r
returns-in_err-r c = let p = err_from_is_err_and c.from_residual.result c.from_residual.ensures.1 in rw (p.1, p.2) (let over = c.in_err-r.ensures in search turns)

pub write_turn-requires-clause-draft_within : goal.write_turn-requires-clause-draft_within
write_turn-requires-clause-draft_within c = let first = c.in_ok-r.ensures in draft_within _ _ _ _ _ _ _ _ _ _ _ first c.in-Writes.is c.requires

pub write_turn-requires-clause-mfns_within : goal.write_turn-requires-clause-mfns_within
write_turn-requires-clause-mfns_within c = let first = c.in_ok-r.ensures in mfns_within _ _ _ _ _ _ _ _ _ _ first c.in-Writes.is c.requires

pub settle_turn-requires-clause-n_in_bounds : goal.settle_turn-requires-clause-n_in_bounds
settle_turn-requires-clause-n_in_bounds c = let first = c.in_ok-r.ensures in mfns_within _ _ _ _ _ _ _ _ _ _ first c.in-Settles.is c.requires

pub returns-in-Asks : goal.returns-in-Asks
returns-in-Asks c = let first = c.in_ok-r.ensures in search turns

pub returns-in-Writes : goal.returns-in-Writes
returns-in-Writes c = let first = c.in_ok-r.ensures in search turns

pub returns-in-Settles : goal.returns-in-Settles
returns-in-Settles c = let first = c.in_ok-r.ensures in search turns
