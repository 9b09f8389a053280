use Rattle.replay.proofs.Turning.{list_refused, settled_turns}
use Rattle.replay.proofs.turns.settle_turn.Goals as goal

pub returns-then-not-lists_right : goal.returns-then-not-lists_right
returns-then-not-lists_right c =
    let zero = c.default-then-not-lists_right.ensures in
    let none = c.default.ensures in
    list_refused _ _ _ _ _ _ c.requires.n_in_bounds _ _ _ _ _ _ _ _ _ _ _ c.lists_right.ensures c.if-not-lists_right.true c.if-room-lt-OUTCOME_SIZE.false
    c.from.ensures zero.1.0 zero.1.1.0 zero.1.1.1.0 zero.1.1.1.1 c.put.ensures none.1.0 none.1.1.0 none.1.1.1 c.moved-next.ensures

pub returns-then-room-n : goal.returns-then-room-n
returns-then-room-n c = search settled_turns

pub settle_at-requires : goal.settle_at-requires
settle_at-requires c = search settled_turns

pub returns : goal.returns
returns c = search settled_turns
