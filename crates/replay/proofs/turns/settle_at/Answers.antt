use Rattle.replay.proofs.Turning.{list_reported}
use Rattle.replay.proofs.turns.settle_at.Goals as goal

pub returns : goal.returns
returns c =
    let settled = c.settle_list-done.ensures in
    let zero = c.default.ensures in
    list_reported _ _ _ _ _ _ _ _ _ _ _ _ _ c.requires settled.answers settled.left settled.told c.number.ensures zero.1.0 zero.1.1.0 zero.1.1.1.0 c.put.ensures
