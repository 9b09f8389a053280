use mathlib.Core.Bool.{not}
use mathlib.Core.Path.{ap}
use Rattle.migrating.proofs.Answers.{migrate_lengths, migrate_control, migrate_write, migrate_done}
use Rattle.migrating.proofs.migrate.migrate.Goals as goal

pub returns-then-not-lengths_permitted : goal.returns-then-not-lengths_permitted
returns-then-not-lengths_permitted c =
    let h = migrate_lengths _ _ _ c.lengths_permitted.ensures (ap not c.if-not-lengths_permitted.true) in
    record { answers = h.0; left = h.1 }

pub returns-then-not-old_control_right : goal.returns-then-not-old_control_right
returns-then-not-old_control_right c =
    let l = ap not c.if-not-lengths_permitted.false in
    let r = ap not c.if-not-old_control_right.true in
    let h = migrate_control _ _ _ c.lengths_permitted.ensures l _ c.capacity.ensures _ c.old_control_right.ensures r in
    record { answers = h.0; left = h.1 }

pub migrate_end-requires : goal.migrate_end-requires
migrate_end-requires c = migrate_write _ _ _ c.old_control_right.ensures (ap not c.if-not-old_control_right.false)

pub returns : goal.returns
returns c =
    let l = ap not c.if-not-lengths_permitted.false in
    let r = ap not c.if-not-old_control_right.false in
    let h = migrate_done _ _ _ c.lengths_permitted.ensures l _ c.capacity.ensures _ c.old_control_right.ensures r _ c.migrate_end.ensures in
    record { answers = h.0; left = h.1 }
