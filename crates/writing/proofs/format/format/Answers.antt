use mathlib.Core.Bool.{not}
use mathlib.Core.Path.{ap}
use Rattle.writing.proofs.Results.{format_refused, format_asks_mst, format_asks_xrf, format_done}
use Rattle.writing.proofs.format.format.Goals as goal

pub returns-then-not-lengths_permitted : goal.returns-then-not-lengths_permitted
returns-then-not-lengths_permitted c =
    let h = format_refused _ _ _ c.lengths_permitted.ensures (ap not c.if-not-lengths_permitted.true) in
    record { answers = h.0; left = h.1 }

pub format_mst-requires : goal.format_mst-requires
format_mst-requires c = search format_asks_mst

pub format_xrf-requires : goal.format_xrf-requires
format_xrf-requires c = search format_asks_xrf

pub returns : goal.returns
returns c =
    let l = c.lengths_permitted.ensures in
    let h = format_done _ _ _ l (ap not c.if-not-lengths_permitted.false) _ _ c.format_mst.ensures c.format_xrf.ensures in
    record { answers = h.0; left = h.1 }
