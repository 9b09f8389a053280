use Rattle.postings.specs.Cursor.{floor_of}
use Rattle.postings.proofs.Ascent.{ask_falls, ask_climbs}
use Rattle.postings.proofs.list.run_right.Goals as goal

pub returns-then-not-rises : goal.returns-then-not-rises
returns-then-not-rises c =
    let a = c.args in
    ask_falls a.ifp.now a.at a.n (floor_of a.last) c.requires.0 _ c.posting_at-p.ensures _ c.rises.ensures c.if-not-rises.true

pub returns : goal.returns
returns c =
    let a = c.args in
    ask_climbs a.ifp.now a.at a.n (floor_of a.last) c.requires.0 _ c.posting_at-p.ensures _ c.rises.ensures c.if-not-rises.false c.if-ifp-at.false _
    c.climbs.ensures
