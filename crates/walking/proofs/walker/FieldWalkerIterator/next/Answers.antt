use Rattle.std.proofs.Common.{rules, ap, length}
use Rattle.walking.proofs.Walking.{spots_past, spots_next}
use Rattle.walking.proofs.walker.FieldWalkerIterator.next.Goals as goal

pub returns-then-self-clause-steps : goal.returns-then-self-clause-steps
returns-then-self-clause-steps c =
    let e = spots_past c.args.self.now.rec.now _ _ c.if-self.true in
    (e, e)

pub returns-clause-steps : goal.returns-clause-steps
returns-clause-steps c = rw c.spot_at-spot.ensures (spots_next c.args.self.now.rec.now _ _ c.if-self.false)

pub returns-clause-goes : goal.returns-clause-goes
returns-clause-goes c = search (rules, ap length (spots_next c.args.self.now.rec.now _ _ c.if-self.false))
