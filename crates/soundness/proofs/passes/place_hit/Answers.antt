use Rattle.store.proofs.Marks.{mark_changed}
use Rattle.soundness.proofs.PassAnswers.{hit_back}
use Rattle.soundness.proofs.passes.place_hit.Goals as goal

pub returns : goal.returns
returns c =
    hit_back _ _ _ _ c.place_address-at.ensures c.if-at-s.false _ c.requires (mark_changed _ _ c.ne.ensures c.if-ne.false) _ c.read_leader-l.ensures _ c.address.ensures
