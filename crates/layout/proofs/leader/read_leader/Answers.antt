use native.Mathlib.Omega.{arith}
use Rattle.layout.proofs.LeaderBytes.{leader_front}
use Rattle.layout.proofs.leader.read_leader.Goals as goal

pub returns : goal.returns
returns c =
    rw (c.leader_of.ensures, c.copy_from_slice.ensures.after) (leader_front c.args.rec.now 18 (omega arith))
