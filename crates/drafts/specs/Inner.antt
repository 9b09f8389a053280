-- Inner: serves functions of this crate and what is read of them above, no part of what is promised.
use Rattle.std.specs.Prelude.{ℕ, ◌-◌, List, replicate}
use Rattle.word.specs.Overwrite.{overwrite}
use Rattle.layout.specs.Leader.{leader_bytes}
use Rattle.layout.specs.declared.leader.Leader.{Leader}

-- the leader l before a body that stands already, up to `used`, and zeros behind it up to MFRL
unfoldable pub framed : List ℕ → ℕ → Leader → List ℕ
framed d used l = overwrite (overwrite d 0 (leader_bytes l)) used (replicate (l.mfrl - used) 0)
