-- Inner: serves functions of this crate and what is read of them above, no part of what is promised.
use Rattle.std.specs.Prelude.{ℕ, ◌+◌, ◌<◌, ◌≤◌, ◌^◌, ◌≡◌, List, length}
use Rattle.layout.specs.Leader.{leader_of}
use Rattle.record.specs.Record.{Readable}

-- the walk has come to a field: the record can be read, its number of fields is known, and its directory has entry i
pub record AtField (rec : List ℕ) (count i : ℕ) : Type 0 where
  pub readable : Readable rec
  pub counted : count ≡ (leader_of rec).nvf
  pub listed : i < (leader_of rec).nvf

-- what is enough to list a record's fields: it can be read, its number of fields is known, each list has room for all of them, and where it ends is a number
pub record Listable (rec : List ℕ) (count at : ℕ) (tags starts lens : List ℕ) : Type 0 where
  pub readable : Readable rec
  pub counted : count ≡ (leader_of rec).nvf
  pub tags_long : (leader_of rec).nvf ≤ length tags
  pub starts_long : (leader_of rec).nvf ≤ length starts
  pub lens_long : (leader_of rec).nvf ≤ length lens
  pub fits : at + (leader_of rec).mfrl < 2 ^ 64
