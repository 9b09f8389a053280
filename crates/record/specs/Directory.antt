-- The directory of a record: NVF entries of TAG, POS, LEN after the leader. Document 01, "Records". A record is the part of the MST from
-- its first byte; nothing here knows an address. The rules are said over the widths of a format, and this format's are one instance.
use Rattle.std.specs.Prelude.{ℕ, zero, suc, ◌+◌, ◌*◌, Bool, true, ◌&&◌, cond, List, eqb, leb}
use Rattle.word.specs.Integer.{u16_at}
use Rattle.layout.specs.Sizes.{tag_permitted}

-- the widths of a format: how an integer of the directory is read, where those of the first entry stand, right behind the leader, how many
-- bytes an entry has, and which tags are in range
pub record Widths : Type 0 where
  pub integer_at : List ℕ → ℕ → ℕ
  pub tag : ℕ
  pub pos : ℕ
  pub len : ℕ
  pub entry : ℕ
  pub permitted : ℕ → Bool

-- integers of 2 bytes, behind a leader of 18
abbrev pub isis : Widths
isis = record { integer_at = u16_at; tag = 18; pos = 20; len = 22; entry = 6; permitted = tag_permitted }

-- TAG, POS and LEN of directory entry i, counted from 0
abbrev pub tag_in : Widths → List ℕ → ℕ → ℕ
tag_in w rec i = w.integer_at rec (w.tag + w.entry * i)

abbrev pub pos_in : Widths → List ℕ → ℕ → ℕ
pos_in w rec i = w.integer_at rec (w.pos + w.entry * i)

abbrev pub len_in : Widths → List ℕ → ℕ → ℕ
len_in w rec i = w.integer_at rec (w.len + w.entry * i)

abbrev pub tag_at : List ℕ → ℕ → ℕ
tag_at rec i = tag_in isis rec i

abbrev pub pos_at : List ℕ → ℕ → ℕ
pos_at rec i = pos_in isis rec i

abbrev pub len_at : List ℕ → ℕ → ℕ
len_at rec i = len_in isis rec i

-- the rules of entry i, after lengths that sum to pos: its tag is in range, its POS is that sum, and its LEN makes the sum at most room
unfoldable pub entry_right : Widths → List ℕ → ℕ → ℕ → ℕ → Bool
entry_right w rec room i pos = w.permitted (tag_in w rec i) && eqb (pos_in w rec i) pos && leb (pos + len_in w rec i) room

-- k entries from entry i on: the first POS is pos, each next POS is the one before plus its LEN
unfoldable pub entries_right : Widths → List ℕ → ℕ → ℕ → ℕ → ℕ → Bool
entries_right w rec room zero i pos = true
entries_right w rec room (suc k) i pos = entry_right w rec room i pos && entries_right w rec room k (i + 1) (pos + len_in w rec i)

-- the number, counted from 1, of the first of these entries that is not right, by the same rules; 0 where all are right. Request C-16
unfoldable pub first_broken : Widths → List ℕ → ℕ → ℕ → ℕ → ℕ → ℕ
first_broken w rec room zero i pos = 0
first_broken w rec room (suc k) i pos = cond (entry_right w rec room i pos) (first_broken w rec room k (i + 1) (pos + len_in w rec i)) (i + 1)

unfoldable pub directory_right : List ℕ → ℕ → ℕ → ℕ → ℕ → Bool
directory_right rec room k i pos = entries_right isis rec room k i pos
