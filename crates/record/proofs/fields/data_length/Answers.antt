use Rattle.std.proofs.Common.{◌≡◌, suc, sym, ◌∙◌, arith}
use Rattle.layout.specs.Leader.{leader_of}
use Rattle.record.proofs.FieldData.{data_empty, data_end}
use Rattle.record.proofs.Facts.{readable_facts}
use Rattle.record.proofs.fields.data_length.Goals as goal

pub u16_at-requires : goal.u16_at-requires
u16_at-requires c = omega (arith, readable_facts c.requires)

pub pos_at-requires : goal.pos_at-requires
unfolding leader_of
pos_at-requires c = omega (arith, readable_facts c.requires, c.in-Some.ensures)

pub len_at-requires : goal.len_at-requires
unfolding leader_of
len_at-requires c = omega (arith, readable_facts c.requires, c.in-Some.ensures)

pub returns-in-None : goal.returns-in-None
unfolding leader_of
returns-in-None c = sym (data_empty _ c.requires (omega (arith, c.in-None.ensures)))

pub returns-in-Some : goal.returns-in-Some
unfolding leader_of
returns-in-Some c =
    let e : c.u16_at.result ≡ suc c.in-Some.last = omega (arith, c.in-Some.ensures) in
    rw (c.pos_at.ensures.0, c.len_at.ensures.0)
    (sym (data_end _ c.requires c.in-Some.last (sym c.u16_at.ensures ∙ e)))
