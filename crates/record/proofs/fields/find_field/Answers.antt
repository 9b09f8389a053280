-- `find_field`: what was met before entry i is what was asked for without `left`, and the rest of the walk is that from i on.
use Rattle.std.proofs.Common.{◌≡◌, ◌∙◌, rules, arith}
use Rattle.layout.specs.Leader.{leader_of}
use Rattle.record.proofs.Search.{sought_none, find_no_occurrence, find_missing, find_fewer, find_other, find_later, find_here}
use Rattle.record.proofs.Facts.{readable_facts}
use Rattle.record.proofs.fields.find_field.Goals as goal
use Rattle.record.proofs.fields.find_field.Goals.{then-eq+else-left-eq1, else-eq}

pub returns-then-occurrence-eq0 : goal.returns-then-occurrence-eq0
returns-then-occurrence-eq0 c = find_no_occurrence _ _ _ (omega arith)

pub u16_at-requires : goal.u16_at-requires
u16_at-requires c = omega (arith, readable_facts c.requires)

pub u16_at-requires-2 : goal.u16_at-requires-2
u16_at-requires-2 c = omega (arith, readable_facts c.requires)

pub loop-i-init : goal.loop-i-init
unfolding leader_of
loop-i-init c = sought_none _ _ _ _ _ (omega arith) (c.from-base.ensures ∙ c.u16_at.ensures) (c.from-nvf.ensures ∙ c.u16_at-2.ensures)

pub tag_at-requires : goal.tag_at-requires
unfolding leader_of
tag_at-requires c = omega (arith, readable_facts c.requires)

pub pos_at-requires : goal.pos_at-requires
unfolding leader_of
pos_at-requires c = omega (arith, readable_facts c.requires)

pub len_at-requires : goal.len_at-requires
unfolding leader_of
len_at-requires c = omega (arith, readable_facts c.requires)

pub returns-then-left-eq1 : goal.returns-then-left-eq1
returns-then-left-eq1 c =
    let same : c.tag_at.result.0 ≡ c.args.tag.0 = search rules in
    find_here _ _ _ _ _ _ _ c.loop-i.invariant c.loop-i-test.true _ c.tag_at.ensures same _ _ c.if-left-eq1.true
    c.pos_at.ensures.0
    c.len_at.ensures.0

pub loop-i-preserved : goal.loop-i-preserved
loop-i-preserved c =
    let t = c in
    let e = c.tag_at.ensures in
    elim c.if-eq.branch [
      | then-eq+else-left-eq1 w ↦
          let same : t.tag_at.result.0 ≡ t.args.tag.0 = search rules in
          rw w.left-is (find_later _ _ _ _ _ _ _ t.loop-i.invariant t.loop-i-test.true _ e same w.if-left-eq1.false)
      | else-eq w ↦
          let other : t.tag_at.result.0 ≡ t.args.tag.0 → ⊥ = search rules in
          rw w.left-is (find_other _ _ _ _ _ _ _ t.loop-i.invariant t.loop-i-test.true _ e other)
    ]

pub returns-in-0 : goal.returns-in-0
returns-in-0 c = find_missing _ _ _ _ _ _ _ c.loop-i.invariant c.loop-i-test.false (omega (arith, c.in-0.is))

pub returns-in_default : goal.returns-in_default
returns-in_default c = find_fewer _ _ _ _ _ _ _ c.loop-i.invariant c.loop-i-test.false (omega (arith, c.in_default))
