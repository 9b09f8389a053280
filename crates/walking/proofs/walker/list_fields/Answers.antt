use Rattle.std.proofs.Common.{◌≡◌, ℕ, List, ◌<◌, ◌∙◌, sym, ap, inl, length, rules, arith}
use Rattle.std.specs.List.{enumerate_from}
use Rattle.std.specs.Iterator.{YieldsFirst}
use Rattle.std.specs.Iterator.Adapters.{enumerate_steps, enumerate_source, enumerate_count}
use Rattle.std.proofs.lemmas.List.{length-append}
use Rattle.std.proofs.lemmas.Iterator.{YieldsList}
use Rattle.std.proofs.lemmas.Iterator.Consumers.{YieldsList-from_first, YieldsList-from_enumerate, YieldsList-turn, YieldsList-end}
use Rattle.layout.specs.Leader.{leader_of}
use Rattle.walking.specs.Walk.{spots_left}
use Rattle.walking.specs.Walker.{spot_at, spots_from, spots_of, spot_tag, spot_start, spot_length}
use Rattle.walking.specs.declared.walker.Spot.{Spot}
use Rattle.walking.specs.declared.walker.FieldWalker.{FieldWalker}
use Rattle.std.specs.declared.iter.Enumerate.{Enumerate}
use Rattle.record.proofs.Facts.{readable_facts}
use Rattle.walking.proofs.Walking.{field_in_lem, written_none, written_all, written_more, left_is, left_length, numbered, numbered_length}
use Rattle.walking.proofs.walker.list_fields.Goals as goal
use Rattle.walking.proofs.walker.list_fields.Goals.{In-Some, After-into_iter-index-iterator}

left : (c : After-into_iter-index-iterator) → spots_left (enumerate_source c.into_iter-index-iterator.result) ≡ spots_from c.args.rec.now c.args.count 0
left c =
    let n = c.requires.counted in
    let e : spots_left (enumerate_source c.into_iter-index-iterator.result) ≡ spots_of c.args.rec.now = search rules in
    rw (e, n, left_is)

from_none : (c : After-into_iter-index-iterator) → enumerate_count c.into_iter-index-iterator.result ≡ 0
from_none c = search rules

-- the walk hands out each field of the record with its index
abbrev Road : Enumerate FieldWalker → List ℕ → ℕ → Type 0
Road s rec n = YieldsList {B = ℕ × Spot} (enumerate_steps (YieldsFirst spots_left)) (λ (p : ℕ × Spot). (p.0, p.1)) s (enumerate_from 0 (spots_from rec n 0))

road : (c : After-into_iter-index-iterator) → Road c.into_iter-index-iterator.result c.args.rec.now c.args.count
road c = YieldsList-from_enumerate (YieldsList-from_first (λ x. x) spots_left (spots_from c.args.rec.now c.args.count 0) (left c)) (from_none c)

pub loop-index-init-derived : goal.loop-index-init-derived
loop-index-init-derived c =
    let n = left_length c.args.rec.now c.args.count 0 in
    let e = left c in
    let z = from_none c in
    ((tt, tt, inl (rw (e, n) (omega (arith, z, c.requires.counted, readable_facts c.requires.readable)))), tt)

pub loop-index-init : goal.loop-index-init
loop-index-init c = (sym (written_none _ _ _), sym (written_none _ _ _), sym (written_none _ _ _))

-- the item of a turn: the next field, and its index
turned : (c : In-Some) → Road c.into_iter-index-iterator.result c.args.rec.now c.args.count
    → (length c.loop-index.yielded < (leader_of c.args.rec.now).nvf)
    × (c.in-Some.index ≡ length c.loop-index.yielded)
    × (c.in-Some.spot ≡ spot_at c.args.rec.now (length c.loop-index.yielded))
turned c r =
    let l = c.loop-index in
    let x : ℕ × Spot = (c.in-Some.index, c.in-Some.spot) in
    let t = YieldsList-turn r l.yielded l.index-iterator l.yielded_by c.next.result c.next.new.self x c.in-Some.is c.next.ensures.steps in
    let h : length l.yielded < c.args.count = omega (arith, t.0, numbered_length c.args.rec.now c.args.count) in
    let e = t.1 ∙ numbered c.args.rec.now c.args.count (length l.yielded) x h in
    (omega (arith, h, c.requires.counted), ap (λ (p : ℕ × Spot). p.0) e, ap (λ (p : ℕ × Spot). p.1) e)

pub note-requires : goal.note-requires
note-requires c =
    let t = turned (goal.at.note-requires c).In-Some (road (goal.at.note-requires c).After-into_iter-index-iterator) in
    let f = field_in_lem c.args.rec.now (length c.loop-index.yielded) c.requires.readable t.0 in
    let s = ap (λ (s : Spot). s.start) t.2 in (
      omega (arith, t, c.loop-index.auto.tags, c.requires.tags_long),
      omega (arith, t, c.loop-index.auto.starts, c.requires.starts_long),
      omega (arith, t, c.loop-index.auto.lens, c.requires.lens_long),
      omega (arith, s, f, c.requires.fits),
    )

pub loop-index-preserved : goal.loop-index-preserved
loop-index-preserved c =
    let t = turned (goal.at.loop-index-preserved c).In-Some (road (goal.at.loop-index-preserved c).After-into_iter-index-iterator) in
    let v = c.loop-index.invariant in
    let n = c.note.ensures in
    let rec = c.args.rec.now in
    let k : ℕ = length c.loop-index.yielded in
    let i = t.1 in
    let s = t.2 in (
      rw (length-append, n.0, s, i, v.0) (written_more spot_tag rec c.args.tags.now k (omega (arith, t, c.requires.tags_long))),
      rw (length-append, n.1, s, i, v.1) (written_more (spot_start c.args.at) rec c.args.starts.now k (omega (arith, t, c.requires.starts_long))),
      rw (length-append, n.2, s, i, v.2) (written_more spot_length rec c.args.lens.now k (omega (arith, t, c.requires.lens_long))),
    )

pub returns : goal.returns
returns c =
    let l = c.loop-index in
    let v = l.invariant in
    let t = YieldsList-end (road (goal.at.returns c).After-into_iter-index-iterator) l.yielded l.index-iterator l.yielded_by c.next.result c.next.new.self c.in-None.is c.next.ensures.steps in
    let n : length l.yielded ≡ (leader_of c.args.rec.now).nvf = omega (arith, t.1, numbered_length c.args.rec.now c.args.count, c.requires.counted) in (
      c.requires.counted,
      rw (v.0, n) (written_all spot_tag c.args.rec.now c.args.tags.now),
      rw (v.1, n) (written_all (spot_start c.args.at) c.args.rec.now c.args.starts.now),
      rw (v.2, n) (written_all spot_length c.args.rec.now c.args.lens.now),
    )
