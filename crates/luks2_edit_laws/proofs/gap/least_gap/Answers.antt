use Rattle.std.proofs.Common.{◌+◌, ◌-◌, ◌<◌, ◌≤◌, ◌^◌, Some, None, arith}
use Rattle.luks2_edit_laws.specs.Gap.{area_at}
use Rattle.luks2_edit_laws.proofs.GapFacts.{Meets, finds, gap_at, meets_after, next_place, none_after, none_left}
use Rattle.luks2_edit_laws.proofs.gap.least_gap.Goals as goal

pub returns-in-None-clause-some : goal.returns-in-None-clause-some
returns-in-None-clause-some c =
    gap_at c.args.entries.now c.args.low c.args.high c.args.len c.loop-at.at c.loop-at.invariant (omega (arith, c.loop-at-test.true, c.if-len-high.false))
    (finds (area_at c.loop-at.at c.args.len) c.args.entries.now None c.in-None.ensures)

pub overflow_add-end : goal.overflow_add-end
overflow_add-end c =
    let m : Meets c.args.entries.now (area_at c.loop-at.at c.args.len) c.in-Some.area = finds (area_at c.loop-at.at c.args.len) c.args.entries.now (Some c.in-Some.area) c.in-Some.ensures in
    let inside : c.in-Some.area.start + c.in-Some.area.len ≤ 2 ^ 64 - 1 = c.requires.ends m.name c.in-Some.area m.has in
    omega (arith, inside)

pub returns-then-end-last-clause-none : goal.returns-then-end-last-clause-none
returns-then-end-last-clause-none c = λ _ p g.
    none_after c.args.entries.now c.args.low c.args.high c.args.len c.loop-at.at c.in-Some.area c.loop-at.invariant
    (finds (area_at c.loop-at.at c.args.len) c.args.entries.now (Some c.in-Some.area) c.in-Some.ensures) (omega (arith, c.if-end-last.true, c.if-len-high.false)) p g

pub loop-at-smaller : goal.loop-at-smaller
loop-at-smaller c =
    let m : Meets c.args.entries.now (area_at c.loop-at.at c.args.len) c.in-Some.area = finds (area_at c.loop-at.at c.args.len) c.args.entries.now (Some c.in-Some.area) c.in-Some.ensures in
    let later : c.loop-at.at < c.in-Some.area.start + c.in-Some.area.len = meets_after c.args.entries.now c.loop-at.at c.args.len c.in-Some.area m in
    let beyond : c.in-Some.area.start + c.in-Some.area.len ≤ c.next_block-at-in-Some.result = c.next_block-at-in-Some.ensures.from in
    let test : c.loop-at.at ≤ c.args.high - c.args.len = c.loop-at-test.true in
    omega (arith, later, beyond, test)

pub loop-at-preserved : goal.loop-at-preserved
loop-at-preserved c =
    next_place c.args.entries.now c.args.low c.args.high c.args.len c.loop-at.at c.next_block-at-in-Some.result c.in-Some.area c.loop-at.invariant
    (finds (area_at c.loop-at.at c.args.len) c.args.entries.now (Some c.in-Some.area) c.in-Some.ensures) c.next_block-at-in-Some.ensures

pub returns-clause-none : goal.returns-clause-none
returns-clause-none c = λ _ p g.
    none_left c.args.entries.now c.args.low c.args.high c.args.len c.loop-at.at c.loop-at.invariant (omega (arith, c.loop-at-test.false, c.if-len-high.false)) p g
