use Rattle.std.proofs.Common.{◌≡◌, ap, arith, rules, sym, ◌∙◌, ap₂, ◌+◌, ◌++◌}
use Rattle.std.proofs.Output.{has_written_append, has_written_of_eq}
use Rattle.luks_wider.specs.Underways.{content}
use Rattle.luks_underway_tables.specs.Table.{part_listed, parts_below}
use Rattle.luks_underway_tables.proofs.Places.{parts_more, parts_none, place_more, place_none}
use Rattle.luks_underway_tables.proofs.table.list_parts.Goals as goal

pub loop-n-init : goal.loop-n-init
loop-n-init g c = record {
  place = sym (place_none _ _);
  few = omega arith;
  written = λ plain. has_written_of_eq _ _ _ _ _ (sym (parts_none _ _)) (search rules);
}

pub overflow_add-place : goal.overflow_add-place
overflow_add-place g c =
    let few = c.loop-n.invariant.few in
    let more = c.sectors_at-place.ensures.few in
    let below = c.loop-n-test.true in
    omega (arith, few, more, below)

pub loop-n-preserved : goal.loop-n-preserved
loop-n-preserved g c =
    let j = content c.args.meta.now in
    let few = c.loop-n.invariant.few in
    let more = c.sectors_at-place.ensures.few in
    record {
      place = ap₂ (λ a b. a + b) c.loop-n.invariant.place c.sectors_at-place.ensures.are ∙ place_more c.args.end j c.loop-n.n;
      few = omega (arith, few, more);
      written = λ plain.
          let before = c.loop-n.invariant.written plain in
          has_written_of_eq _ _ _ _ _
          (ap (λ p. parts_below c.args.end j c.loop-n.n ++ part_listed c.args.end j c.loop-n.n p) c.loop-n.invariant.place ∙ parts_more c.args.end j c.loop-n.n)
          (has_written_append _ _ _ _ _ _ before (c.list_part.ensures before.plain (search rules)));
    }

pub returns : goal.returns
returns g c plain ok =
    let all : c.loop-n.n ≡ 32 = omega (arith, c.loop-n-test.false, c.loop-n.auto.n-end) in
    has_written_of_eq _ _ _ _ _ (ap (λ n. parts_below c.args.end (content c.args.meta.now) n) all) (c.loop-n.invariant.written plain)
