use Rattle.std.proofs.Common.{◌≡◌, ◌++◌, ap, ◌∙◌, sym, arith, append-nil}
use Rattle.luks_rules.specs.declared.table.Section.TheVariants.{Segments}
use Rattle.luks_wider.specs.Underways.{content}
use Rattle.luks_map.specs.UnderwayRows.{object_row, rows_below, segment_row}
use Rattle.luks_map.proofs.UnderwayFacts.{next_row, one_longer, rows_none}
use Rattle.luks_map.proofs.underway.add_segments.Goals as goal

pub loop-n-init : goal.loop-n-init
loop-n-init c =
    let least = c.requires in
    record {
      rows = sym (append-nil c.args.rows.now.items) ∙ ap (λ l. c.args.rows.now.items ++ l) (sym (rows_none _));
      count = omega (arith, least);
    }

pub add_row-requires : goal.add_row-requires
add_row-requires c = let count = c.loop-n.invariant.count in let lt = c.loop-n-test.true in omega (arith, count, lt)

pub loop-n-preserved : goal.loop-n-preserved
loop-n-preserved c =
    let count = c.loop-n.invariant.count in
    let longer = one_longer _ _ _ c.add_row.ensures in
    record {
      rows = next_row _ _ _ _ c.loop-n.n _ c.loop-n.invariant.rows c.segment_row.ensures c.add_row.ensures;
      count = omega (arith, count, longer);
    }

pub returns : goal.returns
returns c =
    let all : c.loop-n.n ≡ 32 = omega (arith, c.loop-n-test.false, c.loop-n.auto.n-end) in
    c.loop-n.invariant.rows ∙ ap (λ n. c.args.rows.now.items ++ rows_below (object_row (segment_row c.args.total) (content c.args.meta.now) Segments) n) all
