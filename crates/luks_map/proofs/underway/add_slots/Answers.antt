use Rattle.std.proofs.Common.{◌≡◌, ◌++◌, ap, ◌∙◌, sym, arith, append-nil}
use Rattle.luks_rules.specs.declared.table.Section.TheVariants.{Keyslots}
use Rattle.luks_wider.specs.Underways.{content}
use Rattle.luks_map.specs.UnderwayRows.{object_row, rows_below, slot_row}
use Rattle.luks_map.proofs.UnderwayFacts.{next_row, one_longer, rows_none}
use Rattle.luks_map.proofs.underway.add_slots.Goals as goal

pub loop-n-init : goal.loop-n-init
loop-n-init c =
    let least = c.requires in
    record {
      rows = sym (append-nil c.args.rows.now.items) ∙ ap (λ l. c.args.rows.now.items ++ l) (sym (rows_none _));
      count = omega (arith, least);
    }

pub add_row-requires : goal.add_row-requires
add_row-requires c = let count = c.loop-n.invariant.count in let lt = c.loop-n-test.true in omega (arith, count, lt)

pub loop-n-preserved : goal.loop-n-preserved
loop-n-preserved c =
    let count = c.loop-n.invariant.count in
    let longer = one_longer _ _ _ c.add_row.ensures in
    record {
      rows = next_row _ _ _ _ c.loop-n.n _ c.loop-n.invariant.rows c.slot_row.ensures c.add_row.ensures;
      count = omega (arith, count, longer);
    }

pub returns-clause-rows : goal.returns-clause-rows
returns-clause-rows c =
    let all : c.loop-n.n ≡ 32 = omega (arith, c.loop-n-test.false, c.loop-n.auto.n-end) in
    c.loop-n.invariant.rows ∙ ap (λ n. c.args.rows.now.items ++ rows_below (object_row slot_row (content c.args.meta.now) Keyslots) n) all

pub returns-clause-count : goal.returns-clause-count
returns-clause-count c = let count = c.loop-n.invariant.count in let end = c.loop-n.auto.n-end in omega (arith, count, end)
