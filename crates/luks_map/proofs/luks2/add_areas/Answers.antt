use Rattle.std.proofs.Common.{◌++◌, ap, ◌∙◌, sym, arith, append-nil, map}
use Rattle.std.proofs.lemmas.List.{take_all}
use Rattle.luks_map.specs.Luks2Rows.{area_row}
use Rattle.luks_map.proofs.RowFacts.{next_area}
use Rattle.luks_map.proofs.luks2.add_areas.Goals as goal

pub loop-entry-init : goal.loop-entry-init
loop-entry-init c = (sym (append-nil c.args.rows.now.items), omega arith)

pub push-requires : goal.push-requires
push-requires c =
    let count = c.loop-entry.invariant.1 in
    let lt = c.loop-entry-test.true in
    let room = c.requires.room in
    (omega arith, omega (arith, count, lt, room))

pub loop-entry-preserved : goal.loop-entry-preserved
loop-entry-preserved c = (
  rw (c.push.ensures.items, c.area_row.ensures)
      (next_area c.args.rows.now.items c.loop-entry.rows.items c.loop-entry.entry-index c.args.areas.now _ c.loop-entry-test.true c.loop-entry.invariant.0),
  let count = c.loop-entry.invariant.1 in c.push.ensures.len ∙ omega (arith, count),
)

pub returns : goal.returns
returns c = c.loop-entry.invariant.0 ∙ ap (λ l. c.args.rows.now.items ++ map area_row l) (take_all _ _ c.loop-entry-test.false)
