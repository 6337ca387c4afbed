use Rattle.std.proofs.Common.{rules, arith}
use Rattle.luks_keeping.proofs.EndFacts.{end_fits}
use Rattle.luks_keeping.proofs.size.area_end.Goals as goal

pub overflow_add-result : goal.overflow_add-result
overflow_add-result c = (
    let start = c.luks1_area-area.ensures.start in
    let len = c.luks1_area-area.ensures.len in
    let below = end_fits c.args.slot.key_material_offset c.args.key_bytes c.args.slot.stripes c.luks1_area-area.result.start c.luks1_area-area.result.len (search rules) c.requires (search rules) start len in
    omega (arith, below))
