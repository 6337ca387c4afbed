use Rattle.serde_json.specs.View.{view}
use Rattle.luks_underway.proofs.Sided.{side_by, side_none}
use Rattle.luks_underway.proofs.sides.side_digest.Goals as goal

pub returns-in_err-first_flagged : goal.returns-in_err-first_flagged
returns-in_err-first_flagged c = rw c.from_residual.ensures (side_none (view c.args.value.now) c.args.flag.now c.in_err-first_flagged.ensures)

pub returns : goal.returns
returns c = side_by (view c.args.value.now) c.args.flag.now c.in_ok-first_flagged.field-0 c.first_naming.result c.in_ok-first_flagged.ensures c.first_naming.ensures
