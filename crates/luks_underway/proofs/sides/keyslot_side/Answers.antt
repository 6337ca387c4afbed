use Rattle.std.proofs.Common.{true, false}
use Rattle.serde_json.specs.View.{view}
use Rattle.luks_underway.proofs.Sided.{sided}
use Rattle.luks_underway.proofs.sides.keyslot_side.Goals as goal

pub returns-in-true-true : goal.returns-in-true-true
returns-in-true-true c =
    sided (view c.args.value.now) c.args.number c.old_digest.result c.new_digest.result true true c.in-true-true.ensures c.in-true-true.ensures'
    c.old_digest.ensures c.new_digest.ensures

pub returns-in-true-false : goal.returns-in-true-false
returns-in-true-false c =
    sided (view c.args.value.now) c.args.number c.old_digest.result c.new_digest.result true false c.in-true-false.ensures c.in-true-false.ensures'
    c.old_digest.ensures c.new_digest.ensures

pub returns-in-false-true : goal.returns-in-false-true
returns-in-false-true c =
    sided (view c.args.value.now) c.args.number c.old_digest.result c.new_digest.result false true c.in-false-true.ensures c.in-false-true.ensures'
    c.old_digest.ensures c.new_digest.ensures

pub returns-in-false-false : goal.returns-in-false-false
returns-in-false-false c =
    sided (view c.args.value.now) c.args.number c.old_digest.result c.new_digest.result false false c.in-false-false.ensures c.in-false-false.ensures'
    c.old_digest.ensures c.new_digest.ensures
