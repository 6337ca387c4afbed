use Rattle.serde_json.specs.View.{view}
use Rattle.luks_making.proofs.MapFacts.{inserted}
use Rattle.luks_making.proofs.changing.change_member.Goals as goal

pub returns-in_ok-insert : goal.returns-in_ok-insert
returns-in_ok-insert c = λ f d found same.
    inserted (view c.args.object.now) c.in-Some.members.now.entries c.insert.new.self c.in_ok-from_str.field-0 c.args.value c.args.name.now f d
    c.in-Some.ensures.value c.in_ok-insert.ensures.entries c.in_ok-from_str.ensures.ok c.in_ok-insert.ensures.was_ordered found same
