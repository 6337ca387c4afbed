use Rattle.std.proofs.Common.{refl, sym}
use Rattle.serde_json.specs.View.{view}
use Rattle.luks_making.proofs.MemberFacts.{at_none}
use Rattle.luks_making.proofs.changing.set_member.Goals as goal

pub returns-in_ok-change_member-in-Some : goal.returns-in_ok-change_member-in-Some
returns-in_ok-change_member-in-Some c = c.in_ok-change_member-in-Some.ensures (λ _. view c.args.value) (view c.in-Some.field-0.now) (sym c.in-Some.ensures) refl

pub returns-in-None : goal.returns-in-None
returns-in-None c = sym (at_none c.args.name.now (λ _. view c.args.value) (view c.args.object) (sym c.in-None.ensures))
