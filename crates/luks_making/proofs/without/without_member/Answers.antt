use Rattle.std.proofs.Common.{ap, ◌∙◌}
use Rattle.serde_json.specs.View.{members_view}
use Rattle.luks_making.proofs.MapFacts.{found_in_map, removed}
use Rattle.luks_making.proofs.without.without_member.Goals as goal

pub returns : goal.returns
returns c =
    let es = c.args.members.entries in
    ap members_view c.remove.ensures.entries
    ∙ removed c.args.name.now es (found_in_map c.args.name.now c.remove.new.self.entries es c.remove.ensures.entries c.remove.ensures.updates.1)
