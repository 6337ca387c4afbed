use Rattle.luks_meta.specs.Content.{content}
use Rattle.luks2_judging.proofs.KeyAreaFacts.{area_of_object}
use Rattle.luks2_judging.proofs.keyslots.key_area.Goals as goal

pub returns : goal.returns
returns c =
    let slot = c.in-Some.ensures.some in
    area_of_object (content c.args.meta.now) slot.object c.args.n c.in-Some.keyslot.area.offset c.in-Some.keyslot.area.size c.requires.0 slot.is slot.tells_members.4.3 slot.tells_members.4.4
