use Rattle.luks1_rebuilding.proofs.UsedFacts.{of_slot, slot_copied}
use Rattle.luks1_rebuilding.proofs.key_areas.copy_slot.Goals as goal

pub copy_area-requires-clause-there : goal.copy_area-requires-clause-there
copy_area-requires-clause-there g c = c.requires.there.inside c.args.n c.in-Some.area c.in-Some.ensures.some

pub copy_area-requires-clause-within : goal.copy_area-requires-clause-within
copy_area-requires-clause-within g c = c.requires.within.inside c.args.n c.in-Some.area c.in-Some.ensures.some

pub returns-in-Some-clause-copied : goal.returns-in-Some-clause-copied
returns-in-Some-clause-copied g c = λ source tells.
    slot_copied c.copy_area.result c.args.fields.now c.args.n c.in-Some.area (g.S.Device.bytes c.args.source.now) (g.T.Device.bytes c.copy_area.new.target)
    c.in-Some.ensures.some (c.copy_area.ensures.copied source tells)

pub returns-in-Some-clause-rest : goal.returns-in-Some-clause-rest
returns-in-Some-clause-rest g c = λ tells.
    of_slot c.args.fields.now c.args.n c.in-Some.area c.in-Some.ensures.some (c.copy_area.ensures.rest tells)
