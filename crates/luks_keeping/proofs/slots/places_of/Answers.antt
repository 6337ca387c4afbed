use Rattle.std.proofs.Common.{rules}
use Rattle.luks_keeping.proofs.SlotFacts.{laid1, laid2}
use Rattle.luks_keeping.proofs.slots.places_of.Goals as goal

pub returns-in-Luks1 : goal.returns-in-Luks1
returns-in-Luks1 c = laid1 c.args.header.now _ c.slot_areas-areas.result c.in-Luks1.is c.slot_areas-areas.ensures

pub returns-in-Luks2 : goal.returns-in-Luks2
returns-in-Luks2 c = laid2 c.args.header.now c.in-Luks2.copy c.slot_areas-areas.result _ c.in-Luks2.is (search rules) c.slot_areas-areas.ensures
