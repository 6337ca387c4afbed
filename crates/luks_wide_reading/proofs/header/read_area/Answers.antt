-- If something is under way the area is judged by the rules of that.
use Rattle.std.proofs.Common.{refl}
use Rattle.luks_wide_reading.proofs.header.read_area.Goals as goal

pub read_under_way-requires : goal.read_under_way-requires
read_under_way-requires c = c.in-Ok-true.ensures.is c.in-Ok-true.field-0-test

pub returns-in-Ok-false-clause-refused : goal.returns-in-Ok-false-clause-refused
returns-in-Ok-false-clause-refused c = (refl, c.in-Ok-false.ensures.other c.in-Ok-false.field-0-test)
