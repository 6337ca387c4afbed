use Rattle.luks_keeping.specs.Laid.{HoldsSlots}
use Rattle.luks_keeping.proofs.slots.slot_areas.Given as goal

-- the areas of the keyslots before this one are listed
abbrev pub invariant-loop-n : goal.invariant-loop-n
invariant-loop-n l = HoldsSlots l.header l.n l.areas
