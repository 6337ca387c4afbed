use Rattle.luks_reading.proofs.Luks1AreaFacts.{AddsSlots}
use Rattle.luks_reading.proofs.layout.add_luks1_slots.Given as goal

abbrev pub invariant-loop-n : goal.invariant-loop-n
invariant-loop-n l = AddsSlots l.fn.areas l.areas l.header l.n
