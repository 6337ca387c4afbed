use Rattle.luks_meta.specs.Content.{content}
use Rattle.luks_reading.specs.Listing.{AddsLuks2Slots}
use Rattle.luks_reading.proofs.layout.add_luks2_slots.Given as goal

abbrev pub invariant-loop-n : goal.invariant-loop-n
invariant-loop-n l = AddsLuks2Slots l.fn.areas l.areas (content l.meta) l.n
