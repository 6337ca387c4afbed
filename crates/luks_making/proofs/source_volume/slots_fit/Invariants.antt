use Rattle.std.proofs.Common.{◌≡◌, ℕ, ◌<◌, Some}
use Rattle.luks_making.specs.Conversions.{FitsSourceSlot}
use Rattle.luks_making.specs.Converted.{SourceSlotMembers, source_members}
use Rattle.luks_making.proofs.source_volume.slots_fit.Given as goal

-- the keyslots before this one fit
abbrev pub invariant-loop-slot : goal.invariant-loop-slot
invariant-loop-slot l = (n : ℕ) (s : SourceSlotMembers) → n < l.slot-index → (source_members l.volume).slot n ≡ Some s → FitsSourceSlot s
