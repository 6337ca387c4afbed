-- The enabled keyslots of a LUKS1 header, as they are handed on.
use Rattle.std.specs.Prelude.{◌≡◌, ℕ, ◌<◌, List, length, Option, option_map, slice_index_or}
use Rattle.luks_making.specs.Converted.{source_slot_members}
use Rattle.luks_making.specs.declared.source_volume.SourceSlot.{SourceSlot}
use Rattle.luks_converting.specs.Source.{enabled_slot}

-- the keyslots below `n` of the header `h` are handed on by their numbers, those that are enabled
pub record AreSlots (h : List ℕ) (n : ℕ) (given : List (Option SourceSlot)) : Type 0 where
  pub eight : length given ≡ 8
  pub each : (k : ℕ) (o : Option SourceSlot) → k < n → option_map source_slot_members (slice_index_or given k o) ≡ enabled_slot h k
