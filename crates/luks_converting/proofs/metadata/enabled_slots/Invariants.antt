use Rattle.std.proofs.Common.{◌≡◌, ◌<◌, ℕ, List, length, Option}
use Rattle.std.specs.Prelude.{option_map, slice_index_or}
use Rattle.luks1_header.specs.Header1.{IsLuks1}
use Rattle.luks_making.specs.Converted.{source_slot_members}
use Rattle.luks_making.specs.declared.source_volume.SourceSlot.{SourceSlot}
use Rattle.luks_converting.specs.Source.{enabled_slot}
use Rattle.luks_converting.proofs.metadata.enabled_slots.Given as goal

-- the keyslots before this one are handed on
abbrev pub invariant-loop-n : goal.invariant-loop-n
invariant-loop-n l = record {
  eight : length l.slots ≡ 8;
  each : (h : List ℕ) → IsLuks1 h l.header → (k : ℕ) (o : Option SourceSlot) → k < l.n
      → option_map source_slot_members (slice_index_or l.slots k o) ≡ enabled_slot h k;
}
