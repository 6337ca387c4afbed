use Rattle.std.proofs.Common.{◌≡◌, ℕ, ◌<◌, length, slice_index_or}
use Rattle.luks1_header.specs.declared.luks1.Luks1Slot.{Luks1Slot}
use Rattle.luks1_mending.specs.Mended.{IsMadeSlot}
use Rattle.luks1_mending.proofs.mended.made_slots.Given as goal

-- the keyslots before this one are made
abbrev pub invariant-loop-n : goal.invariant-loop-n
invariant-loop-n l = record {
  eight : length l.slots ≡ 8;
  each : (k : ℕ) (s : Luks1Slot) → k < l.n → IsMadeSlot l.header l.key_bytes l.total k (slice_index_or l.slots k s);
}
