use Rattle.std.proofs.Common.{◌≡◌, ℕ, ◌<◌, ◌≤◌, length, slice_index_or}
use Rattle.luks1_header.specs.declared.luks1.Luks1Slot.{Luks1Slot}
use Rattle.luks_formatting.specs.NewHeader1.{new_slot}
use Rattle.luks_formatting.proofs.new_header1.new_slots.Given as goal

-- the keyslots before this one are made
abbrev pub invariant-loop-n : goal.invariant-loop-n
invariant-loop-n l = record {
  eight : length l.slots ≡ 8;
  some : 1 ≤ l.n;
  each : (k : ℕ) (s : Luks1Slot) → k < l.n → slice_index_or l.slots k s ≡ new_slot l.key_bytes l.format l.random k;
}
