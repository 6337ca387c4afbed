use Rattle.std.proofs.Common.{◌≡◌, ℕ, ◌<◌, length, slice_index_or}
use Rattle.luks1_header.specs.Header1.{entry, HoldsEntry}
use Rattle.luks1_header.specs.declared.luks1.Luks1Slot.{Luks1Slot}
use Rattle.luks1_header.proofs.luks1.slots_of.Given as goal

-- the keyslots before this one are read
abbrev pub invariant-loop-n : goal.invariant-loop-n
invariant-loop-n l = record {
  eight : length l.slots ≡ 8;
  each : (k : ℕ) (s : Luks1Slot) → k < l.n → HoldsEntry (entry l.bytes k) (slice_index_or l.slots k s);
}
