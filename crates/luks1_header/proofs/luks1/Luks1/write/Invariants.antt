use Rattle.std.proofs.Common.{◌≡◌, ◌<◌, ℕ, length, slice_index_or}
use Rattle.luks1_header.specs.Header1.{entry, luks1_size}
use Rattle.luks1_header.specs.Written.{WritesCommon, WritesEntry}
use Rattle.luks1_header.specs.declared.luks1.Luks1Slot.{Luks1Slot}
use Rattle.luks1_header.proofs.luks1.Luks1.write.Given as goal

-- the fields before the keyslots stand, and so do the keyslots before this one
abbrev pub invariant-loop-n : goal.invariant-loop-n
invariant-loop-n l = record {
  long : length l.bytes ≡ luks1_size;
  common : WritesCommon l.bytes l.fn.self.common;
  slots : (k : ℕ) (s : Luks1Slot) → k < l.n → WritesEntry (entry l.bytes k) (slice_index_or l.fn.self.slots k s);
}
