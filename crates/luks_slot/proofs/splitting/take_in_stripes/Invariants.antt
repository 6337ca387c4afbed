use Rattle.std.proofs.Common.{◌≡◌}
use Rattle.luks_kdf.specs.KeyslotNames.{keyslot_digest, keyslot_digest_size}
use Rattle.luks_kdf.specs.Splitter.{mixed}
use Rattle.luks_slot.proofs.splitting.take_in_stripes.Given as goal

-- the running block after the stripes so far
abbrev pub invariant-loop-i : goal.invariant-loop-i
invariant-loop-i l = record {
  block : l.block ≡ mixed (keyslot_digest l.hash) (keyslot_digest_size l.hash) l.len l.row l.i;
}
