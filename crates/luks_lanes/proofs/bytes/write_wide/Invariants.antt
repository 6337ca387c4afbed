use Rattle.std.proofs.Common.{◌≡◌, ◌*◌, take}
use Rattle.sha2.specs.Sha512.{digest_bytes}
use Rattle.luks_lanes.proofs.bytes.write_wide.Given as goal

-- the words so far are written
abbrev pub invariant-loop-i : goal.invariant-loop-i
invariant-loop-i l = take (8 * l.i) l.bytes ≡ digest_bytes l.words l.i
