use Rattle.std.proofs.Common.{◌≡◌, map, bit_xor, take}
use Rattle.luks_kdf.proofs.keyed.padded_start.Given as goal

-- the bytes so far are xored
abbrev pub invariant-loop-i : goal.invariant-loop-i
invariant-loop-i g l = take l.i l.padded ≡ map (bit_xor l.pad) (take l.i l.block)
