use Rattle.std.proofs.Common.{◌≡◌, map, bit_xor, take}
use Rattle.luks_lanes.proofs.bytes.xor_with.Given as goal

-- the bytes so far are xored
abbrev pub invariant-loop-i : goal.invariant-loop-i
invariant-loop-i l = take l.i l.out ≡ map (bit_xor l.pad) (take l.i l.bytes)
