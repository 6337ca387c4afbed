use Rattle.std.proofs.Common.{◌≡◌, take, drop}
use Rattle.luks_kdf.specs.Xor.{xor_bytes}
use Rattle.luks_kdf.proofs.xor.xor_into.Given as goal

-- the bytes so far are xored, and those after them are as before
abbrev pub invariant-loop-i : goal.invariant-loop-i
invariant-loop-i l =
    (take l.i l.bytes ≡ xor_bytes (take l.i l.initial.bytes) (take l.i l.mask))
    × (drop l.i l.bytes ≡ drop l.i l.initial.bytes)
