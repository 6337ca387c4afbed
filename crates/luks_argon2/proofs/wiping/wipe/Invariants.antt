use Rattle.std.proofs.Common.{◌≡◌, length, take, replicate}
use Rattle.luks_argon2.proofs.wiping.wipe.Given as goal

abbrev pub invariant-all : goal.invariant-all
invariant-all l =
    (length l.memory ≡ length l.initial.memory)
    × (take l.i l.memory ≡ replicate l.i (replicate 128 0))
