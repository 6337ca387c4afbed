use Rattle.std.proofs.Common.{◌≡◌, ◌+◌, ◌*◌, take}
use Rattle.luks_argon2.specs.VariableHash.{halves, chain}
use Rattle.luks_argon2.proofs.variable_length.fill_long.Given as goal

abbrev pub invariant-halves : goal.invariant-halves
invariant-halves l =
    (l.turn ≡ chain l.fn.turn l.i)
    × (take (32 * (l.i + 1)) l.out ≡ halves l.fn.turn (l.i + 1))
