use Rattle.std.proofs.Common.{◌≡◌, ℕ, ◌+◌, ◌-◌, ◌/◌, length, refl, arith}
use Rattle.luks_argon2.specs.VariableHash.{chain, half_count}
use Rattle.luks_argon2.proofs.VariableHashFacts.{chain_next, halves_first, halves_more, long_done}
use Rattle.luks_argon2.proofs.variable_length.fill_long.Goals as goal

pub halves-init : goal.halves-init
unfolding chain
halves-init c = (refl, halves_first c.args.turn.now c.put_first.new.out c.put_first.ensures)

pub halves-preserved : goal.halves-preserved
halves-preserved c =
    let first = c.args.turn.now in
    let at = chain_next first c.halves.turn c.rehash.new.turn c.halves.i c.halves.invariant.0 c.rehash.ensures in (
      at,
      halves_more first c.halves.out c.put_half.new.half c.rehash.new.turn (c.halves.i + 1) _ c.halves.invariant.1 (omega arith) at (omega arith) c.put_half.ensures,
    )

pub returns : goal.returns
returns c =
    let n : ℕ = length c.args.out.now in
    let long : length c.halves.out ≡ n = omega arith in
    let r : (n - 1) / 32 - 1 ≡ half_count n = omega arith in
    let i : c.halves.i + 1 ≡ (n - 1) / 32 - 1 = omega (arith, c.halves.auto.i-end) in
    long_done c.args.turn.now c.halves.out c.halves.turn c.hash_turn.new.out n ((n - 1) / 32 - 1) c.halves.i _ long c.requires.long r i
    c.halves.invariant.1 c.halves.invariant.0 (omega arith) c.hash_turn.ensures
