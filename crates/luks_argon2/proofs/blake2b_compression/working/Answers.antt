use Rattle.std.proofs.Common.{◌≡◌, ℕ, ◌-◌, ◌^◌, ◌/◌, ◌%◌, refl, arith, bit_and}
use Rattle.std.specs.Prelude.{if◌then◌else◌}
use Rattle.std.proofs.lemmas.Nat.{and_mask}
use Rattle.luks_argon2.specs.Blake2b.{working}
use Rattle.luks_argon2.proofs.blake2b_compression.working.Goals as goal
use Rattle.luks_argon2.proofs.blake2b_compression.working.Goals.{then-last, else-last}

pub returns : goal.returns
unfolding working
returns c =
    let t : ℕ = c.args.total in
    let low : bit_and t 0xFFFFFFFFFFFFFFFF ≡ t % 2 ^ 64 = and_mask t 64 in
    let bound = c.ranges.total.fits in
    let high : t / 2 ^ 64 % 2 ^ 64 ≡ t / 2 ^ 64 = omega (arith, bound) in
    let flag : c.if-last.flag ≡ (if c.args.last then 2 ^ 64 - 1 else 0) =
    elim c.if-last.branch [ then-last w ↦ rw (w.flag-is, w.if-last.true) refl | else-last w ↦ rw (w.flag-is, w.if-last.false) refl ] in
    rw (low, flag, high) refl
