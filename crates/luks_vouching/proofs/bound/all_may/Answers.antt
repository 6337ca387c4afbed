use Rattle.std.proofs.Common.{◌≡◌, ℕ, ◌+◌, ◌*◌, ◌^◌, ◌≤◌, refl, arith}
use Rattle.std.proofs.lemmas.Bool.{false≢true}
use Rattle.std.proofs.Math.Nat.{mul-le-mul}
use Rattle.std.proofs.Math.Pow.{pow_mono}
use Rattle.luks_vouching.proofs.bound.all_may.Goals as goal

-- from 32 sectors on there are too many
too_many : (most d len : ℕ) → most ≤ 2 ^ 40 → 32 ≤ d → 512 * d ≤ len → (2 + 2 ^ d) * len ≤ most → ⊥
too_many most d len bound many long le =
    let more : 4294967296 ≤ 2 ^ d = pow_mono {i = 32} {j = d} many in
    let large : 16384 ≤ len = omega (arith, many, long) in
    let cut : 4294967296 ≤ 2 + 2 ^ d = omega (arith, more) in
    let all : 4294967296 * 16384 ≤ (2 + 2 ^ d) * len = mul-le-mul cut large in
    let ever : 2 ^ 40 ≡ 1099511627776 = refl in
    absurd (omega (arith, all, le, bound, ever))

pub returns-else-differing-lt32 : goal.returns-else-differing-lt32
returns-else-differing-lt32 c = (λ is. absurd (false≢true is), λ le. absurd (too_many c.args.most c.args.differing c.args.len c.requires.most (omega arith) c.requires.inside le))
