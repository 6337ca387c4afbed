use Rattle.std.proofs.Common.{◌≡◌, ℕ, ◌+◌, ◌*◌, ◌^◌, ◌/◌, ◌<◌, ◌≤◌, length, refl, arith}
use Rattle.std.proofs.Math.Nat.{mul-le-mul}
use Rattle.std.proofs.Math.Pow.{pow_mono}
use Rattle.luks_vouching.specs.Composed.{differing}
use Rattle.luks_vouching.specs.Pieces.{pieces}
use Rattle.luks_vouching.proofs.BoundFacts.{before_le}
use Rattle.luks_vouching.proofs.piecing.may_try_pieces.Goals as goal

-- of more pieces than are kept not all compositions may be hashed
too_many : (most m n len : ℕ) → most ≤ 2 ^ 40 → 32 < n → 512 ≤ len → most < (2 + m + 2 ^ n) * len
too_many most m n len bound many large =
    let more : 4294967296 ≤ 2 ^ n = pow_mono {i = 32} {j = n} (omega (arith, many)) in
    let all : 4294967296 ≤ 2 + m + 2 ^ n = omega (arith, more) in
    let bytes : 4294967296 * 512 ≤ (2 + m + 2 ^ n) * len = mul-le-mul all large in
    let ever : 2 ^ 40 ≡ 1099511627776 = refl in
    omega (arith, bytes, bound, ever)

pub returns-in_err-found-clause-none : goal.returns-in_err-found-clause-none
returns-in_err-found-clause-none c = λ is.
    too_many c.args.most (2 ^ differing c.args.first.now c.args.second.now) (length (pieces c.args.first.now c.args.second.now)) (length c.args.first.now)
    c.requires.most (c.in_err-found.ensures.none refl) (c.in_err-found.ensures.some_area refl)

pub pieces_may-requires-clause-inside : goal.pieces_may-requires-clause-inside
pieces_may-requires-clause-inside c =
    let le = before_le c.args.first.now c.args.second.now (length c.args.first.now / 512) in
    let is = c.differing.ensures in
    omega (arith, le, is)
