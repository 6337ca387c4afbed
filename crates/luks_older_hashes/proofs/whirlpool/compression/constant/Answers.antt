use Rattle.std.proofs.Common.{◌≡◌, ◌+◌, ◌*◌, arith, refl}
use Rattle.luks_older_hashes.specs.Whirlpool.{constant}
use Rattle.luks_older_hashes.proofs.whirlpool.compression.constant.Goals as goal

pub returns : goal.returns
unfolding constant
returns c =
    let first : 8 * c.args.r + 0 ≡ 8 * c.args.r = omega arith in
    rw (
      first,
      c.sbox-s0.ensures,
      c.sbox-s1.ensures,
      c.sbox-s2.ensures,
      c.sbox-s3.ensures,
      c.sbox-s4.ensures,
      c.sbox-s5.ensures,
      c.sbox-s6.ensures,
      c.sbox-s7.ensures,
    ) refl
