use Rattle.std.proofs.Common.{refl, arith}
use Rattle.luks2_judging.proofs.needing.sealed_need.Goals as goal

pub returns-in-Digest : goal.returns-in-Digest
returns-in-Digest c = λ there.
    let bytes = c.from-in-Digest.ensures in
    rw c.in-Digest.is (record { key_bytes = c.in-Digest.key_bytes; stripes = 4000; slot = (refl, refl); count = omega (arith, bytes) })
