use Rattle.std.proofs.Common.{refl}
use Rattle.luks_kdf.specs.Xor.{xor_bytes}
use Rattle.luks_kdf.proofs.XorFacts.{xor_step}
use Rattle.luks_kdf.proofs.xor.xor_into.Goals as goal

pub loop-i-init : goal.loop-i-init
unfolding xor_bytes
loop-i-init c = (refl, refl)

pub loop-i-preserved : goal.loop-i-preserved
loop-i-preserved c =
    xor_step c.args.bytes.now c.loop-i.bytes c.args.mask.now c.loop-i.i c.requires
    c.loop-i.auto.bytes c.loop-i-test.true c.loop-i.invariant.0 c.loop-i.invariant.1
