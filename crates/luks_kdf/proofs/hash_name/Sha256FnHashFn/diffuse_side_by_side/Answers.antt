use Rattle.std.proofs.Common.{◌≡◌, ◌+◌, ◌*◌, arith, refl}
use Rattle.sha2.specs.Sha256.{sha256}
use Rattle.sha2.proofs.Facts256.{length-sha256}
use Rattle.luks_kdf.specs.Splitter.{diffused_blocks}
use Rattle.luks_kdf.proofs.DiffuseFacts.{diffuse_pair}
use Rattle.luks_kdf.proofs.hash_name.Sha256FnHashFn.diffuse_side_by_side.Goals as goal

pub loop-i-init : goal.loop-i-init
unfolding diffused_blocks
loop-i-init c = refl

pub loop-i-preserved : goal.loop-i-preserved
loop-i-preserved c =
    let i = c.loop-i.i in
    let more : i * 2 + 2 ≡ (i + 1) * 2 = omega arith in
    rw more at (diffuse_pair sha256 32 length-sha256 c.args.bytes.now c.loop-i.bytes _ (i * 2) _ _ (omega arith) (omega arith)
    (omega arith) c.loop-i.invariant (omega arith) c.sha256_diffusion.ensures)
