use Rattle.std.proofs.Common.{refl, zero-mul}
use Rattle.luks_kdf.specs.Splitter.{diffused_blocks}
use Rattle.luks_kdf.proofs.hash.HashFn.diffuse_side_by_side.Goals as goal

pub returns : goal.returns
unfolding diffused_blocks
returns g c = rw zero-mul refl
