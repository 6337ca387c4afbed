use Rattle.std.specs.Int.Bits.{mask_lt}
use Rattle.luks_argon2.proofs.SigmaFacts.{sigma_at}
use Rattle.luks_argon2.proofs.blake2b_compression.sigma.Goals as goal

pub returns : goal.returns
returns c = record { value = sigma_at c.args.i c.requires; small = mask_lt _ 4 }
