use Rattle.luks_aes.proofs.GateFacts.{vector_plane}
use Rattle.luks_aes.proofs.PackingFacts.{spread_bits}
use Rattle.luks_aes.proofs.round_keys.spread.Goals as goal

pub returns-clause-bits : goal.returns-clause-bits
returns-clause-bits c = λ k b h low. spread_bits c.args.x (vector_plane c.args.x c.fits-x) c.args.i c.requires k b h low
