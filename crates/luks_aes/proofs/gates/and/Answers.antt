use Rattle.luks_aes.proofs.GateFacts.{bit_of_and, and_plane}
use Rattle.luks_aes.proofs.gates.and.Goals as goal

pub returns : goal.returns
returns c = record {
  plane = and_plane c.args.x c.args.y c.fits-x c.fits-y;
  bits = λ k b h. bit_of_and c.args.x c.args.y c.fits-x.0 c.fits-y.0 k b h;
}
