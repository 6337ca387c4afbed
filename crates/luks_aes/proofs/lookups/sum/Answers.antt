use Rattle.std.specs.Int.Bits.{bit_xor}
use Rattle.luks_aes.proofs.GateFacts.{lane_zip, xor_plane}
use Rattle.luks_aes.proofs.lookups.sum.Goals as goal

pub returns : goal.returns
returns c = record {
  plane = xor_plane c.args.x c.args.y c.fits-x c.fits-y;
  bytes = λ k h. lane_zip bit_xor c.args.x c.args.y c.fits-x.0 c.fits-y.0 k h;
}
