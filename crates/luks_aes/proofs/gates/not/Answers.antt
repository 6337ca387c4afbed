use Rattle.std.proofs.Common.{refl, ◌∙◌, ap}
use Rattle.std.specs.Prelude.{replicate}
use Rattle.std.specs.Int.Bits.{bit_xor}
use Rattle.luks_aes.specs.Planes.{bit_of}
use Rattle.luks_aes.proofs.GateFacts.{bit_of_xor, bit_of_ones, not_plane}
use Rattle.luks_aes.proofs.gates.not.Goals as goal

pub returns : goal.returns
returns c = record {
  plane = not_plane c.args.x c.fits-x;
  bits = λ k b h low. bit_of_xor c.args.x (replicate 16 255) c.fits-x.0 refl k b h ∙ ap (bit_xor (bit_of k b c.args.x)) (bit_of_ones k b h low);
}
