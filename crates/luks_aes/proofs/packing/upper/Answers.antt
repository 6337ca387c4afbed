use Rattle.std.proofs.Common.{arith, ◌-◌, ◌∙◌}
use Rattle.std.specs.Simd.Lanes.{zip2}
use Rattle.std.specs.Prelude.{replicate}
use Rattle.std.proofs.lemmas.Simd.{length-zip2}
use Rattle.luks_aes.proofs.GateFacts.{vector_plane}
use Rattle.luks_aes.proofs.PackingFacts.{upper_bits, parts_plane, down}
use Rattle.luks_aes.proofs.packing.upper.Goals as goal

pub returns : goal.returns
returns c =
    let a = vector_plane c.args.a c.fits-a in
    let b = vector_plane c.args.b c.fits-b in
    record {
      given = (a, b);
      plane = parts_plane (zip2 down c.args.a (replicate 16 c.args.n)) c.args.b c.args.mask (255 - c.args.mask) c.ranges.mask.fits (omega arith) (length-zip2 down c.args.a (replicate 16 c.args.n) c.fits-a.0 ∙ c.fits-a.0) c.fits-b.0;
      bits = λ k i h low. upper_bits c.args.a c.args.b a b c.args.n c.args.mask c.requires.step k i h low;
    }
