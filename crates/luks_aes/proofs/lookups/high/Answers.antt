use Rattle.std.proofs.Common.{arith, inl}
use Rattle.luks_aes.proofs.GateFacts.{vector_plane}
use Rattle.luks_aes.proofs.NibbleFacts.{high_lane}
use Rattle.luks_aes.proofs.lookups.high.Goals as goal

pub returns : goal.returns
returns c =
    let x = vector_plane c.args.x c.fits-x in
    record {
      places = λ k h. inl (rw (high_lane c.args.x c.fits-x.0 k h) (omega (arith, x.bytes k h)));
      bytes = λ k h. high_lane c.args.x c.fits-x.0 k h;
    }
