use Rattle.std.proofs.Common.{arith, inl}
use Rattle.luks_aes.proofs.GateFacts.{vector_plane}
use Rattle.luks_aes.proofs.NibbleFacts.{low_lane}
use Rattle.luks_aes.proofs.lookups.low.Goals as goal

pub returns : goal.returns
returns c = record {
  given = vector_plane c.args.x c.fits-x;
  places = λ k h. inl (rw (low_lane c.args.x c.fits-x.0 k h) (omega arith));
  bytes = λ k h. low_lane c.args.x c.fits-x.0 k h;
}
