use Rattle.luks_aes.proofs.GateFacts.{vector_plane}
use Rattle.luks_aes.proofs.BlockFacts.{carried_lane}
use Rattle.luks_aes.proofs.block.carried.Goals as goal

pub returns : goal.returns
returns c =
    let x = vector_plane c.args.x c.fits-x in
    record {
      given = x;
      bytes = λ k h. carried_lane c.args.x x k h;
    }
