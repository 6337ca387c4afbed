use Rattle.luks_kdf.specs.Splitter.{diffused}
use Rattle.luks_kdf.proofs.diffuse.diffuse_block.Goals as goal

pub returns : goal.returns
unfolding diffused
returns g c =
    let held = c.feed-2.ensures _ (c.feed.ensures _ c.start-state.ensures) in
    let digest = c.finish.ensures _ (rw c.to_be_bytes.ensures at held) in
    rw digest at c.copy_from_slice.ensures.after
