use Rattle.std.proofs.Common.{append_assoc}
use Rattle.luks_kdf.specs.Derivation.{first_turn}
use Rattle.luks_kdf.proofs.keyed.Keyed.tag_numbered.Goals as goal

pub returns : goal.returns
unfolding first_turn
returns g c key held =
    let fed = c.feed-2.ensures _ (c.feed.ensures _ (c.fork-inner.ensures _ held.0)) in
    let whole = rw (append_assoc, c.to_be_bytes.ensures) at fed in
    c.close.ensures key _ whole held.1
