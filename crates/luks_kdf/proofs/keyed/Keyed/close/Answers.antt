use Rattle.luks_kdf.specs.Derivation.{hmac}
use Rattle.luks_kdf.proofs.keyed.Keyed.close.Goals as goal

pub returns : goal.returns
unfolding hmac
returns g c key m inner outer =
    let first = c.finish.ensures _ inner in
    let second = c.finish-2.ensures _ (c.feed.ensures _ (c.fork-outer.ensures _ outer)) in
    rw first at second
