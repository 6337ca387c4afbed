use Rattle.std.proofs.Common.{◌≡◌, length, rules}
use Rattle.luks_aes.proofs.NibbleFacts.{places_fit, looked_up}
use Rattle.luks_aes.proofs.lookups.at.Goals as goal

pub swizzle : goal.swizzle
swizzle c = places_fit c.args.places c.fits-places.0 c.requires

pub returns : goal.returns
returns c =
    let long : length c.args.table ≡ 16 = search rules in
    λ k h. looked_up c.args.table c.args.places long c.fits-places.0 c.requires k h
