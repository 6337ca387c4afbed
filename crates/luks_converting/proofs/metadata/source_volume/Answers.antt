use Rattle.std.proofs.Common.{◌*◌, ap, refl}
use Rattle.luks_converting.proofs.MemberFacts.{volume_is}
use Rattle.luks_converting.proofs.metadata.source_volume.Goals as goal

pub returns : goal.returns
returns c = λ h is text.
    volume_is h c.args.header.now _ _ _ _ _ _ _ _ is c.as_str.ensures.value text refl refl refl refl (ap (λ x. x * 512) c.from.ensures) (c.enabled_slots.ensures h is)
