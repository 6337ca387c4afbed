use Rattle.luks_making.specs.Formatted.{volume_members}
use Rattle.luks_making.proofs.NewVolumeFacts.{held_made}
use Rattle.luks_new_meta.proofs.metadata.formatted.Goals as goal

pub of_value-requires : goal.of_value-requires
of_value-requires c =
    rw c.in_ok-value.ensures (held_made (volume_members c.args.volume.now) c.volume_fits.ensures c.requires)
