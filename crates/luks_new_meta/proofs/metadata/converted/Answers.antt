use Rattle.luks_making.specs.Converted.{source_members}
use Rattle.luks_making.proofs.ConversionFacts.{held_converted}
use Rattle.luks_new_meta.proofs.metadata.converted.Goals as goal

pub of_value-requires : goal.of_value-requires
of_value-requires c =
    rw c.in_ok-value.ensures (held_converted (source_members c.args.volume.now) c.source_fits.ensures c.requires)
