use Rattle.luks_wide_keeping.proofs.LayoutFacts.{known_size}
use Rattle.luks_wide_keeping.proofs.size.whole_size.Goals as goal

pub returns : goal.returns
returns c = known_size c.args.copy.now c.config-config.result c.both_and_region.result c.config-config.ensures c.both_and_region.ensures.some c.both_and_region.ensures.none
