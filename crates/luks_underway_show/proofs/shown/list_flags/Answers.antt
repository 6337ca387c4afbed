use Rattle.std.proofs.Output.{has_written_of_eq}
use Rattle.luks_underway_show.proofs.ItemFacts.{flags_there}
use Rattle.luks_underway_show.proofs.shown.list_flags.Goals as goal

pub returns : goal.returns
returns g c plain ok = has_written_of_eq _ _ _ _ _ (flags_there c.args.items.now c.if-is_empty.ensures) (c.write.ensures.writes plain ok)
