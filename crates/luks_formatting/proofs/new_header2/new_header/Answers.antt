use Rattle.std.proofs.Common.{length, ap, ◌∙◌}
use Rattle.luks_formatting.proofs.GivenFacts.{length-uuid_of, uuid_fits}
use Rattle.luks_formatting.proofs.new_header2.new_header.Goals as goal

pub uuid_of-requires-clause-short : goal.uuid_of-requires-clause-short
uuid_of-requires-clause-short c = uuid_fits c.args.given.now c.requires.texts.uuid

pub uuid_field-requires : goal.uuid_field-requires
uuid_field-requires c = ap length (c.as_str.ensures.value ∙ c.uuid_of.ensures) ∙ length-uuid_of c.args.given.now c.args.random.now c.requires.texts.uuid
