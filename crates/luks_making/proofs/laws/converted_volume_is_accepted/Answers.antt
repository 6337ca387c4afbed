use Rattle.luks_making.proofs.ConversionFacts.{held_converted, says_source}
use Rattle.luks_making.proofs.ConvertedTextFacts.{text_short}
use Rattle.luks_making.proofs.laws.converted_volume_is_accepted.Goals as goal

pub returns-clause-held : goal.returns-clause-held
returns-clause-held c = held_converted

pub returns-clause-says : goal.returns-clause-says
returns-clause-says c = says_source

pub returns-clause-short : goal.returns-clause-short
returns-clause-short c = text_short
