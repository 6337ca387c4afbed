use Rattle.luks_aes.proofs.SboxFacts.{power_at}
use Rattle.luks_aes.proofs.tables.power_of_2.Goals as goal

pub returns : goal.returns
returns c = power_at c.args.n c.requires
