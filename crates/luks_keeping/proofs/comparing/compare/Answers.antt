use Rattle.luks_keeping.proofs.SaltFacts.{is_compared}
use Rattle.luks_keeping.proofs.comparing.compare.Goals as goal

pub returns : goal.returns
returns c = λ b t x y.
    is_compared x.header y.header c.args.backup.now c.args.volume.now x.is y.is _ c.shares_digest.ensures c.compare_all.ensures b t x.is_header y.is_header
