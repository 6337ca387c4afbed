use Rattle.std.proofs.Output.{has_written_of_eq}
use Rattle.std.specs.Fmt.{decimal}
use Rattle.luks_show.specs.Texts.{escaped}
use Rattle.luks_show.proofs.AllFacts.{joined_encryption}
use Rattle.luks_show.proofs.costs.EncryptionLineDisplay.fmt.Goals as goal

pub returns-clause-writes : goal.returns-clause-writes
returns-clause-writes g c plain ok =
    let encryption = c.args.self.now.1 in
    has_written_of_eq _ _ _ _ _
    (rw c.as_bytes.ensures.value (joined_encryption (decimal c.args.self.now.0) (escaped encryption.cipher.now) (decimal encryption.sector_size) (decimal encryption.iv_tweak)))
    (c.writeln.ensures.writes plain ok)
