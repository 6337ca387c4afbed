use Rattle.luks_searching.proofs.HeadedFacts.{unmade_gives}
use Rattle.luks_searching.proofs.trial1.given_digest.Goals as goal

pub returns-in-Err-clause-none : goal.returns-in-Err-clause-none
returns-in-Err-clause-none g c = λ tells.
    unmade_gives (g.D.Device.bytes c.args.source.now) c.args.sought.now.header.now c.args.sought.now.given.now c.args.sought.now.long
    c.args.n c.args.sought.now.passphrase.now c.in-Err.field-0 c.in-Err.ensures.fault.0
