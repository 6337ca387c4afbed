use Rattle.luks_searching.proofs.HeadedFacts.{unmade_headed}
use Rattle.luks_searching.proofs.trial1.distance.Goals as goal

pub returns-in-Err-clause-opens : goal.returns-in-Err-clause-opens
returns-in-Err-clause-opens g c = λ tells. (
  (λ e. absurd (cc)),
  (λ x. absurd (unmade_headed (g.D.Device.bytes c.args.source.now) c.args.sought.now.header.now c.args.sought.now.given.now c.args.sought.now.long
      c.args.n c.args.sought.now.passphrase.now x c.in-Err.field-0 c.in-Err.ensures.fault.0)),
)
