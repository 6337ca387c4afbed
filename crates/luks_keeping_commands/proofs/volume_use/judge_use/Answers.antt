use Rattle.std.proofs.Common.{Some}
use Rattle.luks_signatures.specs.Signatures.{table}
use Rattle.luks_signatures.proofs.FirstFacts.{finds-one}
use Rattle.luks_keeping_commands.proofs.volume_use.judge_use.Goals as goal

pub returns-in_default-clause-clear : goal.returns-in_default-clause-clear
returns-in_default-clause-clear g c = λ tells over formed apart found stands.
    absurd (c.in_default.not-Some found (finds-one table (g.D.Device.bytes c.args.volume.now) c.in_ok-found.field-0 (Some found) (c.in_ok-found.ensures.found tells) stands))
