use Rattle.std.proofs.Common.{◌*◌}
use Rattle.luks_finding.proofs.ToldFacts.{told-none}
use Rattle.luks_finding.proofs.telling.told_by_copy.Goals as goal

pub returns-in-None-clause-told : goal.returns-in-None-clause-told
returns-in-None-clause-told g c = λ t.
    told-none (g.D.Device.bytes c.args.device.now) (512 * c.args.sector) (c.requires.none t) (c.requires.no_text t)
    (rw c.in-None.is at c.in_ok-size.ensures.named t)
