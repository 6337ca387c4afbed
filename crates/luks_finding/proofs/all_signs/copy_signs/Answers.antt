use Rattle.std.proofs.Common.{◌*◌}
use Rattle.luks_finding.proofs.AllSignsFacts.{signs-unnamed}
use Rattle.luks_finding.proofs.all_signs.copy_signs.Goals as goal

pub returns-in-None-clause-all : goal.returns-in-None-clause-all
returns-in-None-clause-all g c = λ t.
    signs-unnamed (g.D.Device.bytes c.args.device.now) (512 * c.args.sector) (c.requires.none t) (c.requires.no_text t)
    (rw c.in-None.is at c.in_ok-size.ensures.named t)
