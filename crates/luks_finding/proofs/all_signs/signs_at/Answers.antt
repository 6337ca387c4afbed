use Rattle.luks_finding.proofs.AllSignsFacts.{signs-header}
use Rattle.luks_finding.proofs.all_signs.signs_at.Goals as goal

pub returns-then-branch-clause-all : goal.returns-then-branch-clause-all
returns-then-branch-clause-all g c = λ t.
    signs-header (g.D.Device.bytes c.args.device.now) c.args.sector ((c.in_ok-begins_volume.ensures.begins t).0 c.if-branch.true)
