use Rattle.luks_finding.proofs.ToldFacts.{told-header}
use Rattle.luks_finding.proofs.telling.told_at.Goals as goal

pub returns-then-branch-clause-told : goal.returns-then-branch-clause-told
returns-then-branch-clause-told g c = λ t.
    told-header (g.D.Device.bytes c.args.device.now) c.args.sector ((c.in_ok-begins_volume.ensures.begins t).0 c.if-branch.true)
