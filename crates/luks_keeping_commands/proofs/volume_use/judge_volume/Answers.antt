use Rattle.luks_keeping_commands.proofs.RestoreFacts.{counts_late, use_barred, use_cleared}
use Rattle.luks_keeping_commands.proofs.volume_use.judge_volume.Goals as goal

pub returns-clause-count : goal.returns-clause-count
returns-clause-count g c = counts_late c.judge_use.result _ _ _ _ _ c.in_ok-judge_reencryption.ensures.count c.judge_use.ensures.count

pub returns-clause-barred : goal.returns-clause-barred
returns-clause-barred g c =
    use_barred g.D.Device.tells c.args.restoring.now (g.D.Device.bytes c.args.backup.now) (g.D.Device.bytes c.judge_reencryption.new.volume) (g.D.Device.bytes c.args.volume.now)
    c.judge_use.result c.in_ok-judge_reencryption.ensures.unchanged.same c.in_ok-judge_reencryption.ensures.clear c.judge_use.ensures.barred

pub returns-clause-clear : goal.returns-clause-clear
returns-clause-clear g c = λ tells.
    use_cleared c.args.restoring.now (g.D.Device.bytes c.args.backup.now) (g.D.Device.bytes c.judge_reencryption.new.volume) (g.D.Device.bytes c.args.volume.now)
    c.judge_use.result (c.in_ok-judge_reencryption.ensures.unchanged.same tells) (c.in_ok-judge_reencryption.ensures.clear tells) (c.judge_use.ensures.clear tells)
