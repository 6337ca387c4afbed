use Rattle.std.proofs.Common.{refl, Result, Ok, Err, IfErr}
use Rattle.luks_commands.proofs.FileFacts.{settled_kept}
use Rattle.luks_commands.proofs.FormatFacts.{format_holds}
use Rattle.luks_header_commands.proofs.TargetFacts.{header_holds}
use Rattle.luks_header_commands.proofs.TryingFacts.{rebuild_holds}
use Rattle.luks_keeping_commands.proofs.RestoreFacts.{restore_holds}
use Rattle.luks_execution.proofs.execution.execute.Goals as goal

-- both hold where the volume isn't there
both : {T F : Type 0} (P Q : Type 0) (volume : Result T F) → IfErr volume (λ _. P) → Q → IfErr volume (λ _. P × Q)
both P Q (Ok d) first second = tt
both P Q (Err f) first second = (first, second)

pub returns-in-Open-clause-executes : goal.returns-in-Open-clause-executes
returns-in-Open-clause-executes g c = rw c.in-Open.is (record { kept = c.run-in-Open.ensures.answers })

pub returns-in-Match-clause-executes : goal.returns-in-Match-clause-executes
returns-in-Match-clause-executes g c = rw c.in-Match.is (record { kept = c.run-in-Match.ensures.answers })

pub returns-in-Match-clause-settled : goal.returns-in-Match-clause-settled
returns-in-Match-clause-settled g c = rw c.in-Match.is (settled_kept g.D.Device.tells g.D.Device.size g.D.Device.failed g.D.Device.bytes g.D.Device.unsettled _ _
    c.requires.settled c.run-in-Match.ensures.unchanged)

pub returns-in-Format-clause-executes : goal.returns-in-Format-clause-executes
returns-in-Format-clause-executes g c = rw c.in-Format.is (record {
  kept = record {
    left = c.run-in-Format.ensures.left;
    answers = c.run-in-Format.ensures.answers;
    over = format_holds g.D.Device.tells g.D.Device.size g.D.Device.bytes g.D.Device.failed c.in-Format.making _ _ _ _ _ _ _ c.run-in-Format.result
        c.run-in-Format.ensures.answers;
  };
})

pub returns-in-Convert-clause-executes : goal.returns-in-Convert-clause-executes
returns-in-Convert-clause-executes g c = rw c.in-Convert.is (record {
  kept = record {
    same = c.run-in-Convert.ensures.same;
    answers = c.run-in-Convert.ensures.answers;
    over = λ two. header_holds g.D.Device.tells g.D.Device.size g.D.Device.bytes g.D.Device.failed c.in-Convert.converting.over _ _ _ _ _ _ _ c.run-in-Convert.result
        (c.run-in-Convert.ensures.answers two);
    rest = c.run-in-Convert.ensures.rest;
    settled = c.run-in-Convert.ensures.settled;
  };
})

pub returns-in-Rebuild-clause-executes : goal.returns-in-Rebuild-clause-executes
returns-in-Rebuild-clause-executes g c = rw c.in-Rebuild.is (record {
  kept = record {
    same = c.run-in-Rebuild.ensures.same;
    answers = c.run-in-Rebuild.ensures.answers;
    over = λ two. rebuild_holds c.in-Rebuild.rebuilding.passphrase g.D.Device.tells g.D.Device.size g.D.Device.bytes g.D.Device.failed c.in-Rebuild.rebuilding
        _ _ _ _ _ _ _ _ _ c.run-in-Rebuild.result (c.run-in-Rebuild.ensures.answers two);
    rest = c.run-in-Rebuild.ensures.rest;
    settled = c.run-in-Rebuild.ensures.settled;
  };
})

pub returns-in-Backup-clause-executes : goal.returns-in-Backup-clause-executes
returns-in-Backup-clause-executes g c = rw c.in-Backup.is (record {
  kept = record {
    same = c.run-in-Backup.ensures.same;
    answers = c.run-in-Backup.ensures.answers;
    rest = c.run-in-Backup.ensures.rest;
    settled = c.run-in-Backup.ensures.settled;
  };
})

pub returns-in-Restore-clause-executes : goal.returns-in-Restore-clause-executes
returns-in-Restore-clause-executes g c = rw c.in-Restore.is (record {
  kept = record {
    same = c.run-in-Restore.ensures.same;
    answers = c.run-in-Restore.ensures.answers;
    over = λ two. restore_holds g.D.Device.tells g.D.Device.size g.D.Device.bytes g.D.Device.failed c.in-Restore.restoring _ _ _ _ c.run-in-Restore.result
        (c.run-in-Restore.ensures.answers two);
    rest = c.run-in-Restore.ensures.rest;
    kept = c.run-in-Restore.ensures.unchanged;
    settled = c.run-in-Restore.ensures.settled;
  };
})

pub returns-in-Compare-clause-executes : goal.returns-in-Compare-clause-executes
returns-in-Compare-clause-executes g c = rw c.in-Compare.is (record {
  kept = record {
    same = c.run-in-Compare.ensures.same;
    answers = c.run-in-Compare.ensures.answers;
    kept = c.run-in-Compare.ensures.kept;
  };
})

pub returns-in-Show-clause-settled : goal.returns-in-Show-clause-settled
returns-in-Show-clause-settled g c = rw c.in-Show.is (settled_kept g.D.Device.tells g.D.Device.size g.D.Device.failed g.D.Device.bytes g.D.Device.unsettled _ _
    c.requires.settled c.run-in-Show.ensures.unchanged)

pub returns-in-Convert-clause-settled : goal.returns-in-Convert-clause-settled
returns-in-Convert-clause-settled g c = rw c.in-Convert.is (settled_kept g.D.Device.tells g.D.Device.size g.D.Device.failed g.D.Device.bytes g.D.Device.unsettled _ _
    c.requires.settled c.run-in-Convert.ensures.unchanged)

pub returns-in-Rebuild-clause-settled : goal.returns-in-Rebuild-clause-settled
returns-in-Rebuild-clause-settled g c = rw c.in-Rebuild.is (settled_kept g.D.Device.tells g.D.Device.size g.D.Device.failed g.D.Device.bytes g.D.Device.unsettled _ _
    c.requires.settled c.run-in-Rebuild.ensures.unchanged)

pub returns-in-Backup-clause-settled : goal.returns-in-Backup-clause-settled
returns-in-Backup-clause-settled g c = rw c.in-Backup.is (settled_kept g.D.Device.tells g.D.Device.size g.D.Device.failed g.D.Device.bytes g.D.Device.unsettled _ _
    c.requires.settled c.run-in-Backup.ensures.unchanged)

pub returns-in-Compare-clause-settled : goal.returns-in-Compare-clause-settled
returns-in-Compare-clause-settled g c = rw c.in-Compare.is (settled_kept g.D.Device.tells g.D.Device.size g.D.Device.failed g.D.Device.bytes g.D.Device.unsettled _ _
    c.requires.settled c.run-in-Compare.ensures.unchanged)

pub returns-in-Check-clause-executes : goal.returns-in-Check-clause-executes
returns-in-Check-clause-executes g c = rw c.in-Check.is (record { kept = record { ends = c.run.ensures.ends; answers = c.run.ensures.answers } })

pub returns-in-Show-clause-executes : goal.returns-in-Show-clause-executes
returns-in-Show-clause-executes g c = rw c.in-Show.is (record { kept = c.run-in-Show.ensures.answers })

pub returns-in-Edit-clause-executes : goal.returns-in-Edit-clause-executes
returns-in-Edit-clause-executes g c = rw c.in-Edit.is (record {
  kept = record {
    left = c.run-in-Edit.ensures.left;
    keeps = c.run-in-Edit.ensures.keeps;
    failure = c.run-in-Edit.ensures.failure;
    spared = c.run-in-Edit.ensures.spared;
    answers = c.run-in-Edit.ensures.answers;
    over = c.run-in-Edit.ensures.over;
  };
})

pub returns-in-KeepKey-clause-executes : goal.returns-in-KeepKey-clause-executes
returns-in-KeepKey-clause-executes g c = rw c.in-KeepKey.is (record {
  kept = record {
    same = c.run-in-KeepKey.ensures.same;
    exists = c.run-in-KeepKey.ensures.exists;
    answers = c.run-in-KeepKey.ensures.answers;
  };
})

pub returns-in-KeepKey-clause-settled : goal.returns-in-KeepKey-clause-settled
returns-in-KeepKey-clause-settled g c = rw c.in-KeepKey.is (settled_kept g.D.Device.tells g.D.Device.size g.D.Device.failed g.D.Device.bytes g.D.Device.unsettled _ _
    c.requires.settled c.run-in-KeepKey.ensures.unchanged)

pub returns-in-KeepToken-clause-executes : goal.returns-in-KeepToken-clause-executes
returns-in-KeepToken-clause-executes g c = rw c.in-KeepToken.is (record {
  kept = record {
    same = c.run-in-KeepToken.ensures.same;
    exists = λ two there. c.run-in-KeepToken.ensures.exists two there;
    answers = λ two free. c.run-in-KeepToken.ensures.answers two free;
  };
})

pub returns-in-KeepToken-clause-settled : goal.returns-in-KeepToken-clause-settled
returns-in-KeepToken-clause-settled g c = rw c.in-KeepToken.is (settled_kept g.D.Device.tells g.D.Device.size g.D.Device.failed g.D.Device.bytes g.D.Device.unsettled _ _
    c.requires.settled c.run-in-KeepToken.ensures.unchanged)

pub returns-in-Show-clause-unchanged : goal.returns-in-Show-clause-unchanged
returns-in-Show-clause-unchanged g c = rw c.in-Show.is c.run-in-Show.ensures.unchanged

pub returns-in-Open-clause-unchanged : goal.returns-in-Open-clause-unchanged
returns-in-Open-clause-unchanged g c = rw c.in-Open.is c.run-in-Open.ensures.unchanged

pub returns-in-Backup-clause-unchanged : goal.returns-in-Backup-clause-unchanged
returns-in-Backup-clause-unchanged g c = rw c.in-Backup.is c.run-in-Backup.ensures.unchanged

pub returns-in-Compare-clause-unchanged : goal.returns-in-Compare-clause-unchanged
returns-in-Compare-clause-unchanged g c = rw c.in-Compare.is c.run-in-Compare.ensures.unchanged

pub returns-in-KeepKey-clause-unchanged : goal.returns-in-KeepKey-clause-unchanged
returns-in-KeepKey-clause-unchanged g c = rw c.in-KeepKey.is c.run-in-KeepKey.ensures.unchanged

pub returns-in-KeepToken-clause-unchanged : goal.returns-in-KeepToken-clause-unchanged
returns-in-KeepToken-clause-unchanged g c = rw c.in-KeepToken.is c.run-in-KeepToken.ensures.unchanged

pub returns-in-Restore-clause-unchanged : goal.returns-in-Restore-clause-unchanged
returns-in-Restore-clause-unchanged g c = rw c.in-Restore.is tt

pub returns-in-Restore-clause-settled : goal.returns-in-Restore-clause-settled
returns-in-Restore-clause-settled g c = rw c.in-Restore.is tt

pub returns-in-Show-clause-target : goal.returns-in-Show-clause-target
returns-in-Show-clause-target g c = rw c.in-Show.is refl

pub returns-in-Open-clause-target : goal.returns-in-Open-clause-target
returns-in-Open-clause-target g c = rw c.in-Open.is c.run-in-Open.ensures.target

pub returns-in-Backup-clause-target : goal.returns-in-Backup-clause-target
returns-in-Backup-clause-target g c = rw c.in-Backup.is tt

pub returns-in-Restore-clause-target : goal.returns-in-Restore-clause-target
returns-in-Restore-clause-target g c = rw c.in-Restore.is tt

pub returns-in-Compare-clause-target : goal.returns-in-Compare-clause-target
returns-in-Compare-clause-target g c = rw c.in-Compare.is tt

pub returns-in-KeepKey-clause-target : goal.returns-in-KeepKey-clause-target
returns-in-KeepKey-clause-target g c = rw c.in-KeepKey.is tt

pub returns-in-KeepToken-clause-target : goal.returns-in-KeepToken-clause-target
returns-in-KeepToken-clause-target g c = rw c.in-KeepToken.is tt

pub returns-in-Show-clause-unread : goal.returns-in-Show-clause-unread
returns-in-Show-clause-unread g c = both _ _ c.args.inputs.now.volume c.run-in-Show.ensures.unread c.run-in-Show.ensures.kinds

pub returns-in-Open-clause-unread : goal.returns-in-Open-clause-unread
returns-in-Open-clause-unread g c = both _ _ c.args.inputs.now.volume c.run-in-Open.ensures.unread c.run-in-Open.ensures.kinds

pub returns-in-Backup-clause-unread : goal.returns-in-Backup-clause-unread
returns-in-Backup-clause-unread g c = both _ _ c.args.inputs.now.volume c.run-in-Backup.ensures.unread c.run-in-Backup.ensures.kinds

pub returns-in-Restore-clause-unread : goal.returns-in-Restore-clause-unread
returns-in-Restore-clause-unread g c = both _ _ c.args.inputs.now.volume c.run-in-Restore.ensures.unread c.run-in-Restore.ensures.kinds

pub returns-in-Compare-clause-unread : goal.returns-in-Compare-clause-unread
returns-in-Compare-clause-unread g c = both _ _ c.args.inputs.now.volume c.run-in-Compare.ensures.unread c.run-in-Compare.ensures.kinds

pub returns-in-KeepKey-clause-unread : goal.returns-in-KeepKey-clause-unread
returns-in-KeepKey-clause-unread g c = both _ _ c.args.inputs.now.volume c.run-in-KeepKey.ensures.unread c.run-in-KeepKey.ensures.kinds

pub returns-in-KeepToken-clause-unread : goal.returns-in-KeepToken-clause-unread
returns-in-KeepToken-clause-unread g c = both _ _ c.args.inputs.now.volume c.run-in-KeepToken.ensures.unread c.run-in-KeepToken.ensures.kinds

pub returns-in-Open-clause-settled : goal.returns-in-Open-clause-settled
returns-in-Open-clause-settled g c = rw c.in-Open.is (settled_kept g.D.Device.tells g.D.Device.size g.D.Device.failed g.D.Device.bytes g.D.Device.unsettled _ _
    c.requires.settled c.run-in-Open.ensures.unchanged)
