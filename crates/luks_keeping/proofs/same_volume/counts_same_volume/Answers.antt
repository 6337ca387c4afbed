use Rattle.std.proofs.Common.{ℕ, List, subst}
use Rattle.luks_keeping.specs.OtherHeaders.{IsOtherAnswer}
use Rattle.luks_keeping.specs.RestoreFaults.{ReadsTarget}
use Rattle.luks_keeping.specs.SameVolume.{IsOtherVolume}
use Rattle.luks_keeping.specs.declared.over.Over.TheVariants.{SameVolume}
use Rattle.luks_keeping.specs.declared.restore_fault.RestoreFault.{RestoreFault}
use Rattle.luks_keeping.proofs.SameFacts.{none_same, other_counts}
use Rattle.luks_keeping.proofs.CompareFacts.{identified}
use Rattle.luks_keeping.proofs.same_volume.counts_same_volume.Goals as goal

pub returns-then-not-branch-clause-counts : goal.returns-then-not-branch-clause-counts
returns-then-not-branch-clause-counts g c = λ tells b x.
    none_same b (g.T.Device.bytes c.args.device.now) c.in_ok-has_header.field-0 c.if-not-branch.true (c.in_ok-has_header.ensures.has tells)

pub returns-in-Memory-clause-fault : goal.returns-in-Memory-clause-fault
returns-in-Memory-clause-fault g c = λ tells b x.
    subst (λ (t : List ℕ). ReadsTarget b t SameVolume) (c.in_ok-has_header.ensures.unchanged.same tells)
    (subst (λ (f : RestoreFault). IsOtherAnswer b (g.T.Device.bytes c.has_header.new.device) SameVolume f) c.in-Memory.is (c.in-Err.ensures.refused tells b (identified b c.args.backup.now x)))

pub returns-in-OtherVolume-clause-counts : goal.returns-in-OtherVolume-clause-counts
returns-in-OtherVolume-clause-counts g c = λ tells b x.
    other_counts b (g.T.Device.bytes c.args.device.now)
    (subst (λ (t : List ℕ). IsOtherVolume b t) (c.in_ok-has_header.ensures.unchanged.same tells)
    (subst (λ (f : RestoreFault). IsOtherAnswer b (g.T.Device.bytes c.has_header.new.device) SameVolume f) c.in-OtherVolume.is (c.in-Err.ensures.refused tells b (identified b c.args.backup.now x))))

pub returns-in-NotAccepted-clause-counts : goal.returns-in-NotAccepted-clause-counts
returns-in-NotAccepted-clause-counts g c = λ tells b x.
    absurd (subst (λ (f : RestoreFault). IsOtherAnswer b (g.T.Device.bytes c.has_header.new.device) SameVolume f) c.in-NotAccepted.is (c.in-Err.ensures.refused tells b (identified b c.args.backup.now x)))

pub returns-in-DoesNotFit-clause-counts : goal.returns-in-DoesNotFit-clause-counts
returns-in-DoesNotFit-clause-counts g c = λ tells b x.
    absurd (subst (λ (f : RestoreFault). IsOtherAnswer b (g.T.Device.bytes c.has_header.new.device) SameVolume f) c.in-DoesNotFit.is (c.in-Err.ensures.refused tells b (identified b c.args.backup.now x)))
