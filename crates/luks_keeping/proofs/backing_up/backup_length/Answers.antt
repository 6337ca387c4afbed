use Rattle.std.proofs.Common.{◌≡◌, ℕ, List, Result, Ok, Err, IfErr, OnOk, sym, ap, subst, ◌∙◌}
use Rattle.std.proofs.lemmas.Result.{err_from_is_err_and}
use Rattle.luks_area.specs.Device.{count_after, CountsFailure}
use Rattle.luks_keeping.specs.BackupFaults.{is_backup_failure, IsAnsweredBackup}
use Rattle.luks_keeping.specs.declared.backup_fault.BackupFault.{BackupFault}
use Rattle.luks_keeping.specs.declared.backup_fault.BackupFault.TheVariants.{TooSmall}
use Rattle.luks_keeping.proofs.BackupFacts.{answered_refusal, answered_short, same_failure}
use Rattle.luks_keeping.proofs.backing_up.backup_length.Goals as goal

pub returns-in_err-header-clause-count : goal.returns-in_err-header-clause-count
returns-in_err-header-clause-count g c =
    let p = err_from_is_err_and c.from_residual.result c.from_residual.ensures.1 in
    rw (p.1, p.2) (c.in_err-header.ensures.count ∙ ap (λ b. count_after b (g.S.Device.failed c.args.source.now)) (sym (same_failure c.in_err-header.field-0.0)))

pub returns-in_err-header-clause-fault : goal.returns-in_err-header-clause-fault
returns-in_err-header-clause-fault g c = λ source.
    let p = err_from_is_err_and c.from_residual.result c.from_residual.ensures.1 in
    rw (p.1, p.2) (answered_refusal (g.S.Device.bytes c.args.source.now) c.args.payload 18446744073709551615 c.in_err-header.field-0.0 (c.in_err-header.ensures.refused source))

none_failed : {A : Type 0} (r : Result A BackupFault) (s t : ℕ) → t ≡ s → IfErr r (λ f. f ≡ TooSmall) → CountsFailure is_backup_failure r s t
none_failed (Ok x) s t same own = same
none_failed (Err f) s t same own = same ∙ ap (λ b. count_after b s) (sym (ap is_backup_failure own))

pub returns-clause-count : goal.returns-clause-count
returns-clause-count g c = none_failed c.fitting_size.result _ _ c.in_ok-header.ensures.count c.fitting_size.ensures.own

both_err : {A : Type 0} {P Q R : BackupFault → Type 0} (r : Result A BackupFault) → ((f : BackupFault) → P f → Q f → R f) → IfErr r P → IfErr r Q → IfErr r R
both_err (Ok x) h p q = tt
both_err (Err f) h p q = h f p q

pub returns-clause-fault : goal.returns-clause-fault
returns-clause-fault g c = λ source.
    let v : List ℕ = g.S.Device.bytes c.args.source.now in
    both_err c.fitting_size.result (λ f short own. subst (IsAnsweredBackup v c.args.payload 18446744073709551615) (sym own)
    (answered_short v c.args.payload 18446744073709551615 (c.in_ok-header.ensures.formed source) short))
    (c.fitting_size.ensures.short v (c.in_ok-header.ensures.read source)) c.fitting_size.ensures.own

any_ok : {A F : Type 0} {P : Type 0} (r : Result A F) → P → OnOk r P
any_ok (Ok x) p = p
any_ok (Err f) p = tt

pub returns-clause-well_formed : goal.returns-clause-well_formed
returns-clause-well_formed g c = λ source. any_ok c.fitting_size.result (c.in_ok-header.ensures.formed source)
