use Rattle.std.proofs.Common.{◌≡◌, ℕ, List, length, false, Result, Ok, Err, IfErr, sym, ap, subst, ◌∙◌}
use Rattle.std.proofs.lemmas.Result.{err_from_is_err_and}
use Rattle.luks_reading.specs.declared.report.Data.TheVariants.{Elsewhere}
use Rattle.luks_keeping.specs.BackupFaults.{is_backup_failure}
use Rattle.luks_keeping.specs.declared.backup_fault.BackupFault.{BackupFault}
use Rattle.luks_keeping.specs.declared.backup_fault.BackupFault.TheVariants.{Memory, TooSmall}
use Rattle.luks_keeping.proofs.BackupFacts.{same_failure}
use Rattle.luks_wide_keeping.specs.Backup.{IsUnderwayUnmade}
use Rattle.luks_wide_keeping.proofs.CopyFacts.{fits, least_fault}
use Rattle.luks_wide_keeping.proofs.MadeFacts.{length_made, no_memory, unmade_checked, unmade_short}
use Rattle.luks_wide_keeping.proofs.backing_up.underway_length.Goals as goal

pub returns-in_err-judge_layout-clause-fault : goal.returns-in_err-judge_layout-clause-fault
returns-in_err-judge_layout-clause-fault g c = λ source.
    let v : List ℕ = g.S.Device.bytes c.args.source.now in
    let f = c.in_err-judge_layout.field-0.0 in
    let long : c.len.result ≡ length v = c.len.ensures ∙ sym (g.met.S.Device.sized c.args.source.now source) in
    let p = err_from_is_err_and c.from_residual.result c.from_residual.ensures.1 in
    rw (p.1, p.2)
    (unmade_checked v 18446744073709551615 f c.in_err-judge_layout.ensures.own
    (least_fault v c.args.copy.now (c.requires source) Elsewhere (length v) f
    (rw (sym long) c.in_err-judge_layout.ensures.refused)))

pub returns-in_err-judge_layout-clause-own : goal.returns-in_err-judge_layout-clause-own
returns-in_err-judge_layout-clause-own g c =
    let p = err_from_is_err_and c.from_residual.result c.from_residual.ensures.1 in
    rw (p.1, p.2) (same_failure c.in_err-judge_layout.field-0.0 ∙ c.in_err-judge_layout.ensures.own)

pub returns-clause-length : goal.returns-clause-length
returns-clause-length g c = λ source. c.fitting_size.ensures.size (g.S.Device.bytes c.args.source.now) (c.requires source)

both_err : {A : Type 0} {P Q R : BackupFault → Type 0} (r : Result A BackupFault) → ((f : BackupFault) → P f → Q f → R f) → IfErr r P → IfErr r Q → IfErr r R
both_err (Ok x) h p q = tt
both_err (Err f) h p q = h f p q

pub returns-clause-fault : goal.returns-clause-fault
returns-clause-fault g c = λ source.
    let v : List ℕ = g.S.Device.bytes c.args.source.now in
    let long : c.len.result ≡ length v = c.len.ensures ∙ sym (g.met.S.Device.sized c.args.source.now source) in
    both_err c.fitting_size.result (λ f short own. subst (IsUnderwayUnmade v 18446744073709551615) (sym own)
    (unmade_short v 18446744073709551615 (fits v c.args.copy.now (c.requires source) Elsewhere (length v) (rw (sym long) c.in_ok-judge_layout.ensures.fits)) short))
    (c.fitting_size.ensures.short v (c.requires source)) c.fitting_size.ensures.own

one_err : {A : Type 0} (r : Result A BackupFault) → IfErr r (λ f. f ≡ TooSmall) → IfErr r (λ f. is_backup_failure f ≡ false)
one_err (Ok x) own = tt
one_err (Err f) own = ap is_backup_failure own

pub returns-clause-own : goal.returns-clause-own
returns-clause-own g c = one_err c.fitting_size.result c.fitting_size.ensures.own

pub returns-clause-faultless : goal.returns-clause-faultless
returns-clause-faultless g c = λ source.
    let v : List ℕ = g.S.Device.bytes c.args.source.now in
    let long : c.len.result ≡ length v = c.len.ensures ∙ sym (g.met.S.Device.sized c.args.source.now source) in
    length_made v 18446744073709551615 (fits v c.args.copy.now (c.requires source) Elsewhere (length v) (rw (sym long) c.in_ok-judge_layout.ensures.fits)) c.fitting_size.result
    (c.fitting_size.ensures.size v (c.requires source)) c.fitting_size.ensures.within

pub returns-in_err-judge_layout-clause-no_memory : goal.returns-in_err-judge_layout-clause-no_memory
returns-in_err-judge_layout-clause-no_memory g c =
    let p = err_from_is_err_and c.from_residual.result c.from_residual.ensures.1 in
    rw (p.1, p.2) (no_memory c.in_err-judge_layout.field-0.0 c.in_err-judge_layout.ensures.no_memory)

none_memory : {A : Type 0} (r : Result A BackupFault) → IfErr r (λ f. f ≡ TooSmall) → IfErr r (λ f. f ≡ Memory → ⊥)
none_memory (Ok x) own = tt
none_memory (Err f) own = λ e. (let no : TooSmall ≡ Memory = sym own ∙ e in cc)

pub returns-clause-no_memory : goal.returns-clause-no_memory
returns-clause-no_memory g c = none_memory c.fitting_size.result c.fitting_size.ensures.own
