-- What was judged of the header that counts holds of the volume.
use Rattle.std.proofs.Common.{ℕ, List, IfOk, subst, sym, ◌∙◌}
use Rattle.std.proofs.lemmas.Result.{err_from_is_err_and}
use Rattle.luks_reading.specs.Header.{IsAcceptedHeader, IsHeader}
use Rattle.luks_reading.specs.Layout1.{Luks1Area}
use Rattle.luks_reading.specs.Listing.{Lists}
use Rattle.luks_reading.specs.Reported.{HeaderArea}
use Rattle.luks_reading.proofs.CheckFacts.{luks1_first}
use Rattle.luks_reading.proofs.WellFormedFacts.{luks1_areas_are}
use Rattle.luks_reading.proofs.checking.check_header.Goals as goal

pub judge_luks1-requires : goal.judge_luks1-requires
judge_luks1-requires c = rw c.as_slice.ensures (subst IsAcceptedHeader c.in-Luks1.is c.requires)

pub returns-in_err-areas-in-Luks1-clause-refused : goal.returns-in_err-areas-in-Luks1-clause-refused
returns-in_err-areas-in-Luks1-clause-refused c = λ v is long.
    let chosen = subst (IsHeader v) c.in-Luks1.is is in
    let p = err_from_is_err_and c.from_residual.result c.from_residual.ensures.1 in
    rw (p.1, p.2) (luks1_first v _ _ _ c.in_err-areas-in-Luks1.field-0.0 chosen.0 (c.as_slice.ensures ∙ chosen.1) long c.in_err-areas-in-Luks1.ensures.refused)

pub returns-in_ok-areas-in-Luks1-clause-report : goal.returns-in_ok-areas-in-Luks1-clause-report
returns-in_ok-areas-in-Luks1-clause-report c = λ v is long.
    let chosen = subst (IsHeader v) c.in-Luks1.is is in
    record {
      version = chosen.0;
      areas = luks1_areas_are v _ _ _ _ chosen.0 (c.as_slice.ensures ∙ chosen.1) long c.in_ok-areas-in-Luks1.ensures.areas;
    }

pub returns-in_ok-areas-in-Luks1-clause-listed : goal.returns-in_ok-areas-in-Luks1-clause-listed
returns-in_ok-areas-in-Luks1-clause-listed c =
    let areas = c.in_ok-areas-in-Luks1.areas in
    subst (λ h. Lists areas (HeaderArea h c.args.payload c.args.total)) (sym c.in-Luks1.is)
    (subst (λ (b : List ℕ). Lists areas (Luks1Area b c.args.payload c.args.total)) c.as_slice.ensures c.in_ok-areas-in-Luks1.ensures.areas)

pub returns-in-Luks2-clause-accepted : goal.returns-in-Luks2-clause-accepted
returns-in-Luks2-clause-accepted c = λ v is long. c.check_copy.ensures.accepted v (subst (IsHeader v) c.in-Luks2.is is) long

pub returns-in-Luks2-clause-listed : goal.returns-in-Luks2-clause-listed
returns-in-Luks2-clause-listed c =
    subst (λ h. IfOk c.check_copy.result (λ report. Lists report.areas (HeaderArea h c.args.payload c.args.total))) (sym c.in-Luks2.is) c.check_copy.ensures.listed

pub returns-in-Luks2-clause-report : goal.returns-in-Luks2-clause-report
returns-in-Luks2-clause-report c = λ v is long. c.check_copy.ensures.report v (subst (IsHeader v) c.in-Luks2.is is) long

pub returns-in-Luks2-clause-refused : goal.returns-in-Luks2-clause-refused
returns-in-Luks2-clause-refused c = λ v is long. c.check_copy.ensures.refused v (subst (IsHeader v) c.in-Luks2.is is) long
