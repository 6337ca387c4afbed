-- Areas that fit make the volume well formed; else their first fault is the volume's.
use Rattle.std.proofs.lemmas.Result.{err_from_is_err_and}
use Rattle.luks_reading.proofs.Luks1FaultFacts.{least_area}
use Rattle.luks_reading.proofs.ListedAreaFacts.{fit_of, least_of, no_area_fault}
use Rattle.luks_reading.proofs.judging.judge_luks1.Goals as goal

pub returns-clause-accepted : goal.returns-clause-accepted
returns-clause-accepted c = record {
  header = (c.in_ok-read.read, c.in_ok-read.ensures.found);
  fit = fit_of _ _ _ (c.luks1_areas-areas.ensures _ c.in_ok-read.ensures.found) c.in_ok-fit.ensures.fits;
}

pub returns-in_err-fit-clause-refused : goal.returns-in_err-fit-clause-refused
returns-in_err-fit-clause-refused c =
    let p = err_from_is_err_and c.from_residual-in_err-fit.result c.from_residual-in_err-fit.ensures.1 in
    rw (p.1, p.2)
    (least_area _ _ _ _ c.in_ok-read.ensures.faultless
    (least_of _ _ _ _ (c.luks1_areas-areas.ensures _ c.in_ok-read.ensures.found) c.in_err-fit.ensures.fault))

pub returns-in_err-fit-clause-only : goal.returns-in_err-fit-clause-only
returns-in_err-fit-clause-only c = λ is.
    absurd (no_area_fault _ _ c.in_err-fit.field-0.0 is.fit
    (least_of _ _ _ _ (c.luks1_areas-areas.ensures _ c.in_ok-read.ensures.found) c.in_err-fit.ensures.fault).0)
