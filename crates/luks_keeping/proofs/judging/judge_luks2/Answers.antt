-- Areas that fit make the copy well formed; else their first fault is the copy's.
use Rattle.std.proofs.Common.{rules, sym, subst}
use Rattle.std.proofs.lemmas.Result.{err_from_is_err_and}
use Rattle.luks_area.specs.Area.{Fit}
use Rattle.luks_rules.proofs.AreaFaults.{one_value}
use Rattle.luks_meta.specs.Content.{content}
use Rattle.luks_reading.specs.Checked.{IsLuks2Layout}
use Rattle.luks_reading.specs.Layout2.{Luks2Area}
use Rattle.luks_reading.proofs.Luks2FaultFacts.{least_area2, least_segment, lists_value, segment_breaks}
use Rattle.luks_reading.proofs.ListedAreaFacts.{fit_of, least_of, no_area_fault}
use Rattle.luks_keeping.proofs.judging.judge_luks2.Goals as goal

pub returns-in-Some-clause-refused : goal.returns-in-Some-clause-refused
returns-in-Some-clause-refused c = λ b json bin holds faultless.
    least_segment b json c.args.payload c.args.total (content c.args.meta.now) c.in-Some.n faultless holds.accepted.json
    (c.in-Some.ensures.some json holds)

pub returns-clause-fits : goal.returns-clause-fits
returns-clause-fits c = fit_of _ _ _ c.luks2_areas-areas.ensures c.in_ok-fit.ensures.fits

pub returns-clause-accepted : goal.returns-clause-accepted
returns-clause-accepted c = λ b json bin holds. record {
  metadata = holds.accepted;
  segments = λ here. c.segment_below.ensures.none json holds (search rules) here;
  fit = subst (λ h. Fit (Luks2Area (content c.args.meta.now) h c.args.payload c.args.total) c.args.total) (sym bin.hdr_size)
      (fit_of _ _ _ c.luks2_areas-areas.ensures c.in_ok-fit.ensures.fits);
}

pub returns-in_err-fit-clause-refused : goal.returns-in_err-fit-clause-refused
returns-in_err-fit-clause-refused c = λ b json bin holds faultless.
    let p = err_from_is_err_and c.from_residual.result c.from_residual.ensures.1 in
    rw (p.1, p.2)
    (least_area2 b json c.args.payload c.args.total (content c.args.meta.now) c.in_err-fit.field-0.0 faultless holds.accepted.json
    (λ here. c.segment_below.ensures.none json holds (search rules) here)
    (least_of _ _ _ _ (lists_value b json _ _ _ _ _ bin.hdr_size holds.accepted.json c.luks2_areas-areas.ensures) c.in_err-fit.ensures.fault))

pub returns-in-Some-clause-only : goal.returns-in-Some-clause-only
returns-in-Some-clause-only c = λ b json j bin holds layout.
    let first = c.in-Some.ensures.some json holds in
    let own = subst (IsLuks2Layout b json c.args.payload c.args.total) (one_value json j _ layout.metadata.json holds.accepted.json) layout in
    absurd (segment_breaks _ _ c.in-Some.n first.numbered first.below (own.segments first.here))

pub returns-in_err-fit-clause-only : goal.returns-in_err-fit-clause-only
returns-in_err-fit-clause-only c = λ b json j bin holds layout.
    let own = subst (IsLuks2Layout b json c.args.payload c.args.total) (one_value json j _ layout.metadata.json holds.accepted.json) layout in
    let fit = subst (λ h. Fit (Luks2Area (content c.args.meta.now) h c.args.payload c.args.total) c.args.total) bin.hdr_size own.fit in
    absurd (no_area_fault _ _ c.in_err-fit.field-0.0 fit (least_of _ _ _ _ c.luks2_areas-areas.ensures c.in_err-fit.ensures.fault).0)
