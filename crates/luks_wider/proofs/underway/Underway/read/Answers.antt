use Rattle.std.proofs.Common.{ap, length, refl}
use Rattle.std.proofs.lemmas.Result.{err_from_is_err_and}
use Rattle.serde_json.specs.View.{view}
use Rattle.luks_wider.specs.declared.fault.WideFault.TheVariants.{Meta}
use Rattle.luks_wider.proofs.UnderWayFaults.{accepted_nowhere, consistent_in, contradiction_least, is_memory, meta_least, named_of, none_found, not_memory}
use Rattle.luks_wider.proofs.underway.Underway.read.Goals as goal

pub contradiction_path-requires : goal.contradiction_path-requires
contradiction_path-requires c = named_of (view c.in_ok-value.value) c.in-Some.place c.in-Some.ensures.least.0

pub returns-in_err-value-clause-fault : goal.returns-in_err-value-clause-fault
returns-in_err-value-clause-fault c =
    let p = err_from_is_err_and c.from_residual.result c.from_residual.ensures.1 in
    rw (p.1, p.2) (meta_least c.args.area.now c.in_err-value.field-0.0 c.in_err-value.ensures.fault)

pub returns-in_err-value-clause-only : goal.returns-in_err-value-clause-only
returns-in_err-value-clause-only c = λ j m.
    let p = err_from_is_err_and c.from_residual.result c.from_residual.ensures.1 in
    rw (p.1, p.2) (ap Meta (c.in_err-value.ensures.only j (record { json = m.json; rules = m.rules })))

pub returns-in_err-value-clause-memory : goal.returns-in_err-value-clause-memory
returns-in_err-value-clause-memory c =
    let p = err_from_is_err_and c.from_residual.result c.from_residual.ensures.1 in
    rw (p.1, p.2) (λ e. c.in_err-value.ensures.memory (is_memory c.in_err-value.field-0.0 e))

pub returns-in-Some-clause-fault : goal.returns-in-Some-clause-fault
returns-in-Some-clause-fault c = λ off.
    contradiction_least c.args.area.now (view c.in_ok-value.value) c.in_ok-value.ensures.found.json c.in_ok-value.ensures.faultless
    c.in-Some.place c.contradiction_path.result c.in-Some.ensures.least c.contradiction_path.ensures

pub returns-in-Some-clause-only : goal.returns-in-Some-clause-only
returns-in-Some-clause-only c = λ j m.
    absurd (accepted_nowhere c.args.area.now (view c.in_ok-value.value) j c.in_ok-value.ensures.found.json m c.in-Some.place c.in-Some.ensures.least.0)

pub returns-in-Some-clause-memory : goal.returns-in-Some-clause-memory
returns-in-Some-clause-memory c = λ e. absurd (not_memory c.contradiction_path.result e)

pub returns-in-None-clause-found : goal.returns-in-None-clause-found
returns-in-None-clause-found c = record {
  json = c.in_ok-value.ensures.found.json;
  rules = c.in_ok-value.ensures.found.rules;
  consistent = consistent_in (length c.args.area.now) (view c.in_ok-value.value) c.in_ok-value.ensures.found.rules (c.in-None.ensures.none refl);
}

pub returns-in-None-clause-faultless : goal.returns-in-None-clause-faultless
returns-in-None-clause-faultless c =
    none_found c.args.area.now (view c.in_ok-value.value) c.in_ok-value.ensures.found.json c.in_ok-value.ensures.faultless (c.in-None.ensures.none refl)
