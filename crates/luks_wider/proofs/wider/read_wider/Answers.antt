use Rattle.std.proofs.Common.{ap}
use Rattle.std.proofs.lemmas.Result.{err_from_is_err_and}
use Rattle.luks_meta.specs.Content.{content}
use Rattle.luks_rules.proofs.AreaFaults.{one_value}
use Rattle.luks_wider.specs.Underways.{content as underway_content}
use Rattle.luks_wider.specs.declared.fault.WideFault.TheVariants.{Meta}
use Rattle.luks_wider.proofs.UnderWayFaults.{is_memory, other_fault}
use Rattle.luks_wider.proofs.WiderFacts.{is_under, least_narrow, least_under, narrow_faultless, none_of_accepted, under_faultless, wide_narrow, wide_under, wide_value}
use Rattle.luks_wider.proofs.wider.read_wider.Goals as goal

pub returns-in_err-read-clause-narrow : goal.returns-in_err-read-clause-narrow
returns-in_err-read-clause-narrow c = λ j m. absurd (none_of_accepted c.args.area.now j m (c.in_ok-has_under_way.ensures.is c.if-branch.true))

pub returns-in_err-read-clause-accepted : goal.returns-in_err-read-clause-accepted
returns-in_err-read-clause-accepted c = λ j w.
    let p = err_from_is_err_and c.from_residual-in_err-read.result c.from_residual-in_err-read.ensures.1 in
    rw (p.1, p.2) (c.in_err-read.ensures.only j (wide_under c.args.area.now j (c.in_ok-has_under_way.ensures.is c.if-branch.true) w))

pub returns-in_err-read-clause-fault : goal.returns-in_err-read-clause-fault
returns-in_err-read-clause-fault c =
    let p = err_from_is_err_and c.from_residual-in_err-read.result c.from_residual-in_err-read.ensures.1 in
    rw (p.1, p.2) (λ off. least_under c.args.area.now c.in_err-read.field-0.0 (c.in_ok-has_under_way.ensures.is c.if-branch.true) (c.in_err-read.ensures.fault off))

pub returns-in_err-read-2-clause-narrow : goal.returns-in_err-read-2-clause-narrow
returns-in_err-read-2-clause-narrow c = λ j m.
    let p = err_from_is_err_and c.from_residual-in_err-read-2.result c.from_residual-in_err-read-2.ensures.1 in
    rw (p.1, p.2) (ap Meta (c.in_err-read-2.ensures.only j m))

pub returns-in_err-read-2-clause-accepted : goal.returns-in_err-read-2-clause-accepted
returns-in_err-read-2-clause-accepted c = λ j w.
    let p = err_from_is_err_and c.from_residual-in_err-read-2.result c.from_residual-in_err-read-2.ensures.1 in
    rw (p.1, p.2) (ap Meta (c.in_err-read-2.ensures.only j (wide_narrow c.args.area.now j (c.in_ok-has_under_way.ensures.other c.if-branch.false) w)))

pub returns-in_err-read-2-clause-fault : goal.returns-in_err-read-2-clause-fault
returns-in_err-read-2-clause-fault c =
    let p = err_from_is_err_and c.from_residual-in_err-read-2.result c.from_residual-in_err-read-2.ensures.1 in
    rw (p.1, p.2) (λ off. least_narrow c.args.area.now c.in_err-read-2.field-0.0 (c.in_ok-has_under_way.ensures.other c.if-branch.false)
    (c.in_err-read-2.ensures.fault (other_fault c.in_err-read-2.field-0.0 off)))

pub returns-in_err-read-2-clause-memory : goal.returns-in_err-read-2-clause-memory
returns-in_err-read-2-clause-memory c =
    let p = err_from_is_err_and c.from_residual-in_err-read-2.result c.from_residual-in_err-read-2.ensures.1 in
    rw (p.1, p.2) (λ e. c.in_err-read-2.ensures.memory (is_memory c.in_err-read-2.field-0.0 e))

pub returns-in_ok-read-clause-found : goal.returns-in_ok-read-clause-found
returns-in_ok-read-clause-found c = (
  c.in_ok-read.ensures.found.json,
  record {
    under_way = is_under c.args.area.now (underway_content c.in_ok-read.field-0) (c.in_ok-has_under_way.ensures.is c.if-branch.true) c.in_ok-read.ensures.found.json;
    rules = c.in_ok-read.ensures.found.rules;
    consistent = c.in_ok-read.ensures.found.consistent;
  },
)

pub returns-in_ok-read-clause-narrow : goal.returns-in_ok-read-clause-narrow
returns-in_ok-read-clause-narrow c = λ j m. none_of_accepted c.args.area.now j m (c.in_ok-has_under_way.ensures.is c.if-branch.true)

pub returns-in_ok-read-clause-accepted : goal.returns-in_ok-read-clause-accepted
returns-in_ok-read-clause-accepted c = λ j w. wide_value c.args.area.now (underway_content c.in_ok-read.field-0) j c.in_ok-read.ensures.found.json w

pub returns-in_ok-read-clause-faultless : goal.returns-in_ok-read-clause-faultless
returns-in_ok-read-clause-faultless c = under_faultless c.args.area.now (c.in_ok-has_under_way.ensures.is c.if-branch.true) c.in_ok-read.ensures.faultless

pub returns-in_ok-read-2-clause-narrow : goal.returns-in_ok-read-2-clause-narrow
returns-in_ok-read-2-clause-narrow c = λ j m. one_value c.args.area.now (content c.in_ok-read-2.field-0) j c.in_ok-read-2.ensures.found.json m.json

pub returns-in_ok-read-2-clause-accepted : goal.returns-in_ok-read-2-clause-accepted
returns-in_ok-read-2-clause-accepted c = λ j w. wide_value c.args.area.now (content c.in_ok-read-2.field-0) j c.in_ok-read-2.ensures.found.json w

pub returns-in_ok-read-2-clause-faultless : goal.returns-in_ok-read-2-clause-faultless
returns-in_ok-read-2-clause-faultless c = narrow_faultless c.args.area.now (c.in_ok-has_under_way.ensures.other c.if-branch.false) c.in_ok-read-2.ensures.faultless
