use Rattle.std.proofs.Common.{length}
use Rattle.std.proofs.lemmas.Result.{err_from_is_err_and}
use Rattle.serde_json.specs.View.{view}
use Rattle.luks_wider.proofs.WideAccepting.{rules_of}
use Rattle.luks_wider.proofs.WideAreaFaults.{json_least, memory_where, text_there, value_least, value_none}
use Rattle.luks_wider.proofs.content.read_members.Goals as goal

pub returns-in_err-value-clause-fault : goal.returns-in_err-value-clause-fault
returns-in_err-value-clause-fault c =
    let p = err_from_is_err_and c.from_residual.result c.from_residual.ensures.1 in
    rw (p.1, p.2) (json_least c.args.area.now c.in_err-value.field-0.0 c.in_err-value.ensures.fault)

pub returns-in_err-value-clause-only : goal.returns-in_err-value-clause-only
returns-in_err-value-clause-only c = λ j m.
    let p = err_from_is_err_and c.from_residual.result c.from_residual.ensures.1 in
    rw (p.1, p.2) (memory_where c.args.area.now _ (json_least c.args.area.now c.in_err-value.field-0.0 c.in_err-value.ensures.fault) j m)

pub returns-in_err-value-clause-memory : goal.returns-in_err-value-clause-memory
returns-in_err-value-clause-memory c =
    let p = err_from_is_err_and c.from_residual.result c.from_residual.ensures.1 in
    rw (p.1, p.2) (text_there c.args.area.now c.in_err-value.field-0.0 c.in_err-value.ensures.fault)

pub returns-in_err-judge_members-clause-fault : goal.returns-in_err-judge_members-clause-fault
returns-in_err-judge_members-clause-fault c =
    let p = err_from_is_err_and c.from_residual-in_err-judge_members.result c.from_residual-in_err-judge_members.ensures.1 in
    rw (p.1, p.2) (λ _. value_least c.args.area.now (view c.in_ok-value.value) c.in_err-judge_members.field-0.0 c.in_ok-value.ensures.json c.in_err-judge_members.ensures.least)

pub returns-in_err-judge_members-clause-only : goal.returns-in_err-judge_members-clause-only
returns-in_err-judge_members-clause-only c = λ j m.
    let p = err_from_is_err_and c.from_residual-in_err-judge_members.result c.from_residual-in_err-judge_members.ensures.1 in
    rw (p.1, p.2) (memory_where c.args.area.now c.in_err-judge_members.field-0.0 (λ _. value_least c.args.area.now (view c.in_ok-value.value) c.in_err-judge_members.field-0.0 c.in_ok-value.ensures.json c.in_err-judge_members.ensures.least) j m)

pub returns-clause-found : goal.returns-clause-found
returns-clause-found c =
    record { json = c.in_ok-value.ensures.json; rules = rules_of (length c.args.area.now) (view c.in_ok-value.value) c.in_ok-judge_members.ensures.clean }

pub returns-clause-held : goal.returns-clause-held
returns-clause-held c = record { nests = c.in_ok-value.ensures.nests; faultless = c.in_ok-judge_members.ensures.clean }

pub returns-clause-faultless : goal.returns-clause-faultless
returns-clause-faultless c =
    value_none c.args.area.now (view c.in_ok-value.value) c.in_ok-value.ensures.json c.in_ok-judge_members.ensures.none
