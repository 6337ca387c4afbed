-- Each exit is the first refusal of its step, or what the plan is refused by.
use Rattle.std.proofs.Common.{subst, sym}
use Rattle.luks_area.specs.First.{IsLeast}
use Rattle.luks1_header.specs.Header1.{entry}
use Rattle.luks_reading.specs.Answer.{open_key, IsLuks1Refusal}
use Rattle.luks_reading.specs.Plans.{HasLuks1Plan}
use Rattle.luks_reading.proofs.Luks1Refusals.{common_refused, entry_first, plan_judged}
use Rattle.luks_reading.proofs.refusing.luks1_refusal.Goals as goal

pub returns-in-Err : goal.returns-in-Err
returns-in-Err c =
    subst (IsLeast open_key (IsLuks1Refusal c.args.older c.args.header.now c.args.total c.args.n)) (sym c.from.ensures)
    (common_refused c.args.older c.args.header.now c.args.total c.args.n c.in-Err.fault c.in-Err.ensures.fault)

pub returns-in-Ok-luks1_entry : goal.returns-in-Ok-luks1_entry
returns-in-Ok-luks1_entry c =
    let on = c.in-Ok-luks1_entry.ensures.found in
    let has : HasLuks1Plan c.args.header.now c.args.n c.luks1_plan.result =
    record { numbered = on.numbered; is = c.luks1_plan.ensures.is c.args.header.now (entry c.args.header.now c.args.n) c.in-Ok.ensures.found on.says } in
    plan_judged c.args.older c.args.header.now c.args.total c.args.n c.in-Ok-luks1_entry.slot c.luks1_plan.result c.plan_refusal.result
    c.in-Ok.ensures.faultless on has c.plan_refusal.ensures.refused c.plan_refusal.ensures.accepted

pub returns-in-Err-luks1_entry : goal.returns-in-Err-luks1_entry
returns-in-Err-luks1_entry c =
    entry_first c.args.older c.args.header.now c.args.total c.args.n c.in-Err-luks1_entry.fault c.in-Ok.ensures.faultless c.in-Err-luks1_entry.ensures.refused
