-- Each exit is the first refusal of its step, or the answer of the keyslot's plan.
use Rattle.std.proofs.Common.{◌∙◌, refl}
use Rattle.std.proofs.lemmas.Result.{err_from_is_err_and, IfOk-weaker}
use Rattle.luks1_header.specs.Header1.{entry}
use Rattle.luks_reading.specs.Plans.{HasLuks1Plan}
use Rattle.luks_reading.proofs.OptionFacts.{some_weaker}
use Rattle.luks_reading.proofs.Luks1Refusals.{entry_first, plan_first, plan_opens}
use Rattle.luks_reading.proofs.OpenFaults.{both_errs, own_of}
use Rattle.luks_reading.proofs.opening.open_luks1_slot.Goals as goal

pub returns-in_err-slot-clause-refused : goal.returns-in_err-slot-clause-refused
returns-in_err-slot-clause-refused g c =
    let p = err_from_is_err_and c.from_residual.result c.from_residual.ensures.1 in
    rw (p.1, p.2)
    (λ own. entry_first c.args.older c.args.header.now (g.D.Device.size c.args.device.now) c.args.n c.in_err-slot.field-0.0
    c.requires.faultless c.in_err-slot.ensures.refused)

pub open_planned-requires-clause-judged : goal.open_planned-requires-clause-judged
open_planned-requires-clause-judged g c =
    let on = c.in_ok-slot.ensures.found in
    c.luks1_plan-plan.ensures.judged c.args.header.now (entry c.args.header.now c.args.n) c.requires.common on.says on.enabled

pub returns-clause-opens : goal.returns-clause-opens
returns-clause-opens g c = λ tells.
    let on = c.in_ok-slot.ensures.found in
    let has : HasLuks1Plan c.args.header.now c.args.n c.luks1_plan-plan.result =
    record { numbered = on.numbered; is = c.luks1_plan-plan.ensures.is c.args.header.now (entry c.args.header.now c.args.n) c.requires.common on.says } in
    IfOk-weaker c.open_planned.result _ _ (λ found opens.
    plan_opens c.args.older c.args.header.now (g.D.Device.bytes c.args.device.now) c.args.n c.in_ok-slot.slot c.luks1_plan-plan.result
    c.args.passphrase.now found c.requires.faultless on has opens)
    (c.open_planned.ensures.opens tells)

pub returns-clause-refused : goal.returns-clause-refused
returns-clause-refused g c =
    let on = c.in_ok-slot.ensures.found in
    let has : HasLuks1Plan c.args.header.now c.args.n c.luks1_plan-plan.result =
    record { numbered = on.numbered; is = c.luks1_plan-plan.ensures.is c.args.header.now (entry c.args.header.now c.args.n) c.requires.common on.says } in
    both_errs c.open_planned.result _ _ _ (λ fault refused no_memory own.
    plan_first c.args.older c.args.header.now (g.D.Device.size c.args.device.now) c.args.n c.in_ok-slot.slot c.luks1_plan-plan.result
    fault c.requires.faultless on has (refused.0 (own_of fault own no_memory)))
    c.open_planned.ensures.refused (c.open_planned.ensures.no_memory refl)

pub returns-clause-length : goal.returns-clause-length
returns-clause-length g c =
    let on = c.in_ok-slot.ensures.found in
    let is = c.luks1_plan-plan.ensures.is c.args.header.now (entry c.args.header.now c.args.n) c.requires.common on.says in
    IfOk-weaker c.open_planned.result _ _ (λ found. some_weaker found _ _ (λ key len. len ∙ is.key_bytes)) c.open_planned.ensures.length
