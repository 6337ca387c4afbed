use Rattle.std.proofs.Common.{rules, ◌∙◌, subst}
use Rattle.luks_slot.specs.Distance.{IsTriedAt}
use Rattle.luks_slot.specs.Opening.{area_bytes}
use Rattle.luks_slot.proofs.OpeningFacts.{distance_read, opens_read}
use Rattle.luks_slot.proofs.opening.try_within.Goals as goal

pub returns-clause-value : goal.returns-clause-value
returns-clause-value g c tells =
    let plan = c.args.plan.now in
    let v = g.D.Device.bytes c.args.device.now in
    c.tested.ensures.value
    ∙ opens_read plan (area_bytes v plan.area) c.args.passphrase.now c.candidate_within.new.out (c.in_ok-hash.ensures.value tells)

pub returns-clause-distance : goal.returns-clause-distance
returns-clause-distance g c tells =
    let plan = c.args.plan.now in
    let v = g.D.Device.bytes c.args.device.now in
    subst (λ n. IsTriedAt n c.tested.result)
    (distance_read plan (area_bytes v plan.area) c.args.passphrase.now c.candidate_within.new.out (c.in_ok-hash.ensures.value tells))
    c.tested.ensures.distance
