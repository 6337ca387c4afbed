-- The plan of the keyslot is judged, and its answer is that of the keyslot.
use Rattle.std.proofs.Common.{◌<◌, Some, ap, sym, ◌∙◌, arith}
use Rattle.std.proofs.lemmas.Result.{IfErr-weaker, IfOk-weaker}
use Rattle.luks_rules.proofs.AreaFaults.{one_value}
use Rattle.luks_meta.specs.Content.{content}
use Rattle.luks_reading.specs.Plans.{HasLuks2Plan}
use Rattle.luks_reading.proofs.OptionFacts.{some_weaker}
use Rattle.luks_reading.proofs.Luks2PlanNumbers.{luks2_judged}
use Rattle.luks_reading.proofs.Luks2Plans.{IsOnly}
use Rattle.luks_reading.proofs.Luks2Refusals.{plan_opens2, plan_refused2}
use Rattle.luks_reading.proofs.opening.open_luks2.Goals as goal

pub open_planned-requires-clause-judged : goal.open_planned-requires-clause-judged
open_planned-requires-clause-judged g c =
    let slot = c.in-Some.ensures.some in
    let naming = rw c.unwrap-number.ensures at c.digest_of_keyslot.ensures.some in
    let digest = rw c.unwrap-digest.ensures at c.digest.ensures.some in
    let low : c.args.n < 32 = omega arith in
    luks2_judged c.requires.accepted.len c.args.n (content c.args.meta.now) slot.object c.luks2_plan-plan.result c.requires.accepted.content low slot.is
    (c.luks2_plan-plan.ensures (content c.args.meta.now) c.args.n c.unwrap-number.result slot.object digest.object slot.tells_members naming digest.is digest.tells_members)

pub returns-clause-opens : goal.returns-clause-opens
returns-clause-opens g c = λ tells b json clear.
    let slot = c.in-Some.ensures.some in
    let naming = rw c.unwrap-number.ensures at c.digest_of_keyslot.ensures.some in
    let digest = rw c.unwrap-digest.ensures at c.digest.ensures.some in
    let low : c.args.n < 32 = omega arith in
    let only : IsOnly json (content c.args.meta.now) c.args.n = record {
      value = λ i holds. one_value json (content c.args.meta.now) i clear.meta.json holds;
      digest = λ m k x y. let p = c.digest_of_keyslot.ensures.only m x in let q = c.digest_of_keyslot.ensures.only k y in cc (p, q);
    } in
    let plan = c.luks2_plan-plan.ensures (content c.args.meta.now) c.args.n c.unwrap-number.result slot.object digest.object slot.tells_members naming digest.is digest.tells_members in
    let has : HasLuks2Plan json c.args.n c.luks2_plan-plan.result =
    record { numbered = low; value = content c.args.meta.now; holds = clear.meta.json; object = slot.object; there = slot.is; is = plan } in
    IfOk-weaker c.open_planned.result _ _ (λ found opens.
    plan_opens2 c.args.allowed b json (g.D.Device.bytes c.args.device.now) c.args.n (content c.args.meta.now) c.luks2_plan-plan.result c.args.passphrase.now found
    clear only has opens)
    (c.open_planned.ensures.opens tells)

pub returns-clause-refused : goal.returns-clause-refused
returns-clause-refused g c = λ b json clear.
    let slot = c.in-Some.ensures.some in
    let naming = rw c.unwrap-number.ensures at c.digest_of_keyslot.ensures.some in
    let digest = rw c.unwrap-digest.ensures at c.digest.ensures.some in
    let low : c.args.n < 32 = omega arith in
    let only : IsOnly json (content c.args.meta.now) c.args.n = record {
      value = λ i holds. one_value json (content c.args.meta.now) i clear.meta.json holds;
      digest = λ m k x y. let p = c.digest_of_keyslot.ensures.only m x in let q = c.digest_of_keyslot.ensures.only k y in cc (p, q);
    } in
    let plan = c.luks2_plan-plan.ensures (content c.args.meta.now) c.args.n c.unwrap-number.result slot.object digest.object slot.tells_members naming digest.is digest.tells_members in
    let has : HasLuks2Plan json c.args.n c.luks2_plan-plan.result =
    record { numbered = low; value = content c.args.meta.now; holds = clear.meta.json; object = slot.object; there = slot.is; is = plan } in
    IfErr-weaker c.open_planned.result _ _ (λ fault refused.
    plan_refused2 c.args.allowed b json (g.D.Device.size c.args.device.now) c.args.n (content c.args.meta.now) c.luks2_plan-plan.result fault clear only has refused)
    c.open_planned.ensures.refused

pub returns-clause-length : goal.returns-clause-length
returns-clause-length g c =
    let slot = c.in-Some.ensures.some in
    let naming = rw c.unwrap-number.ensures at c.digest_of_keyslot.ensures.some in
    let digest = rw c.unwrap-digest.ensures at c.digest.ensures.some in
    let plan = c.luks2_plan-plan.ensures (content c.args.meta.now) c.args.n c.unwrap-number.result slot.object digest.object slot.tells_members naming digest.is digest.tells_members in
    IfOk-weaker c.open_planned.result _ _ (λ found. some_weaker found _ _ (λ key len. record {
      object = slot.object;
      there = slot.is;
      is = plan.key_bytes ∙ ap Some (sym len);
    }))
    c.open_planned.ensures.length
