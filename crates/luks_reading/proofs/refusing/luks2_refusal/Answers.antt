-- What the plan of the keyslot is refused by is what the keyslot is refused by.
use Rattle.std.proofs.Common.{◌<◌, arith}
use Rattle.luks_rules.proofs.AreaFaults.{one_value}
use Rattle.luks_meta.specs.Content.{content}
use Rattle.luks_reading.specs.Plans.{HasLuks2Plan}
use Rattle.luks_reading.proofs.Luks2Plans.{IsOnly}
use Rattle.luks_reading.proofs.Luks2Refusals.{plan_judged2}
use Rattle.luks_reading.proofs.refusing.luks2_refusal.Goals as goal

pub returns : goal.returns
returns c = λ b json clear.
    let slot = c.in-Some.ensures.some in
    let naming = rw c.unwrap-number.ensures at c.digest_of_keyslot.ensures.some in
    let digest = rw c.unwrap-digest.ensures at c.digest.ensures.some in
    let low : c.args.n < 32 = omega arith in
    let only : IsOnly json (content c.args.meta.now) c.args.n = record {
      value = λ i holds. one_value json (content c.args.meta.now) i clear.meta.json holds;
      digest = λ m k x y. let p = c.digest_of_keyslot.ensures.only m x in let q = c.digest_of_keyslot.ensures.only k y in cc (p, q);
    } in
    let plan = c.luks2_plan.ensures (content c.args.meta.now) c.args.n c.unwrap-number.result slot.object digest.object slot.tells_members naming digest.is digest.tells_members in
    let has : HasLuks2Plan json c.args.n c.luks2_plan.result =
    record { numbered = low; value = content c.args.meta.now; holds = clear.meta.json; object = slot.object; there = slot.is; is = plan } in
    plan_judged2 c.args.allowed b json c.args.total c.args.n (content c.args.meta.now) c.luks2_plan.result c.plan_refusal.result clear only has
    c.plan_refusal.ensures.refused c.plan_refusal.ensures.accepted
