-- The plan of the keyslot is judged, and its answer is that of the keyslot.
use Rattle.std.proofs.Common.{Some, ap, sym, ◌∙◌}
use Rattle.luks_rules.proofs.AreaFaults.{one_value}
use Rattle.luks_reading.proofs.OptionFacts.{some_weaker}
use Rattle.luks_reading.proofs.Luks2Plans.{IsOnly}
use Rattle.luks_wider.specs.Underways.{content}
use Rattle.luks_wide_reading.proofs.UnderwayPlans.{keyed, plan_one, plan_opens, plan_refused, wide_judged, IsPlanned}
use Rattle.luks_wide_reading.proofs.opening.open_keyslot.Goals as goal

pub open_planned-requires-clause-judged : goal.open_planned-requires-clause-judged
open_planned-requires-clause-judged g c =
    let j = content c.args.meta.now in
    let slot = c.requires.keyslot in
    let naming = rw c.unwrap-number.ensures at c.digest_of_keyslot.ensures.some in
    let digest = rw c.unwrap-digest.ensures at c.digest.ensures.some in
    let rules = c.meets_the_rules.ensures.rules in
    wide_judged rules.len c.args.n j slot.object c.luks2_plan-plan.result rules.rules c.requires.numbered slot.is slot.tells_members.0
    (c.luks2_plan-plan.ensures j c.args.n c.unwrap-number.result slot.object digest.object slot.tells_members naming digest.is digest.tells_members)

pub returns-in-Ok-clause-answers : goal.returns-in-Ok-clause-answers
returns-in-Ok-clause-answers g c = λ json holds.
    let j = content c.args.meta.now in
    let v = g.D.Device.bytes c.args.device.now in
    let slot = c.requires.keyslot in
    let naming = rw c.unwrap-number.ensures at c.digest_of_keyslot.ensures.some in
    let digest = rw c.unwrap-digest.ensures at c.digest.ensures.some in
    let only : IsOnly json j c.args.n = record {
      value = λ i other. one_value json j i holds other;
      digest = λ m k x y. let p = c.digest_of_keyslot.ensures.only m x in let q = c.digest_of_keyslot.ensures.only k y in cc (p, q);
    } in
    let plan = c.luks2_plan-plan.ensures j c.args.n c.unwrap-number.result slot.object digest.object slot.tells_members naming digest.is digest.tells_members in
    let planned : IsPlanned json j c.args.n c.luks2_plan-plan.result = record {
      only = only;
      key = keyed j slot.object c.args.n slot.is slot.tells_members.0;
      is = record { numbered = c.requires.numbered; value = j; holds = holds; object = slot.object; there = slot.is; is = plan };
    } in
    record {
      opens = λ tells. plan_opens c.args.allowed json v c.args.n j c.luks2_plan-plan.result c.args.passphrase.now c.in-Ok.found planned (c.in-Ok.ensures.opens tells);
      one = λ tells other x. plan_one c.args.allowed json v c.args.n j c.luks2_plan-plan.result c.args.passphrase.now c.in-Ok.found other planned (c.in-Ok.ensures.opens tells) x;
      refused = tt;
    }

pub returns-in-Err-clause-answers : goal.returns-in-Err-clause-answers
returns-in-Err-clause-answers g c = λ json holds.
    let j = content c.args.meta.now in
    let slot = c.requires.keyslot in
    let naming = rw c.unwrap-number.ensures at c.digest_of_keyslot.ensures.some in
    let digest = rw c.unwrap-digest.ensures at c.digest.ensures.some in
    let only : IsOnly json j c.args.n = record {
      value = λ i other. one_value json j i holds other;
      digest = λ m k x y. let p = c.digest_of_keyslot.ensures.only m x in let q = c.digest_of_keyslot.ensures.only k y in cc (p, q);
    } in
    let plan = c.luks2_plan-plan.ensures j c.args.n c.unwrap-number.result slot.object digest.object slot.tells_members naming digest.is digest.tells_members in
    let planned : IsPlanned json j c.args.n c.luks2_plan-plan.result = record {
      only = only;
      key = keyed j slot.object c.args.n slot.is slot.tells_members.0;
      is = record { numbered = c.requires.numbered; value = j; holds = holds; object = slot.object; there = slot.is; is = plan };
    } in
    record {
      opens = λ tells. tt;
      one = λ tells. tt;
      refused = plan_refused c.args.allowed json (g.D.Device.size c.args.device.now) c.args.n j c.luks2_plan-plan.result c.in-Err.fault planned c.in-Err.ensures.refused;
    }

pub returns-in-Ok-clause-key_bytes : goal.returns-in-Ok-clause-key_bytes
returns-in-Ok-clause-key_bytes g c =
    let j = content c.args.meta.now in
    let slot = c.requires.keyslot in
    let naming = rw c.unwrap-number.ensures at c.digest_of_keyslot.ensures.some in
    let digest = rw c.unwrap-digest.ensures at c.digest.ensures.some in
    let plan = c.luks2_plan-plan.ensures j c.args.n c.unwrap-number.result slot.object digest.object slot.tells_members naming digest.is digest.tells_members in
    some_weaker c.in-Ok.found _ _ (λ key len. record { object = slot.object; there = slot.is; is = plan.key_bytes ∙ ap Some (sym len) }) c.in-Ok.ensures.length
