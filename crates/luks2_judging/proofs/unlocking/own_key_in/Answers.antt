-- What the plan keeps is what the keyslot keeps.
use Rattle.std.proofs.Common.{Some, ap, sym, ◌∙◌}
use Rattle.std.proofs.lemmas.Result.{IfErr-weaker, IfOk-weaker}
use Rattle.luks_rules.proofs.AreaFaults.{one_value}
use Rattle.luks_meta.specs.Content.{content}
use Rattle.luks_reading.specs.Plans.{HasLuks2Plan}
use Rattle.luks_reading.proofs.OptionFacts.{some_weaker}
use Rattle.luks_reading.proofs.Luks2PlanNumbers.{luks2_judged}
use Rattle.luks_reading.proofs.Luks2Plans.{IsOnly}
use Rattle.luks_reading.proofs.Luks2Refusals.{plan_refused2, plan_unrefused2}
use Rattle.luks2_judging.proofs.unlocking.own_key_in.Goals as goal

pub own_key_by-requires : goal.own_key_by-requires
own_key_by-requires c =
    let slot = c.in-Some.ensures.some in
    let naming = rw c.unwrap-number.ensures at c.digest_of_keyslot.ensures.some in
    let digest = rw c.unwrap-digest.ensures at c.digest.ensures.some in
    record {
      judged = luks2_judged c.requires.accepted.metadata.len c.args.n (content c.args.copy.now.meta) slot.object c.luks2_plan-plan.result c.requires.accepted.metadata.content c.requires.there.0 slot.is
          (c.luks2_plan-plan.ensures (content c.args.copy.now.meta) c.args.n c.unwrap-number.result slot.object digest.object slot.tells_members naming digest.is digest.tells_members);
    }

pub returns-clause-gives : goal.returns-clause-gives
returns-clause-gives c = λ b json clear.
    let j = content c.args.copy.now.meta in
    let slot = c.in-Some.ensures.some in
    let naming = rw c.unwrap-number.ensures at c.digest_of_keyslot.ensures.some in
    let digest = rw c.unwrap-digest.ensures at c.digest.ensures.some in
    let only : IsOnly json j c.args.n = record {
      value = λ i holds. one_value json j i clear.meta.json holds;
      digest = λ m k x y. let p = c.digest_of_keyslot.ensures.only m x in let q = c.digest_of_keyslot.ensures.only k y in cc (p, q);
    } in
    let plan = c.luks2_plan-plan.ensures j c.args.n c.unwrap-number.result slot.object digest.object slot.tells_members naming digest.is digest.tells_members in
    let has : HasLuks2Plan json c.args.n c.luks2_plan-plan.result =
    record { numbered = c.requires.there.0; value = j; holds = clear.meta.json; object = slot.object; there = slot.is; is = plan } in
    IfOk-weaker c.own_key_by.result _ _ (λ found keeps. record {
      plan = c.luks2_plan-plan.result;
      is = has;
      unrefused = plan_unrefused2 c.args.allowed b json c.args.total c.args.n j c.luks2_plan-plan.result clear only has keeps.accepted;
      own = sym keeps.is;
    })
    c.own_key_by.ensures.gives

pub returns-clause-refused : goal.returns-clause-refused
returns-clause-refused c = λ b json clear.
    let j = content c.args.copy.now.meta in
    let slot = c.in-Some.ensures.some in
    let naming = rw c.unwrap-number.ensures at c.digest_of_keyslot.ensures.some in
    let digest = rw c.unwrap-digest.ensures at c.digest.ensures.some in
    let only : IsOnly json j c.args.n = record {
      value = λ i holds. one_value json j i clear.meta.json holds;
      digest = λ m k x y. let p = c.digest_of_keyslot.ensures.only m x in let q = c.digest_of_keyslot.ensures.only k y in cc (p, q);
    } in
    let plan = c.luks2_plan-plan.ensures j c.args.n c.unwrap-number.result slot.object digest.object slot.tells_members naming digest.is digest.tells_members in
    let has : HasLuks2Plan json c.args.n c.luks2_plan-plan.result =
    record { numbered = c.requires.there.0; value = j; holds = clear.meta.json; object = slot.object; there = slot.is; is = plan } in
    IfErr-weaker c.own_key_by.result _ _ (λ fault refused.
    plan_refused2 c.args.allowed b json c.args.total c.args.n j c.luks2_plan-plan.result fault clear only has refused)
    c.own_key_by.ensures.refused

pub returns-clause-length : goal.returns-clause-length
returns-clause-length c =
    let slot = c.in-Some.ensures.some in
    let naming = rw c.unwrap-number.ensures at c.digest_of_keyslot.ensures.some in
    let digest = rw c.unwrap-digest.ensures at c.digest.ensures.some in
    let plan = c.luks2_plan-plan.ensures (content c.args.copy.now.meta) c.args.n c.unwrap-number.result slot.object digest.object slot.tells_members naming digest.is digest.tells_members in
    IfOk-weaker c.own_key_by.result _ _ (λ found. some_weaker found _ _ (λ key len. record {
      object = slot.object;
      there = slot.is;
      is = plan.key_bytes ∙ ap Some (sym len);
    }))
    c.own_key_by.ensures.length
