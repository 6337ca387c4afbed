use Rattle.luks_rules.proofs.AreaFaults.{one_value}
use Rattle.luks_meta.specs.Content.{content}
use Rattle.luks_reading.specs.Plans.{HasLuks2Plan}
use Rattle.luks_reading.proofs.Luks2Plans.{IsOnly}
use Rattle.luks_trials.proofs.MetadataFacts.{opens_at}
use Rattle.luks_trials.proofs.anew.tells_alike.Goals as goal

pub returns : goal.returns
returns c = λ yes allowed v p old new is_old is x.
    let slot = c.in-Some.ensures.some in
    let naming = rw c.unwrap-number.ensures at c.digest_of_keyslot.ensures.some in
    let digest = rw c.unwrap-digest.ensures at c.digest.ensures.some in
    let only : IsOnly new (content c.args.meta.now) c.args.n = record {
      value = λ i holds. one_value new (content c.args.meta.now) i is.json holds;
      digest = λ m k a b. let q = c.digest_of_keyslot.ensures.only m a in let r = c.digest_of_keyslot.ensures.only k b in cc (q, r);
    } in
    let plan = c.luks2_plan-plan.ensures (content c.args.meta.now) c.args.n c.unwrap-number.result slot.object digest.object slot.tells_members naming digest.is digest.tells_members in
    let has : HasLuks2Plan new c.args.n c.luks2_plan-plan.result =
    record { numbered = c.requires; value = content c.args.meta.now; holds = is.json; object = slot.object; there = slot.is; is = plan } in
    c.tells_plan.ensures yes allowed v p old is_old ((opens_at allowed v p new c.args.n (content c.args.meta.now) is only c.luks2_plan-plan.result has).1 x)
