use Rattle.std.proofs.Common.{◌<◌, arith, subst, sym}
use Rattle.luks_meta.specs.Content.{content}
use Rattle.luks_reading.proofs.Luks2PlanNumbers.{luks2_judged}
use Rattle.luks2_searching.specs.Digests.{HasDigest}
use Rattle.luks2_searching.proofs.ResultFacts.{found_so}
use Rattle.luks2_searching.proofs.digest.near_digest.Goals as goal

pub given_digest-requires-clause-openable : goal.given_digest-requires-clause-openable
given_digest-requires-clause-openable g c =
    let slot = c.in-Some.ensures.some in
    let naming = rw c.unwrap-number.ensures at c.digest_of_keyslot.ensures.some in
    let digest = rw c.unwrap-digest.ensures at c.digest.ensures.some in
    let low : c.args.n < 32 = omega arith in
    luks2_judged c.args.meta.now.len c.args.n (content c.args.meta.now) slot.object c.luks2_plan-plan.result c.args.meta.now.held.content low slot.is
    (c.luks2_plan-plan.ensures (content c.args.meta.now) c.args.n c.unwrap-number.result slot.object digest.object slot.tells_members naming digest.is digest.tells_members)

pub returns-clause-near : goal.returns-clause-near
returns-clause-near g c = λ json is.
    let slot = c.in-Some.ensures.some in
    let naming = rw c.unwrap-number.ensures at c.digest_of_keyslot.ensures.some in
    let digest = rw c.unwrap-digest.ensures at c.digest.ensures.some in
    let plan = c.luks2_plan-plan.ensures (content c.args.meta.now) c.args.n c.unwrap-number.result slot.object digest.object slot.tells_members naming digest.is digest.tells_members in
    let has : HasDigest json c.args.n c.luks2_plan-plan.result.digest.stored.now =
    record { value = content c.args.meta.now; holds = is.json; number = plan.digest.number; naming = plan.digest.names; object = plan.digest.object; there = plan.digest.there; is = plan.digest.stored } in
    found_so c.given_digest.result _ _
    (λ near x. record { stands = subst (λ d. HasDigest json c.args.n d) (sym x.is) has; are = x.are })
    c.given_digest.ensures.near
