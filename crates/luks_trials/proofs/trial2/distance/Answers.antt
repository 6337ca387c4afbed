use Rattle.std.proofs.Common.{◌≡◌, ◌<◌, Some, None, IsNone, refl, subst, sym, arith}
use Rattle.luks_rules.proofs.AreaFaults.{one_value}
use Rattle.luks_meta.specs.Content.{content}
use Rattle.luks_meta.specs.Faults.{object_at}
use Rattle.luks_rules.specs.declared.table.Section.TheVariants.{Keyslots}
use Rattle.luks_reading.specs.Plans.{HasLuks2Plan}
use Rattle.luks_reading.proofs.Luks2PlanNumbers.{luks2_judged}
use Rattle.luks_reading.proofs.Luks2Plans.{IsOnly}
use Rattle.luks_trials.proofs.OptionFacts.{told_by}
use Rattle.luks_trials.proofs.MetadataFacts.{opens_at}
use Rattle.luks_trials.proofs.trial2.distance.Goals as goal

pub try_plan-requires-clause-openable : goal.try_plan-requires-clause-openable
try_plan-requires-clause-openable g c =
    let slot = c.in-Some.ensures.some in
    let naming = rw c.unwrap-number.ensures at c.digest_of_keyslot.ensures.some in
    let digest = rw c.unwrap-digest.ensures at c.digest.ensures.some in
    let low : c.args.n < 32 = omega arith in
    luks2_judged c.args.meta.now.len c.args.n (content c.args.meta.now) slot.object c.luks2_plan-plan.result c.args.meta.now.held.content low slot.is
    (c.luks2_plan-plan.ensures (content c.args.meta.now) c.args.n c.unwrap-number.result slot.object digest.object slot.tells_members naming digest.is digest.tells_members)

pub returns-clause-opens : goal.returns-clause-opens
returns-clause-opens g c = λ tells json meta.
    let slot = c.in-Some.ensures.some in
    let naming = rw c.unwrap-number.ensures at c.digest_of_keyslot.ensures.some in
    let digest = rw c.unwrap-digest.ensures at c.digest.ensures.some in
    let low : c.args.n < 32 = omega arith in
    let only : IsOnly json (content c.args.meta.now) c.args.n = record {
      value = λ i holds. one_value json (content c.args.meta.now) i meta.json holds;
      digest = λ m k x y. let p = c.digest_of_keyslot.ensures.only m x in let q = c.digest_of_keyslot.ensures.only k y in cc (p, q);
    } in
    let plan = c.luks2_plan-plan.ensures (content c.args.meta.now) c.args.n c.unwrap-number.result slot.object digest.object slot.tells_members naming digest.is digest.tells_members in
    let has : HasLuks2Plan json c.args.n c.luks2_plan-plan.result =
    record { numbered = low; value = content c.args.meta.now; holds = meta.json; object = slot.object; there = slot.is; is = plan } in
    told_by c.try_plan.result _ _
    (opens_at c.args.trying.now.allowed (g.D.Device.bytes c.args.source.now) c.args.trying.now.passphrase.now json c.args.n (content c.args.meta.now) meta only c.luks2_plan-plan.result has)
    (c.try_plan.ensures.opens tells)

pub returns-in_default-clause-opens : goal.returns-in_default-clause-opens
returns-in_default-clause-opens g c = λ tells json meta. (
  (λ e. absurd (cc)),
  (λ x.
      let same = one_value json (content c.args.meta.now) x.is.value meta.json x.is.holds in
      let there = subst (λ i. object_at i Keyslots c.args.n ≡ Some x.is.object) (sym same) x.is.there in
      let low = x.is.numbered in
      let missing : object_at (content c.args.meta.now) Keyslots c.args.n ≡ None = c.keyslot.ensures.none (subst IsNone (sym c.in_default.is) refl) low in
      absurd (cc (there, missing))),
)

pub returns-then-not-is_inside-clause-opens : goal.returns-then-not-is_inside-clause-opens
returns-then-not-is_inside-clause-opens g c = λ tells json meta.
    let slot = c.in-Some.ensures.some in
    let naming = rw c.unwrap-number.ensures at c.digest_of_keyslot.ensures.some in
    let digest = rw c.unwrap-digest.ensures at c.digest.ensures.some in
    let low : c.args.n < 32 = omega arith in
    let only : IsOnly json (content c.args.meta.now) c.args.n = record {
      value = λ i holds. one_value json (content c.args.meta.now) i meta.json holds;
      digest = λ m k x y. let p = c.digest_of_keyslot.ensures.only m x in let q = c.digest_of_keyslot.ensures.only k y in cc (p, q);
    } in
    let plan = c.luks2_plan-plan.ensures (content c.args.meta.now) c.args.n c.unwrap-number.result slot.object digest.object slot.tells_members naming digest.is digest.tells_members in
    let has : HasLuks2Plan json c.args.n c.luks2_plan-plan.result =
    record { numbered = low; value = content c.args.meta.now; holds = meta.json; object = slot.object; there = slot.is; is = plan } in (
      (λ e. absurd (cc)),
      (λ x.
          let opened = (opens_at c.args.trying.now.allowed (g.D.Device.bytes c.args.source.now) c.args.trying.now.passphrase.now json c.args.n (content c.args.meta.now) meta only c.luks2_plan-plan.result has).1 x in
          let inside = opened.opens.inside in
          let sized = g.met.D.Device.sized c.args.source.now tells in
          let len = c.len.ensures in
          let is = c.is_inside.ensures.1 (omega (arith, inside, sized, len)) in
          let no = c.if-not-is_inside.true in
          absurd (cc)),
    )
