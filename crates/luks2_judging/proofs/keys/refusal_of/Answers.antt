use Rattle.std.proofs.Common.{◌∙◌, ap, refl, sym}
use Rattle.luks_meta.specs.Content.{content}
use Rattle.luks_slot.specs.Allowance.{without_memory}
use Rattle.luks_slot.specs.Refusal.{slot_refusal_within}
use Rattle.luks2_judging.proofs.keys.refusal_of.Goals as goal

pub returns : goal.returns
returns c =
    let j = content c.args.meta.now in
    let slot = c.in-Some.ensures.some in
    let naming = rw c.unwrap-number.ensures at c.digest_of_keyslot.ensures.some in
    let digest = rw c.unwrap-digest.ensures at c.digest.ensures.some in
    record {
      object = slot.object;
      there = record { numbered = refl; named = c.requires.0; is = slot.is };
      plan = c.luks2_plan.result;
      is = c.luks2_plan.ensures j c.args.n c.unwrap-number.result slot.object digest.object slot.tells_members naming digest.is digest.tells_members;
      refused = sym (c.refusal_within.ensures ∙ ap (slot_refusal_within (without_memory c.args.older)) c.derived_anew-plan.ensures);
    }
