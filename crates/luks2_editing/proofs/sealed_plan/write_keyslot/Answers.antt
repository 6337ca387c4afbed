use Rattle.std.proofs.Common.{List, ℕ, refl, sym, subst}
use Rattle.std.proofs.lemmas.Result.{IfErr-weaker}
use Rattle.luks_area.specs.Ranges.{IsOfEither, SameBut}
use Rattle.luks_meta.specs.Content.{area_len, content}
use Rattle.luks2_edit_laws.specs.Places.{IsOfCopies}
use Rattle.luks2_judging.specs.Texts.{texts_of}
use Rattle.luks2_editing.specs.Rewriting.{IsRewriting}
use Rattle.luks2_editing.specs.Sealed.{IsOfStripes}
use Rattle.luks2_editing.proofs.RewritingFacts.{rewriting_of}
use Rattle.luks2_editing.proofs.SealedFacts.{keyslot_written, on_ok_both, plan_unsealed, ready, torn_keyslot, IsPlanOf}
use Rattle.luks2_editing.proofs.sealed_plan.write_keyslot.Goals as goal

pub write_sealed-requires-clause-ready : goal.write_sealed-requires-clause-ready
write_sealed-requires-clause-ready g c =
    let h = c.args.chosen.now.hdr_size in
    let total = g.D.Device.size c.args.device.now in
    let k = content c.args.made.now.meta in
    let n = c.args.n in
    let slot = rw c.unwrap-keyslot.ensures at c.keyslot.ensures.some in
    let naming = rw c.unwrap-number.ensures at c.digest_of_keyslot.ensures.some in
    let digest = rw c.unwrap-digest.ensures at c.digest.ensures.some in
    let plan = c.luks2_plan-plan.result in
    let is = c.luks2_plan-plan.ensures k n c.unwrap-number.result slot.object digest.object slot.tells_members naming digest.is digest.tells_members in
    let p : IsPlanOf k n plan = record {
      object = slot.object;
      there = record { numbered = refl; named = c.requires.sealable.slot.there.named; is = slot.is };
      is = is;
      one = λ m names. (let this = c.digest_of_keyslot.ensures.only m names in let that = c.digest_of_keyslot.ensures.only is.digest.number is.digest.names in cc (this, that));
    } in
    ready h total k n c.args.secrets.now.key.now c.args.secrets.now.random.now c.requires.sealable plan p

pub returns-clause-fault : goal.returns-clause-fault
returns-clause-fault g c =
    let h = c.args.chosen.now.hdr_size in
    let total = g.D.Device.size c.args.device.now in
    let k = content c.args.made.now.meta in
    let n = c.args.n in
    let slot = rw c.unwrap-keyslot.ensures at c.keyslot.ensures.some in
    let naming = rw c.unwrap-number.ensures at c.digest_of_keyslot.ensures.some in
    let digest = rw c.unwrap-digest.ensures at c.digest.ensures.some in
    let plan = c.luks2_plan-plan.result in
    let is = c.luks2_plan-plan.ensures k n c.unwrap-number.result slot.object digest.object slot.tells_members naming digest.is digest.tells_members in
    let p : IsPlanOf k n plan = record {
      object = slot.object;
      there = record { numbered = refl; named = c.requires.sealable.slot.there.named; is = slot.is };
      is = is;
      one = λ m names. (let this = c.digest_of_keyslot.ensures.only m names in let that = c.digest_of_keyslot.ensures.only is.digest.number is.digest.names in cc (this, that));
    } in
    IfErr-weaker c.write_sealed.result _ _ (plan_unsealed h total k n c.args.secrets.now.key.now c.args.secrets.now.random.now c.requires.sealable plan p c.args.secrets.now.allowed) c.write_sealed.ensures.fault

pub returns-clause-torn : goal.returns-clause-torn
returns-clause-torn g c = λ tells payload e j renews seals.
    let h = c.args.chosen.now.hdr_size in
    let total = g.D.Device.size c.args.device.now in
    let k = content c.args.made.now.meta in
    let n = c.args.n in
    let slot = rw c.unwrap-keyslot.ensures at c.keyslot.ensures.some in
    let naming = rw c.unwrap-number.ensures at c.digest_of_keyslot.ensures.some in
    let digest = rw c.unwrap-digest.ensures at c.digest.ensures.some in
    let plan = c.luks2_plan-plan.result in
    let is = c.luks2_plan-plan.ensures k n c.unwrap-number.result slot.object digest.object slot.tells_members naming digest.is digest.tells_members in
    let p : IsPlanOf k n plan = record {
      object = slot.object;
      there = record { numbered = refl; named = c.requires.sealable.slot.there.named; is = slot.is };
      is = is;
      one = λ m names. (let this = c.digest_of_keyslot.ensures.only m names in let that = c.digest_of_keyslot.ensures.only is.digest.number is.digest.names in cc (this, that));
    } in
    let v = g.D.Device.bytes c.args.device.now in
    let w = g.D.Device.bytes c.write_sealed.new.device in
    torn_keyslot h total k n c.args.secrets.now.key.now c.args.secrets.now.random.now c.requires.sealable plan p v c.args.chosen.now.hdr_offset e c.args.secrets.now.passphrase.now w payload j seals
    (c.write_sealed.ensures.torn tells v e k
    (subst (λ (b : List ℕ). IsRewriting v e c.args.secrets.now.random.now c.args.chosen.now (texts_of c.args.chosen.now) k b) (sym c.as_slice.ensures.value)
    (rewriting_of v e c.args.secrets.now.random.now c.args.chosen.now (texts_of c.args.chosen.now) k c.args.made.now.json.items (area_len c.args.made.now.meta) renews c.requires.json)))

pub returns-clause-written : goal.returns-clause-written
returns-clause-written g c = λ tells e renews.
    let h = c.args.chosen.now.hdr_size in
    let total = g.D.Device.size c.args.device.now in
    let k = content c.args.made.now.meta in
    let n = c.args.n in
    let slot = rw c.unwrap-keyslot.ensures at c.keyslot.ensures.some in
    let naming = rw c.unwrap-number.ensures at c.digest_of_keyslot.ensures.some in
    let digest = rw c.unwrap-digest.ensures at c.digest.ensures.some in
    let plan = c.luks2_plan-plan.result in
    let is = c.luks2_plan-plan.ensures k n c.unwrap-number.result slot.object digest.object slot.tells_members naming digest.is digest.tells_members in
    let p : IsPlanOf k n plan = record {
      object = slot.object;
      there = record { numbered = refl; named = c.requires.sealable.slot.there.named; is = slot.is };
      is = is;
      one = λ m names. (let this = c.digest_of_keyslot.ensures.only m names in let that = c.digest_of_keyslot.ensures.only is.digest.number is.digest.names in cc (this, that));
    } in
    let v = g.D.Device.bytes c.args.device.now in
    let w = g.D.Device.bytes c.write_sealed.new.device in
    let rest = subst (λ (b : ℕ). SameBut (IsOfEither (IsOfStripes plan) (IsOfCopies b)) v w) (sym renews.header.hdr_size) (c.write_sealed.ensures.rest tells) in
    on_ok_both c.write_sealed.result (λ sealed anew.
    keyslot_written h total k n c.args.secrets.now.key.now c.args.secrets.now.random.now c.requires.sealable plan p v c.args.chosen.now.hdr_offset e c.args.secrets.now.passphrase.now w sealed anew rest)
    (c.write_sealed.ensures.sealed tells)
    (c.write_sealed.ensures.anew tells v e k
    (subst (λ (b : List ℕ). IsRewriting v e c.args.secrets.now.random.now c.args.chosen.now (texts_of c.args.chosen.now) k b) (sym c.as_slice.ensures.value)
    (rewriting_of v e c.args.secrets.now.random.now c.args.chosen.now (texts_of c.args.chosen.now) k c.args.made.now.json.items (area_len c.args.made.now.meta) renews c.requires.json)))
