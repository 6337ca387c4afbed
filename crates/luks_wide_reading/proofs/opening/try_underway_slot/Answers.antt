use Rattle.std.proofs.Common.{◌<◌, refl, subst, arith}
use Rattle.luks_rules.proofs.AreaFaults.{one_value}
use Rattle.luks_underway.specs.Slots.{TellsWideKeyslot}
use Rattle.luks_wider.specs.Underways.{content}
use Rattle.luks_wide_reading.proofs.UnderwayPlans.{absent_refused, unkeyed, unkeyed_refused}
use Rattle.luks_wide_reading.proofs.opening.try_underway_slot.Goals as goal

pub returns-in-None-clause-answers : goal.returns-in-None-clause-answers
returns-in-None-clause-answers g c = λ json holds. record {
  opens = λ tells. tt;
  one = λ tells. tt;
  refused = absent_refused c.args.allowed json (g.D.Device.size c.args.device.now) c.args.n (content c.args.copy.now.meta) holds (c.in-None.ensures.none refl);
}

pub returns-in-Some-Reencrypt-clause-answers : goal.returns-in-Some-Reencrypt-clause-answers
returns-in-Some-Reencrypt-clause-answers g c = λ json holds.
    let j = content c.args.copy.now.meta in
    let slot = c.in-Some-Reencrypt.ensures.some in
    let tells = subst (TellsWideKeyslot slot.object) c.in-Some-Reencrypt.field-0-is slot.tells_members in
    let low : c.args.n < 32 = omega arith in
    record {
      opens = λ tells. tt;
      one = λ tells. tt;
      refused = unkeyed_refused c.args.allowed json (g.D.Device.size c.args.device.now) c.args.n j slot.object (λ i other. one_value json j i holds other) holds low slot.is
          (unkeyed j slot.object c.args.n slot.is tells.0);
    }

pub open_keyslot-requires-clause-keyslot : goal.open_keyslot-requires-clause-keyslot
open_keyslot-requires-clause-keyslot g c =
    let slot = c.in-Some-Luks2.ensures.some in
    record { object = slot.object; is = slot.is; tells_members = subst (TellsWideKeyslot slot.object) c.in-Some-Luks2.field-0-is slot.tells_members }
