use Rattle.std.proofs.Common.{◌≢◌, ℕ, List, ap, subst, sym, ◌∙◌}
use Rattle.luks_area.specs.Device.{count_after}
use Rattle.luks2_header.specs.Selection.{IsSelected}
use Rattle.luks_reading.specs.Conversions.{head_unread}
use Rattle.luks_reading.specs.declared.read_fault.ReadFault.TheVariants as read
use Rattle.luks_keeping.proofs.OtherFacts.{no_call_failed, not_device, unselected}
use Rattle.luks_commands.proofs.ReencryptionFacts.{found_by, lost_found, lost_within}
use Rattle.luks_commands.proofs.reencrypting.json_place.Goals as goal

pub returns-in-Ok-V2-clause-place : goal.returns-in-Ok-V2-clause-place
returns-in-Ok-V2-clause-place g c = λ tells.
    let v : List ℕ = g.D.Device.bytes c.args.device.now in
    found_by v c.in-Ok-V2.header c.in-Ok-V2.field-0-1 (subst (IsSelected v) c.in-Ok-V2.field-0-is (c.in-Ok-V2.ensures.found tells))

pub returns-in-Head : goal.returns-in-Head
returns-in-Head g c =
    let v : List ℕ = g.D.Device.bytes c.args.device.now in
    let own : head_unread c.in-Err.fault ≢ read.Device = λ e. not_device c.from.result c.in-Head.is (c.from.ensures ∙ e) in
    record {
      unchanged = c.in-Err.ensures.unchanged;
      count = c.in-Err.ensures.count ∙ ap (λ f. count_after f (g.D.Device.failed c.args.device.now)) (no_call_failed c.in-Err.fault own);
      within = lost_within (g.D.Device.size c.args.device.now) c.len-total.result c.lost_place.result c.len-total.ensures c.lost_place.ensures.there;
      place = λ tells.
          lost_found v c.len-total.result c.lost_place.result (g.met.D.Device.sized c.args.device.now tells ∙ sym c.len-total.ensures)
          (unselected v c.in-Err.fault own (c.in-Err.ensures.refused tells)) c.lost_place.ensures.there c.lost_place.ensures.none;
    }
