use Rattle.std.proofs.Common.{◌≡◌, ◌≢◌, ◌↔◌, ℕ, List, IsTrue, ap, subst, ◌∙◌}
use Rattle.luks_area.specs.Device.{count_after}
use Rattle.luks_reading.specs.Conversions.{head_unread}
use Rattle.luks_reading.specs.declared.read_fault.ReadFault.TheVariants as read
use Rattle.luks_keeping.specs.OtherHeaders.{selected_uuid}
use Rattle.luks_keeping.proofs.OtherFacts.{no_call_failed, none_other, not_device, told_by, unselected}
use Rattle.luks_keeping.proofs.same_volume.has_other_uuid.Goals as goal

pub returns-in-Ok-clause-told : goal.returns-in-Ok-clause-told
returns-in-Ok-clause-told g c = λ tells b x.
    told_by b (g.T.Device.bytes c.args.target.now) x.header x.is_header c.in-Ok.selected (c.in-Ok.ensures.found tells) c.has_selected_uuid.result
    (subst (λ (u : List ℕ). IsTrue c.has_selected_uuid.result ↔ (selected_uuid c.in-Ok.selected ≡ u)) x.is.uuid c.has_selected_uuid.ensures)

pub returns-in-Head : goal.returns-in-Head
returns-in-Head g c =
    let t : List ℕ = g.T.Device.bytes c.args.target.now in
    let own : head_unread c.in-Err.fault ≢ read.Device = λ e. not_device c.from.result c.in-Head.is (c.from.ensures ∙ e) in
    record {
      unchanged = c.in-Err.ensures.unchanged;
      count = c.in-Err.ensures.count ∙ ap (λ f. count_after f (g.T.Device.failed c.args.target.now)) (no_call_failed c.in-Err.fault own);
      told = λ tells b x. none_other b t (unselected t c.in-Err.fault own (c.in-Err.ensures.refused tells));
      device = tt;
    }
