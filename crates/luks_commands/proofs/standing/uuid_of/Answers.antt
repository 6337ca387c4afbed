use Rattle.std.proofs.Common.{◌≢◌, ℕ, List, ap, ◌∙◌}
use Rattle.luks_area.specs.Device.{count_after}
use Rattle.luks_reading.specs.Conversions.{head_unread}
use Rattle.luks_reading.specs.declared.read_fault.ReadFault.TheVariants as read
use Rattle.luks_keeping.proofs.OtherFacts.{no_call_failed, not_device, unselected}
use Rattle.luks_commands.proofs.StandingFacts.{selected_uuid_of}
use Rattle.luks_commands.proofs.standing.uuid_of.Goals as goal

pub returns-in-Ok-clause-uuid : goal.returns-in-Ok-clause-uuid
returns-in-Ok-clause-uuid g c = λ tells.
    selected_uuid_of (g.D.Device.bytes c.args.device.now) c.in-Ok.selected c.selected_uuid.result (c.in-Ok.ensures.found tells) c.selected_uuid.ensures

pub returns-in-Head-clause-uuid : goal.returns-in-Head-clause-uuid
returns-in-Head-clause-uuid g c = λ tells.
    unselected (g.D.Device.bytes c.args.device.now) c.in-Err.fault (λ e. not_device c.from.result c.in-Head.is (c.from.ensures ∙ e)) (c.in-Err.ensures.refused tells)

pub returns-in-Head-clause-count : goal.returns-in-Head-clause-count
returns-in-Head-clause-count g c =
    let own : head_unread c.in-Err.fault ≢ read.Device = λ e. not_device c.from.result c.in-Head.is (c.from.ensures ∙ e) in
    c.in-Err.ensures.count ∙ ap (λ f. count_after f (g.D.Device.failed c.args.device.now)) (no_call_failed c.in-Err.fault own)
