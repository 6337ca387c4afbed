use Rattle.std.proofs.Common.{◌≡◌, Some, ◌∙◌, sym, ap, add-one}
use Rattle.serde_json.specs.View.{view}
use Rattle.luks_making.specs.Converted.{SourceMembers, SourceSlotMembers, converted_slot, source_members, source_slot_members}
use Rattle.luks_making.specs.Keyslots.{SlotMembers}
use Rattle.luks_making.specs.With.{with_slot}
use Rattle.luks_making.proofs.ConversionFacts.{below_more, below_same}
use Rattle.luks_making.proofs.SourceFacts.{slot_found, slot_missing}
use Rattle.luks_making.proofs.source_volume.converted.Goals.{in-Some+in_ok-made+in_ok-value-2, in_default}
use Rattle.luks_making.proofs.source_volume.converted.Goals as goal

pub loop-number-preserved : goal.loop-number-preserved
loop-number-preserved c =
    let v : SourceMembers = source_members c.args.volume.now in
    let n = c.loop-number.number in
    elim c.match-slot.branch [
      | in-Some+in_ok-made+in_ok-value-2 w ↦ (
          let s : SourceSlotMembers = source_slot_members w.in-Some.slot in
          let is : (source_members c.args.volume.now).slot c.loop-number.number ≡ Some (source_slot_members w.in-Some.slot) = slot_found c.args.volume.now n w.in-Some.slot w.in-Some.is in
          rw add-one (ap view w.value-is ∙ w.in_ok-value-2.ensures _ w.in_ok-made.ensures ∙ ap (λ (m : SlotMembers). with_slot n 0 m (view c.loop-number.value)) w.converted_slot-keyslot.ensures
          ∙ ap (with_slot n 0 (converted_slot v n s)) c.loop-number.invariant ∙ sym (below_more v n s is)))
      | in_default w ↦ rw add-one (ap view w.value-is ∙ c.loop-number.invariant ∙ sym (below_same v n (slot_missing c.args.volume.now n w.in_default.is)))
    ]
