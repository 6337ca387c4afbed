use Rattle.std.proofs.Common.{◌≡◌, ap, subst, ◌∙◌, IfOk}
use Rattle.serde_json.specs.Data.{Data as Value}
use Rattle.serde_json.specs.View.{view}
use Rattle.luks_making.specs.Formatted.{formatted, volume_members}
use Rattle.luks_making.specs.Keyslots.{slot_value}
use Rattle.luks_making.specs.With.{with_slot}
use Rattle.luks_making.specs.Without.{without_slot}
use Rattle.luks_formatting.specs.Deriving.{slot_derivation}
use Rattle.luks_formatting.specs.NewHeader2.{first_slot_by}
use Rattle.luks_formatting.proofs.MetadataFacts.{made_anew}
use Rattle.luks_formatting.proofs.metadata.metadata_of.Goals as goal

pub returns : goal.returns
returns c =
    let own = slot_derivation c.args.format.now c.args.chosen in
    let v = volume_members c.args.like.now in
    let k = c.args.key_bytes in
    let slot : view c.in_ok-keyslot.keyslot ≡ slot_value (first_slot_by k own v) = c.in_ok-keyslot.ensures ∙ ap slot_value c.first_slot.ensures in
    let bare : view c.in_ok-bare.bare ≡ without_slot 0 (formatted v) = c.in_ok-bare.ensures ∙ ap (without_slot 0) c.in_ok-value.ensures in
    subst (λ (j : Value). IfOk c.with_slot.result (λ w. view w ≡ j)) (ap (with_slot 0 0 (first_slot_by k own v)) bare ∙ made_anew k own v) (c.with_slot.ensures (first_slot_by k own v) slot)
