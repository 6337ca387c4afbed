use Rattle.std.proofs.Common.{[], ◌∷◌, ◌++◌, map, take, ap, ◌∙◌}
use Rattle.std.proofs.lemmas.List.{map-append, take_all}
use Rattle.serde_json.specs.Data.{array}
use Rattle.serde_json.specs.View.{items_of, view}
use Rattle.luks1_header.specs.declared.luks1.SlotState.TheVariants.{Enabled}
use Rattle.luks_show.specs.Luks1Value.{slot_values}
use Rattle.luks_show.proofs.SlotFacts.{one_slot_more}
use Rattle.luks_show.proofs.as_json.luks1.slots_value.Goals as goal

pub loop-n-preserved : goal.loop-n-preserved
loop-n-preserved c =
    let common = c.args.header.now.common in
    ap (map view) c.in_ok-push.ensures.items
    ∙ map-append view _ _
    ∙ ap (λ l. l ++ view c.in_ok-slot_value.field-0 ∷ []) c.loop-n.invariant
    ∙ ap (λ d. slot_values common 0 (take c.loop-n.n c.as_slice-slot-items.result.now) ++ d ∷ []) c.in_ok-slot_value.ensures
    ∙ one_slot_more common c.as_slice-slot-items.result.now c.loop-n.n
    (record { state = Enabled; iterations = 0; salt = []; key_material_offset = 0; stripes = 0 }) c.loop-n-test.true

pub returns : goal.returns
returns c =
    c.from.ensures
    ∙ ap (λ l. array (items_of l))
    (c.loop-n.invariant ∙ ap (slot_values c.args.header.now.common 0) (take_all _ _ c.loop-n-test.false ∙ c.as_slice-slot-items.ensures))
