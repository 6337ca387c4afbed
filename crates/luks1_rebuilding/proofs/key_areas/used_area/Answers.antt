use Rattle.std.proofs.Common.{◌<◌, ◌*◌, length, ap, arith, ◌∙◌}
use Rattle.std.proofs.lemmas.List.{get_or_default}
use Rattle.luks_area.specs.Sectors.{rounded_to_sectors}
use Rattle.luks1_header.specs.declared.luks1.Luks1Slot.{Luks1Slot}
use Rattle.luks1_mending.specs.Areas.{stripes_area}
use Rattle.luks_reading.proofs.AreaListFacts.{same_area}
use Rattle.luks1_rebuilding.specs.Used.{any_slot, slot_at}
use Rattle.luks1_rebuilding.proofs.key_areas.used_area.Goals as goal

pub returns-in-Enabled-clause-some : goal.returns-in-Enabled-clause-some
returns-in-Enabled-clause-some c =
    let d = c.args.fields.now in
    let n = c.args.n in
    let within : n < length d.slots = (let eight = c.requires.eight in let low = c.requires.numbered in omega (arith, eight, low)) in
    let s = slot_at d n in
    record {
      numbered = c.requires.numbered;
      enabled = ap (λ (q : Luks1Slot). q.state) (get_or_default d.slots n any_slot _ within) ∙ c.in-Enabled.is;
      is = same_area c.luks1_area.result (stripes_area d.common.key_bytes s.key_material_offset s.stripes)
          (c.luks1_area.ensures.start ∙ ap (λ (q : Luks1Slot). q.key_material_offset * 512) (get_or_default d.slots n _ any_slot within))
          (c.luks1_area.ensures.len ∙ ap (λ (q : Luks1Slot). rounded_to_sectors (d.common.key_bytes * q.stripes)) (get_or_default d.slots n _ any_slot within));
    }
