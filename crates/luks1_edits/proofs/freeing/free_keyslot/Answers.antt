use Rattle.std.proofs.Common.{refl, replicate, sym, subst}
use Rattle.luks1_header.specs.Header1.{HoldsEntry}
use Rattle.luks1_header.specs.declared.luks1.Luks1Slot.{Luks1Slot}
use Rattle.luks1_header.specs.declared.luks1.SlotState.TheVariants.{Disabled}
use Rattle.luks1_edits.proofs.StepFacts.{half_removed_area, half_removed_entry, keyslot_removed}
use Rattle.luks1_edits.proofs.freeing.free_keyslot.Goals as goal

pub returns-in_err-write_entry-clause-torn : goal.returns-in_err-write_entry-clause-torn
returns-in_err-write_entry-clause-torn g c tells x =
    half_removed_entry (g.D.Device.bytes c.args.device.now) (g.D.Device.bytes c.write_entry.new.device) c.args.n c.args.slot.now c.args.area x (c.write_entry.ensures.rest tells)

pub returns-in_err-wipe_area-clause-torn : goal.returns-in_err-wipe_area-clause-torn
returns-in_err-wipe_area-clause-torn g c tells x =
    let s = c.args.slot.now in
    let f : Luks1Slot = record { state = Disabled; iterations = 0; salt = replicate 32 0; key_material_offset = s.key_material_offset; stripes = s.stripes } in
    half_removed_area (g.D.Device.bytes c.args.device.now) (g.D.Device.bytes c.write_entry.new.device) (g.D.Device.bytes c.wipe_area.new.device) c.args.n s f c.args.area x
    refl refl refl refl refl (c.write_entry.ensures.rest tells)
    (subst (λ e. HoldsEntry e f) (sym (c.in_ok-write_entry.ensures.entry tells)) c.entry_bytes.ensures.fields) (c.wipe_area.ensures.rest tells)

pub returns-clause-torn : goal.returns-clause-torn
returns-clause-torn g c tells x =
    let s = c.args.slot.now in
    let f : Luks1Slot = record { state = Disabled; iterations = 0; salt = replicate 32 0; key_material_offset = s.key_material_offset; stripes = s.stripes } in
    half_removed_area (g.D.Device.bytes c.args.device.now) (g.D.Device.bytes c.write_entry.new.device) (g.D.Device.bytes c.wipe_area.new.device) c.args.n s f c.args.area x
    refl refl refl refl refl (c.write_entry.ensures.rest tells)
    (subst (λ e. HoldsEntry e f) (sym (c.in_ok-write_entry.ensures.entry tells)) c.entry_bytes.ensures.fields) (c.wipe_area.ensures.rest tells)

pub returns-clause-removed : goal.returns-clause-removed
returns-clause-removed g c tells x =
    let s = c.args.slot.now in
    let f : Luks1Slot = record { state = Disabled; iterations = 0; salt = replicate 32 0; key_material_offset = s.key_material_offset; stripes = s.stripes } in
    keyslot_removed (g.D.Device.bytes c.args.device.now) (g.D.Device.bytes c.write_entry.new.device) (g.D.Device.bytes c.wipe_area.new.device) c.args.n s f c.args.area x
    refl refl refl refl refl (c.write_entry.ensures.rest tells)
    (subst (λ e. HoldsEntry e f) (sym (c.in_ok-write_entry.ensures.entry tells)) c.entry_bytes.ensures.fields) (c.wipe_area.ensures.rest tells)
    (c.in_ok-wipe_area.ensures.wiped tells)
