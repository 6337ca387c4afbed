use Rattle.std.proofs.Common.{refl, arith}
use Rattle.std.proofs.lemmas.Result.{err_from_is_err_and}
use Rattle.luks_area.proofs.DeviceFacts.{settled_unchanged}
use Rattle.luks_edit.specs.Asked.{remover_of}
use Rattle.luks1_edits.proofs.NewKeyslotFacts.{own_opened, own_unopened, own_usable}
use Rattle.luks1_edits.proofs.KeyslotPlaces.{half_removed_same, keyslot_at, keyslot_at_same, keyslot_inside, removed_same}
use Rattle.luks1_edits.proofs.KeptFacts.{header_inside}
use Rattle.luks1_edits.proofs.OpenerFacts.{slots_in}
use Rattle.luks1_edits.proofs.RemovalFacts.{last_refused, random_refused, removable_usable, removal, removal_done, removal_opener, removal_torn}
use Rattle.luks1_edits.proofs.RowFacts.{unopened_ends}
use Rattle.luks1_edits.proofs.removing.remove.Goals as goal

pub returns-in_err-unlock-clause-replies : goal.returns-in_err-unlock-clause-replies
returns-in_err-unlock-clause-replies g c = λ tells e is x.
    let v = g.D.Device.bytes c.args.device.now in
    let a = c.args.header.now in
    let d = c.args.removed.now in
    let p = err_from_is_err_and c.from_residual.result c.from_residual.ensures.1 in
    rw (p.1, p.2)
    (unopened_ends v a.payload e c.args.random.now x.faultless x.chosen (remover_of d.slot d.by_ d.secret)
    (removal_opener v a.payload e c.args.random.now (remover_of d.slot d.by_ d.secret) d.slot d.by_ (removal v e d c.args.random.now is) (c.requires.removable v (slots_in a.bytes.now a.payload v a.fields.slots x c.requires.accepted.fields.slots)))
    (removable_usable v d.slot d.by_ d.secret (c.requires.removable v (slots_in a.bytes.now a.payload v a.fields.slots x c.requires.accepted.fields.slots)))
    (g.D.Device.bytes c.unlock.new.device) c.in_err-unlock.field-0.0 (c.unlock.ensures.unchanged.same tells) (own_unopened (g.D.Device.bytes c.args.device.now) c.in_err-unlock.field-0.0 c.opener.ensures (c.in_err-unlock.ensures.refused tells x)))

pub returns-then-is_last-clause-replies : goal.returns-then-is_last-clause-replies
returns-then-is_last-clause-replies g c = λ tells e is x.
    let v = g.D.Device.bytes c.args.device.now in
    let a = c.args.header.now in
    let d = c.args.removed.now in
    (last_refused v a.payload e c.args.random.now (remover_of d.slot d.by_ d.secret) d.slot d.by_ c.in_ok-unlock.field-0 (removal v e d c.args.random.now is) a.bytes.now x (c.requires.removable v (slots_in a.bytes.now a.payload v a.fields.slots x c.requires.accepted.fields.slots)) (removable_usable v d.slot d.by_ d.secret (c.requires.removable v (slots_in a.bytes.now a.payload v a.fields.slots x c.requires.accepted.fields.slots))) (own_opened c.opener.ensures (c.in_ok-unlock.ensures.opened tells x)) (c.if-is_last.ensures.last refl v (slots_in a.bytes.now a.payload v a.fields.slots x c.requires.accepted.fields.slots)), c.unlock.ensures.unchanged.same tells)

pub returns-then-random-ne0-clause-replies : goal.returns-then-random-ne0-clause-replies
returns-then-random-ne0-clause-replies g c = λ tells e is x.
    let v = g.D.Device.bytes c.args.device.now in
    let a = c.args.header.now in
    let d = c.args.removed.now in
    (random_refused v a.payload e c.args.random.now (remover_of d.slot d.by_ d.secret) d.slot d.by_ c.in_ok-unlock.field-0 (removal v e d c.args.random.now is) a.bytes.now x (c.requires.removable v (slots_in a.bytes.now a.payload v a.fields.slots x c.requires.accepted.fields.slots)) (removable_usable v d.slot d.by_ d.secret (c.requires.removable v (slots_in a.bytes.now a.payload v a.fields.slots x c.requires.accepted.fields.slots))) (own_opened c.opener.ensures (c.in_ok-unlock.ensures.opened tells x)) (c.if-is_last.ensures.other refl v (slots_in a.bytes.now a.payload v a.fields.slots x c.requires.accepted.fields.slots)) c.if-random-ne0.true, c.unlock.ensures.unchanged.same tells)

pub free_keyslot-requires-clause-within : goal.free_keyslot-requires-clause-within
free_keyslot-requires-clause-within g c =
    let size = c.unlock.ensures.unchanged.size in
    let long = header_inside c.args.header.now.bytes.now c.args.header.now.payload (g.D.Device.size c.args.device.now) c.requires.accepted.volume in
    omega (arith, size, long)

pub free_keyslot-requires-clause-inside : goal.free_keyslot-requires-clause-inside
free_keyslot-requires-clause-inside g c =
    let size = c.unlock.ensures.unchanged.size in
    let inside = keyslot_inside c.args.header.now.bytes.now c.args.header.now.fields c.args.header.now.payload (g.D.Device.size c.args.device.now) c.args.removed.now.slot _ c.luks1_area-area.result
    c.requires.accepted.fields c.requires.accepted.volume (c.requires.removable c.args.header.now.bytes.now c.requires.accepted.fields.slots).removed.0 c.luks1_area-area.ensures.start c.luks1_area-area.ensures.len in
    omega (arith, size, inside)

pub returns-in-Ok-clause-replies : goal.returns-in-Ok-clause-replies
returns-in-Ok-clause-replies g c = λ tells e is x.
    let v = g.D.Device.bytes c.args.device.now in
    let a = c.args.header.now in
    let d = c.args.removed.now in
    let at = keyslot_at a.bytes.now a.fields a.payload v c.args.removed.now.slot _ c.luks1_area-area.result x c.requires.accepted.fields
    (c.requires.removable c.args.header.now.bytes.now c.requires.accepted.fields.slots).removed.0 c.luks1_area-area.ensures.start c.luks1_area-area.ensures.len in
    let same = c.unlock.ensures.unchanged.same tells in
    let w = g.D.Device.bytes c.free_keyslot.new.device in
    removal_done v a.payload e c.args.random.now (remover_of d.slot d.by_ d.secret) d.slot d.by_ c.in_ok-unlock.field-0 (removal v e d c.args.random.now is) a.bytes.now x (c.requires.removable v (slots_in a.bytes.now a.payload v a.fields.slots x c.requires.accepted.fields.slots)) (removable_usable v d.slot d.by_ d.secret (c.requires.removable v (slots_in a.bytes.now a.payload v a.fields.slots x c.requires.accepted.fields.slots))) (own_opened c.opener.ensures (c.in_ok-unlock.ensures.opened tells x))
    (c.if-is_last.ensures.other refl v (slots_in a.bytes.now a.payload v a.fields.slots x c.requires.accepted.fields.slots)) c.if-random-ne0.false w (removed_same same (c.in-Ok.ensures.removed tells (keyslot_at_same same at)))

pub returns-in-Err-clause-replies : goal.returns-in-Err-clause-replies
returns-in-Err-clause-replies g c = λ tells e is x.
    let v = g.D.Device.bytes c.args.device.now in
    let a = c.args.header.now in
    let d = c.args.removed.now in
    let at = keyslot_at a.bytes.now a.fields a.payload v c.args.removed.now.slot _ c.luks1_area-area.result x c.requires.accepted.fields
    (c.requires.removable c.args.header.now.bytes.now c.requires.accepted.fields.slots).removed.0 c.luks1_area-area.ensures.start c.luks1_area-area.ensures.len in
    let same = c.unlock.ensures.unchanged.same tells in
    let w = g.D.Device.bytes c.free_keyslot.new.device in
    removal_torn v a.payload e c.args.random.now (remover_of d.slot d.by_ d.secret) d.slot d.by_ c.in_ok-unlock.field-0 (removal v e d c.args.random.now is) a.bytes.now x (c.requires.removable v (slots_in a.bytes.now a.payload v a.fields.slots x c.requires.accepted.fields.slots)) (removable_usable v d.slot d.by_ d.secret (c.requires.removable v (slots_in a.bytes.now a.payload v a.fields.slots x c.requires.accepted.fields.slots))) (own_opened c.opener.ensures (c.in_ok-unlock.ensures.opened tells x))
    (c.if-is_last.ensures.other refl v (slots_in a.bytes.now a.payload v a.fields.slots x c.requires.accepted.fields.slots)) c.if-random-ne0.false w (half_removed_same same (c.in-Err.ensures.torn tells (keyslot_at_same same at)))

pub returns-in_err-unlock-clause-settled : goal.returns-in_err-unlock-clause-settled
returns-in_err-unlock-clause-settled g c = λ tells same. settled_unchanged tells c.unlock.ensures.unchanged (c.requires.settled tells)

pub returns-then-is_last-clause-settled : goal.returns-then-is_last-clause-settled
returns-then-is_last-clause-settled g c = λ tells same. settled_unchanged tells c.unlock.ensures.unchanged (c.requires.settled tells)

pub returns-then-random-ne0-clause-settled : goal.returns-then-random-ne0-clause-settled
returns-then-random-ne0-clause-settled g c = λ tells same. settled_unchanged tells c.unlock.ensures.unchanged (c.requires.settled tells)

pub free_keyslot-requires-clause-settled : goal.free_keyslot-requires-clause-settled
free_keyslot-requires-clause-settled g c = λ tells. settled_unchanged tells c.unlock.ensures.unchanged (c.requires.settled tells)

pub unlock-requires-clause-usable : goal.unlock-requires-clause-usable
unlock-requires-clause-usable g c = λ v holds. let d = c.args.removed.now in own_usable v c.opener.ensures (removable_usable v d.slot d.by_ d.secret (c.requires.removable v holds))

pub bounds-header-removed : goal.bounds-header-removed
bounds-header-removed g c = (c.requires.removable c.args.header.now.bytes.now c.requires.accepted.fields.slots).removed.0

pub free_keyslot-requires-clause-numbered : goal.free_keyslot-requires-clause-numbered
free_keyslot-requires-clause-numbered g c = (c.requires.removable c.args.header.now.bytes.now c.requires.accepted.fields.slots).removed.0
