use Rattle.std.proofs.lemmas.Result.{on_ok_weaker}
use Rattle.luks1_edits.proofs.ErasureFacts.{keyslot_still, next_removed, next_torn}
use Rattle.luks1_edits.proofs.KeyslotPlaces.{keyslot_at, keyslot_inside}
use Rattle.luks1_edits.proofs.KeptFacts.{header_inside}
use Rattle.luks1_edits.proofs.erasing.free_next.Goals as goal

pub free_keyslot-requires-clause-within : goal.free_keyslot-requires-clause-within
free_keyslot-requires-clause-within g c = header_inside c.args.header.now.bytes.now c.args.header.now.payload (g.D.Device.size c.args.device.now) c.requires.accepted.volume

pub free_keyslot-requires-clause-inside : goal.free_keyslot-requires-clause-inside
free_keyslot-requires-clause-inside g c =
    keyslot_inside c.args.header.now.bytes.now c.args.header.now.fields c.args.header.now.payload (g.D.Device.size c.args.device.now) c.args.n _ c.luks1_area-area.result
    c.requires.accepted.fields c.requires.accepted.volume c.requires.numbered c.luks1_area-area.ensures.start c.luks1_area-area.ensures.len

pub returns-clause-removed : goal.returns-clause-removed
returns-clause-removed g c = λ tells v x below.
    let a = c.args.header.now in
    let u = g.D.Device.bytes c.args.device.now in
    let at = keyslot_at a.bytes.now a.fields a.payload v c.args.n _ c.luks1_area-area.result x c.requires.accepted.fields c.requires.numbered c.luks1_area-area.ensures.start c.luks1_area-area.ensures.len in
    on_ok_weaker c.free_keyslot.result (next_removed a.bytes.now a.payload v x u c.args.n c.requires.numbered below (g.D.Device.bytes c.free_keyslot.new.device))
    (c.free_keyslot.ensures.removed tells (keyslot_still a.bytes.now a.payload v x u c.args.n c.requires.numbered below _ c.luks1_area-area.result at))

pub returns-clause-torn : goal.returns-clause-torn
returns-clause-torn g c = λ tells v x below.
    let a = c.args.header.now in
    let u = g.D.Device.bytes c.args.device.now in
    let at = keyslot_at a.bytes.now a.fields a.payload v c.args.n _ c.luks1_area-area.result x c.requires.accepted.fields c.requires.numbered c.luks1_area-area.ensures.start c.luks1_area-area.ensures.len in
    next_torn a.bytes.now a.payload v x u c.args.n c.requires.numbered below (g.D.Device.bytes c.free_keyslot.new.device)
    (c.free_keyslot.ensures.torn tells (keyslot_still a.bytes.now a.payload v x u c.args.n c.requires.numbered below _ c.luks1_area-area.result at))
