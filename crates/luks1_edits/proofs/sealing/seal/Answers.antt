use Rattle.std.proofs.Common.{arith}
use Rattle.std.proofs.lemmas.Result.{err_from_is_err_and}
use Rattle.luks1_edits.proofs.KeptFacts.{header_inside}
use Rattle.luks1_edits.proofs.KeyslotPlaces.{keyslot_at, keyslot_inside}
use Rattle.luks1_edits.proofs.SealingFacts.{added, half_renewed, opened_at, opened_used, renewed}
use Rattle.luks1_edits.proofs.sealing.seal.Goals as goal

pub returns-in_err-n-clause-replies : goal.returns-in_err-n-clause-replies
returns-in_err-n-clause-replies g c = λ tells e is x.
    let p = err_from_is_err_and c.from_residual.result c.from_residual.ensures.1 in
    rw (p.1, p.2) (c.in_err-n.ensures.refused tells e is x)

pub returns-in-New-clause-replies : goal.returns-in-New-clause-replies
returns-in-New-clause-replies g c = λ tells e is x.
    let v = g.D.Device.bytes c.args.device.now in
    let u = g.D.Device.bytes c.make.new.device in
    added c.args.header.now.payload v e c.args.sealed.now c.args.random.now c.in_ok-n.n u is (c.in_ok-n.ensures.made tells x) c.in-New.opener c.in-New.to c.in-New.is

pub free_keyslot-requires-clause-within : goal.free_keyslot-requires-clause-within
free_keyslot-requires-clause-within g c =
    let size = c.make.ensures.size in
    let long = header_inside c.args.header.now.bytes.now c.args.header.now.payload (g.D.Device.size c.args.device.now) c.requires.accepted.volume in
    omega (arith, size, long)

pub free_keyslot-requires-clause-inside : goal.free_keyslot-requires-clause-inside
free_keyslot-requires-clause-inside g c =
    let size = c.make.ensures.size in
    let inside = keyslot_inside c.args.header.now.bytes.now c.args.header.now.fields c.args.header.now.payload (g.D.Device.size c.args.device.now) c.in-Opened.slot _ c.luks1_area-area.result
    c.requires.accepted.fields c.requires.accepted.volume (opened_used c.args.header.now.bytes.now c.in-Opened.is (c.requires.usable c.args.header.now.bytes.now c.requires.accepted.fields.slots)).0 c.luks1_area-area.ensures.start c.luks1_area-area.ensures.len in
    omega (arith, size, inside)

pub returns-in-Ok-clause-replies : goal.returns-in-Ok-clause-replies
returns-in-Ok-clause-replies g c = λ tells e is x.
    let v = g.D.Device.bytes c.args.device.now in
    let a = c.args.header.now in
    let s = c.args.sealed.now in
    let made = c.in_ok-n.ensures.made tells x in
    let u = g.D.Device.bytes c.make.new.device in
    let w = g.D.Device.bytes c.free_keyslot.new.device in
    let at = opened_at a.payload v e s c.args.random.now c.in_ok-n.n u is made a.bytes.now x c.in-Opened.slot c.in-Opened.secret c.in-Opened.is
    (keyslot_at a.bytes.now a.fields a.payload v c.in-Opened.slot _ c.luks1_area-area.result x c.requires.accepted.fields
    (opened_used c.args.header.now.bytes.now c.in-Opened.is (c.requires.usable c.args.header.now.bytes.now c.requires.accepted.fields.slots)).0 c.luks1_area-area.ensures.start c.luks1_area-area.ensures.len) in
    renewed a.payload v e s c.args.random.now c.in_ok-n.n u is made a.bytes.now x c.in-Opened.slot c.in-Opened.secret c.in-Opened.is w (c.in-Ok.ensures.removed tells at)

pub returns-in-Err-clause-replies : goal.returns-in-Err-clause-replies
returns-in-Err-clause-replies g c = λ tells e is x.
    let v = g.D.Device.bytes c.args.device.now in
    let a = c.args.header.now in
    let s = c.args.sealed.now in
    let made = c.in_ok-n.ensures.made tells x in
    let u = g.D.Device.bytes c.make.new.device in
    let w = g.D.Device.bytes c.free_keyslot.new.device in
    let at = opened_at a.payload v e s c.args.random.now c.in_ok-n.n u is made a.bytes.now x c.in-Opened.slot c.in-Opened.secret c.in-Opened.is
    (keyslot_at a.bytes.now a.fields a.payload v c.in-Opened.slot _ c.luks1_area-area.result x c.requires.accepted.fields
    (opened_used c.args.header.now.bytes.now c.in-Opened.is (c.requires.usable c.args.header.now.bytes.now c.requires.accepted.fields.slots)).0 c.luks1_area-area.ensures.start c.luks1_area-area.ensures.len) in
    half_renewed a.payload v e s c.args.random.now c.in_ok-n.n u is made a.bytes.now x c.in-Opened.slot c.in-Opened.secret c.in-Opened.is w (c.in-Err.ensures.torn tells at)

pub bounds-header-slot : goal.bounds-header-slot
bounds-header-slot g c = (opened_used c.args.header.now.bytes.now c.in-Opened.is (c.requires.usable c.args.header.now.bytes.now c.requires.accepted.fields.slots)).0

pub free_keyslot-requires-clause-numbered : goal.free_keyslot-requires-clause-numbered
free_keyslot-requires-clause-numbered g c = (opened_used c.args.header.now.bytes.now c.in-Opened.is (c.requires.usable c.args.header.now.bytes.now c.requires.accepted.fields.slots)).0
