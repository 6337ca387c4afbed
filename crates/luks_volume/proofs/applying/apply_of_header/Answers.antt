-- What its version replies is the volume's reply.
use Rattle.luks2_edit_laws.proofs.AfterFacts.{has_ranges}
use Rattle.luks_volume.proofs.OutcomeFacts.{applied_by}
use Rattle.luks_volume.proofs.ReplyFacts.{replies_by1, replies_by2}
use Rattle.luks_volume.proofs.VersionFacts.{needs_of, takes_none}
use Rattle.luks_volume.proofs.applying.apply_of_header.Goals as goal

pub returns-in-Luks1-clause-applied : goal.returns-in-Luks1-clause-applied
returns-in-Luks1-clause-applied g c = λ tells.
    let v = g.D.Device.bytes c.args.device.now in
    let w = g.D.Device.bytes c.apply_luks1.new.device in
    let is = rw c.in-Luks1.is at (c.requires.read tells) in
    let ranges = has_ranges v c.args.edit.now c.args.random.now (g.met.D.Device.sized c.args.device.now tells) (g.met.D.Device.bounded c.args.device.now)
    c.derivation_has_32_bits.ensures (λ k. (c.type_inv.random k).fits) in
    applied_by c.args.payload v c.args.edit.now c.args.random.now c.apply_luks1.result w ranges
    (replies_by1 v c.args.payload c.args.edit.now c.args.random.now w is.0 ranges c.apply_luks1.result (c.apply_luks1.ensures.replies tells is))

pub returns-in-Luks2-clause-applied : goal.returns-in-Luks2-clause-applied
returns-in-Luks2-clause-applied g c = λ tells.
    let v = g.D.Device.bytes c.args.device.now in
    let w = g.D.Device.bytes c.apply_luks2.new.device in
    let read = c.requires.read tells in
    let copy = rw c.in-Luks2.is at read in
    let ranges = has_ranges v c.args.edit.now c.args.random.now (g.met.D.Device.sized c.args.device.now tells) (g.met.D.Device.bounded c.args.device.now)
    c.derivation_has_32_bits.ensures (λ k. (c.type_inv.random k).fits) in
    applied_by c.args.payload v c.args.edit.now c.args.random.now c.apply_luks2.result w ranges
    (replies_by2 v c.args.payload c.args.edit.now c.args.random.now w
    c.in-Luks2.copy.header.hdr_offset c.in-Luks2.copy.copies copy.chosen
    (needs_of v c.in-Luks2.copy copy) ranges c.apply_luks2.result
    (c.apply_luks2.ensures.replies tells copy))

pub returns-in-Luks2-clause-memory : goal.returns-in-Luks2-clause-memory
returns-in-Luks2-clause-memory g c = λ tells free.
    let v = g.D.Device.bytes c.args.device.now in
    let copy = rw c.in-Luks2.is at (c.requires.read tells) in
    absurd (takes_none v free (needs_of v c.in-Luks2.copy copy))
