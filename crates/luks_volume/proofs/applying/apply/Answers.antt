-- A header that isn't read refuses the edit; what is left by one that is read is left of the volume.
use Rattle.std.proofs.lemmas.Result.{err_from_is_err_and}
use Rattle.luks2_edit_laws.proofs.AfterFacts.{has_ranges}
use Rattle.luks_volume.proofs.NeedFacts.{unread_without_memory}
use Rattle.luks_volume.proofs.OutcomeFacts.{applied_by}
use Rattle.luks_volume.proofs.ReplyFacts.{unread_replies}
use Rattle.luks_volume.proofs.applying.apply.Goals as goal

pub returns-in_err-header-clause-applied : goal.returns-in_err-header-clause-applied
returns-in_err-header-clause-applied g c = λ tells.
    let v = g.D.Device.bytes c.args.device.now in
    let p = err_from_is_err_and c.from_residual.result c.from_residual.ensures.1 in
    let same = c.in_err-header.ensures.unchanged.same tells in
    let ranges = has_ranges v c.args.edit.now c.args.random.now (g.met.D.Device.sized c.args.device.now tells) (g.met.D.Device.bounded c.args.device.now)
    c.derivation_has_32_bits.ensures (λ k. (c.type_inv.random k).fits) in
    applied_by c.args.payload v c.args.edit.now c.args.random.now c.from_residual.result (g.D.Device.bytes c.edited_header.new.device) ranges
    (rw (p.1, p.2, same)
    (unread_replies v c.args.payload c.args.edit.now c.args.random.now c.in_err-header.field-0.0 (c.in_err-header.ensures.refused tells c.args.payload)))

pub returns-in_err-header-clause-memory : goal.returns-in_err-header-clause-memory
returns-in_err-header-clause-memory g c = λ tells free.
    let v = g.D.Device.bytes c.args.device.now in
    let p = err_from_is_err_and c.from_residual.result c.from_residual.ensures.1 in
    rw (p.1, p.2) (unread_without_memory v c.args.payload c.args.edit.now free c.in_err-header.field-0.0 (c.in_err-header.ensures.refused tells c.args.payload))
