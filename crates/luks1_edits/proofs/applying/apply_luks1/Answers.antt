use Rattle.std.proofs.Common.{[], subst, sym, ◌∙◌}
use Rattle.luks1_edits.specs.Accepted.{IsHeaderOf}
use Rattle.luks1_edits.specs.Replies.{Replies1}
use Rattle.luks1_edits.proofs.AcceptedFacts.{early_ends}
use Rattle.luks1_edits.proofs.NewKeyslotFacts.{making, making_usable}
use Rattle.luks1_edits.proofs.RemovalFacts.{removable_of, removal}
use Rattle.luks1_edits.proofs.applying.apply_luks1.Goals as goal

pub returns-in-Err-clause-replies : goal.returns-in-Err-clause-replies
returns-in-Err-clause-replies g c = λ tells is.
    let v = g.D.Device.bytes c.args.device.now in
    early_ends v c.args.payload c.args.edit.now c.args.random.now c.in-Err.fault c.in-Err.ensures.early
    (c.in-Err.ensures.refused v c.args.random.now is (g.met.D.Device.sized c.args.device.now tells ∙ sym c.len.ensures))

pub returns-in-Seal-clause-replies : goal.returns-in-Seal-clause-replies
returns-in-Seal-clause-replies g c = λ tells is.
    let v = g.D.Device.bytes c.args.device.now in
    let header = c.in-Ok.ensures.header v is (g.met.D.Device.sized c.args.device.now tells ∙ sym c.len.ensures) in
    let w = g.D.Device.bytes c.seal.new.device in
    subst (λ q. Replies1 q v c.args.edit.now c.args.random.now c.seal.result w) c.in-Ok.ensures.payload
    (c.seal.ensures.replies tells c.args.edit.now (sym c.in-Seal.ensures) (subst (λ q. IsHeaderOf c.in-Ok.header.bytes.now q v) (sym c.in-Ok.ensures.payload) header))

pub returns-in-Remove-clause-replies : goal.returns-in-Remove-clause-replies
returns-in-Remove-clause-replies g c = λ tells is.
    let v = g.D.Device.bytes c.args.device.now in
    let header = c.in-Ok.ensures.header v is (g.met.D.Device.sized c.args.device.now tells ∙ sym c.len.ensures) in
    let w = g.D.Device.bytes c.remove.new.device in
    subst (λ q. Replies1 q v c.args.edit.now c.args.random.now c.remove.result w) c.in-Ok.ensures.payload
    (c.remove.ensures.replies tells c.args.edit.now (sym c.in-Remove.ensures) (subst (λ q. IsHeaderOf c.in-Ok.header.bytes.now q v) (sym c.in-Ok.ensures.payload) header))

pub returns-in-Rewrite-clause-replies : goal.returns-in-Rewrite-clause-replies
returns-in-Rewrite-clause-replies g c = λ tells is.
    let v = g.D.Device.bytes c.args.device.now in
    let header = c.in-Ok.ensures.header v is (g.met.D.Device.sized c.args.device.now tells ∙ sym c.len.ensures) in
    let w = g.D.Device.bytes c.rewrite.new.device in
    subst (λ q. Replies1 q v c.args.edit.now c.args.random.now c.rewrite.result w) c.in-Ok.ensures.payload
    (c.rewrite.ensures.replies tells c.args.edit.now (sym c.in-Rewrite.ensures) (subst (λ q. IsHeaderOf c.in-Ok.header.bytes.now q v) (sym c.in-Ok.ensures.payload) header))

pub returns-in-Erase-clause-replies : goal.returns-in-Erase-clause-replies
returns-in-Erase-clause-replies g c = λ tells is.
    let v = g.D.Device.bytes c.args.device.now in
    let header = c.in-Ok.ensures.header v is (g.met.D.Device.sized c.args.device.now tells ∙ sym c.len.ensures) in
    let w = g.D.Device.bytes c.erase.new.device in
    subst (λ q. Replies1 q v c.args.edit.now c.args.random.now c.erase.result w) c.in-Ok.ensures.payload
    (c.erase.ensures.replies tells c.args.edit.now (sym c.in-Erase.ensures) (subst (λ q. IsHeaderOf c.in-Ok.header.bytes.now q v) (sym c.in-Ok.ensures.payload) header))

pub seal-requires-clause-usable : goal.seal-requires-clause-usable
seal-requires-clause-usable g c = λ v holds.
    making_usable _ (making v c.args.edit.now c.in-Seal.sealed (sym c.in-Seal.ensures)) (c.in-Ok.ensures.there v holds)

pub remove-requires-clause-removable : goal.remove-requires-clause-removable
remove-requires-clause-removable g c = λ v holds. removable_of (removal v c.args.edit.now c.in-Remove.removed [] (sym c.in-Remove.ensures)) (c.in-Ok.ensures.there v holds)
