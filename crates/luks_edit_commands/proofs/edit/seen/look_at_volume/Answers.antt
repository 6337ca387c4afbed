use Rattle.std.proofs.Common.{List, ℕ, Bool, Option, Some, sym, subst, ◌∙◌}
use Rattle.std.proofs.lemmas.Result.{err_from_is_err_and}
use Rattle.luks_signatures.specs.declared.other_use.OtherUse.{OtherUse}
use Rattle.luks_reading.specs.Header.{IsHeader}
use Rattle.luks_edit_commands.specs.OtherUses.{Bars}
use Rattle.luks_edit_commands.proofs.OtherUseFacts.{header_barred, one_use, unbarred_found}
use Rattle.luks_edit_commands.proofs.FindingFacts.{asked_moved, header_unseen, missed_moved, untold_unseen}
use Rattle.luks_edit_commands.proofs.edit.seen.look_at_volume.Goals as goal

pub returns-in_err-header-clause-unseen : goal.returns-in_err-header-clause-unseen
returns-in_err-header-clause-unseen g c = λ tells.
    let p = err_from_is_err_and c.from_residual.result c.from_residual.ensures.1 in
    rw (p.1, p.2) (header_unseen c.args.editing.now c.args.old c.args.new c.args.token c.requires.token _ _ (c.in_err-header.ensures.untold tells c.args.editing.now.payload))

pub returns-in_err-header-clause-barred : goal.returns-in_err-header-clause-barred
returns-in_err-header-clause-barred g c = λ tells.
    let p = err_from_is_err_and c.from_residual.result c.from_residual.ensures.1 in
    rw (p.1, p.2) (λ not u has. header_barred _ c.args.editing.now.payload u _ (c.in_err-header.ensures.refused tells c.args.editing.now.payload))

pub returns-in-Some-clause-barred : goal.returns-in-Some-clause-barred
returns-in-Some-clause-barred g c = λ tells not u has.
    let v : List ℕ = g.D.Device.bytes c.args.device.now in
    let over : Bool = c.args.editing.now.over in
    let same = c.in_ok-header.ensures.unchanged.same tells in
    let read = subst (λ x. IsHeader x c.in_ok-header.header) (sym same) (c.in_ok-header.ensures.read tells) in
    let bars = subst (λ x. Bars over x c.in_ok-found.field-0) same (c.in_ok-found.ensures.bars tells read) in
    let barred : Bars over v (Some c.in-Some.found) = subst (λ (o : Option OtherUse). Bars over v o) c.in-Some.is bars in
    one_use v c.in-Some.found u barred.1 has

pub returns-in_err-needed-clause-barred : goal.returns-in_err-needed-clause-barred
returns-in_err-needed-clause-barred g c = λ tells.
    let v : List ℕ = g.D.Device.bytes c.args.device.now in
    let over : Bool = c.args.editing.now.over in
    let same = c.in_ok-header.ensures.unchanged.same tells in
    let read = subst (λ x. IsHeader x c.in_ok-header.header) (sym same) (c.in_ok-header.ensures.read tells) in
    let bars = subst (λ x. Bars over x c.in_ok-found.field-0) same (c.in_ok-found.ensures.bars tells read) in
    let p = err_from_is_err_and c.from_residual-in_err-needed.result c.from_residual-in_err-needed.ensures.1 in
    rw (p.1, p.2) (λ not u has. absurd (unbarred_found over v c.in_ok-found.field-0 c.in_default.not-Some bars not u has))

pub returns-clause-barred : goal.returns-clause-barred
returns-clause-barred g c = λ tells.
    let v : List ℕ = g.D.Device.bytes c.args.device.now in
    let over : Bool = c.args.editing.now.over in
    let same = c.in_ok-header.ensures.unchanged.same tells in
    let read = subst (λ x. IsHeader x c.in_ok-header.header) (sym same) (c.in_ok-header.ensures.read tells) in
    let bars = subst (λ x. Bars over x c.in_ok-found.field-0) same (c.in_ok-found.ensures.bars tells read) in
    unbarred_found over v c.in_ok-found.field-0 c.in_default.not-Some bars

pub returns-in_err-edit-clause-unseen : goal.returns-in_err-edit-clause-unseen
returns-in_err-edit-clause-unseen g c = λ tells.
    let v : List ℕ = g.D.Device.bytes c.args.device.now in
    let same = c.in_ok-found.ensures.unchanged.same tells ∙ c.in_ok-header.ensures.unchanged.same tells in
    let read = subst (λ x. IsHeader x c.in_ok-header.header) (sym same) (c.in_ok-header.ensures.read tells) in
    let p = err_from_is_err_and c.from_residual-in_err-edit.result c.from_residual-in_err-edit.ensures.1 in
    rw (p.1, p.2) (missed_moved c.args.editing.now c.args.old.now c.args.new.now v _ same _ (c.in_err-edit.ensures.missed tells read))

pub returns-in_err-edit-clause-barred : goal.returns-in_err-edit-clause-barred
returns-in_err-edit-clause-barred g c = λ tells.
    let v : List ℕ = g.D.Device.bytes c.args.device.now in
    let over : Bool = c.args.editing.now.over in
    let same = c.in_ok-header.ensures.unchanged.same tells in
    let read = subst (λ x. IsHeader x c.in_ok-header.header) (sym same) (c.in_ok-header.ensures.read tells) in
    let bars = subst (λ x. Bars over x c.in_ok-found.field-0) same (c.in_ok-found.ensures.bars tells read) in
    let p = err_from_is_err_and c.from_residual-in_err-edit.result c.from_residual-in_err-edit.ensures.1 in
    rw (p.1, p.2) (λ not u has. absurd (unbarred_found over v c.in_ok-found.field-0 c.in_default.not-Some bars not u has))

pub returns-in_err-needed-clause-unseen : goal.returns-in_err-needed-clause-unseen
returns-in_err-needed-clause-unseen g c = λ tells.
    let v : List ℕ = g.D.Device.bytes c.args.device.now in
    let same = c.in_ok-found.ensures.unchanged.same tells ∙ c.in_ok-header.ensures.unchanged.same tells in
    let read = subst (λ x. IsHeader x c.in_ok-header.header) (sym same) (c.in_ok-header.ensures.read tells) in
    let asked = asked_moved c.args.editing.now c.args.old.now c.args.new.now v _ same c.in_ok-edit.edit (c.in_ok-edit.ensures.asked tells read) in
    let long = g.met.D.Device.sized c.args.device.now tells ∙ sym c.in_ok-header.ensures.unchanged.size ∙ sym c.in_ok-found.ensures.unchanged.size
    ∙ sym c.in_ok-edit.ensures.unchanged.size ∙ sym c.len.ensures in
    let p = err_from_is_err_and c.from_residual-in_err-needed.result c.from_residual-in_err-needed.ensures.1 in
    rw (p.1, p.2) (untold_unseen c.args.editing.now c.args.old.now c.args.new.now v c.in_ok-edit.edit asked _ (c.in_err-needed.ensures.tells v (c.in_ok-header.ensures.read tells) long))

pub returns-clause-asked : goal.returns-clause-asked
returns-clause-asked g c = λ tells.
    let v : List ℕ = g.D.Device.bytes c.args.device.now in
    let same = c.in_ok-found.ensures.unchanged.same tells ∙ c.in_ok-header.ensures.unchanged.same tells in
    let read = subst (λ x. IsHeader x c.in_ok-header.header) (sym same) (c.in_ok-header.ensures.read tells) in
    asked_moved c.args.editing.now c.args.old.now c.args.new.now v _ same c.in_ok-edit.edit (c.in_ok-edit.ensures.asked tells read)
