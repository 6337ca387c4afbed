use Rattle.std.proofs.Common.{ℕ, List, sym, subst}
use Rattle.luks2_header.specs.Selection.{IsSelected}
use Rattle.luks_edit_commands.specs.OtherUses.{FindsOtherUse, IsCounting}
use Rattle.luks_edit_commands.proofs.OtherUseFacts.{some_use}
use Rattle.luks_edit_commands.proofs.other_use.standing_use.Goals as goal

pub returns-in-Ok-clause-has : goal.returns-in-Ok-clause-has
returns-in-Ok-clause-has g c = λ tells.
    let v : List ℕ = g.D.Device.bytes c.args.device.now in
    let same = c.in-Ok-V2.ensures.unchanged.same tells in
    let counting = subst (λ w. IsCounting w c.in-Ok-V2.header c.in-Ok-V2.copies) (sym same)
    (subst (IsSelected v) c.in-Ok-V2.field-0-is (c.in-Ok-V2.ensures.found tells)) in
    some_use v c.in-Ok.found (subst (λ w. FindsOtherUse w c.in-Ok.found) same (c.in-Ok.ensures.found tells counting))
