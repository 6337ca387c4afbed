use Rattle.std.proofs.Common.{ℕ, List, Bool, IfOk, IsTrue, ◌↔◌, subst}
use Rattle.luks_signatures.specs.Reencryption.{IsReencrypting as IsReencryptingLuks1}
use Rattle.luks_commands.specs.Reencrypting.{IsReencryptingLuks2}
use Rattle.luks_commands.proofs.ReencryptionFacts.{either_told}
use Rattle.luks_commands.proofs.reencrypting.is_reencrypting.Goals as goal

pub returns-clause-is : goal.returns-clause-is
returns-clause-is g c = λ tells.
    let v : List ℕ = g.D.Device.bytes c.args.device.now in
    either_told (IsReencryptingLuks1 v) (IsReencryptingLuks2 v) c.is_reencrypting_luks2.result
    (subst (λ (b : Bool). IsTrue b ↔ IsReencryptingLuks1 v) c.if-branch.false (c.in_ok-is_reencrypted.ensures.is tells))
    (subst (λ (w : List ℕ). IfOk c.is_reencrypting_luks2.result (λ b. IsTrue b ↔ IsReencryptingLuks2 w))
    (c.is_reencrypted.ensures.unchanged.same tells) (c.is_reencrypting_luks2.ensures.is tells))
