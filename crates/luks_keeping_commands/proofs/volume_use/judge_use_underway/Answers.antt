use Rattle.std.proofs.Common.{Some, subst}
use Rattle.luks_signatures.specs.Signatures.{table}
use Rattle.luks_signatures.proofs.FirstFacts.{finds-one}
use Rattle.luks_wide_keeping.specs.Standings.{IsSameState, StandsSo}
use Rattle.luks_keeping_commands.proofs.UseFacts.{same_uuid}
use Rattle.luks_keeping_commands.proofs.volume_use.judge_use_underway.Goals as goal

pub returns-in_default-clause-clear : goal.returns-in_default-clause-clear
returns-in_default-clause-clear g c = λ tells over apart found stands.
    absurd (c.in_default.not-Some found (finds-one table (g.D.Device.bytes c.args.volume.now) c.in_ok-found.field-0 (Some found) (c.in_ok-found.ensures.found tells) stands))

pub returns-in-Ok-Same-clause-clear : goal.returns-in-Ok-Same-clause-clear
returns-in-Ok-Same-clause-clear g c = λ tells over apart found stands.
    let b = g.D.Device.bytes c.args.backup.now in
    let v = g.D.Device.bytes c.args.volume.now in
    let w = g.D.Device.bytes c.standing_use_of.new.device in
    let state : IsSameState b w = subst (StandsSo b w) c.in-Ok-Same.field-0-is (c.in-Ok-Same.ensures.stands tells tells) in
    absurd (apart (same_uuid b v (subst (IsSameState b) (c.in_ok-found.ensures.unchanged.same tells) state)))
