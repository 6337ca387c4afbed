use Rattle.std.proofs.Common.{ap, subst, ◌∙◌}
use Rattle.luks_commands.specs.declared.answers.Answer.TheVariants.{Refused}
use Rattle.luks_commands.specs.declared.answers.Refusal.TheVariants.{Rebuild1}
use Rattle.luks_header_commands.specs.Rebuilding.{IsLuks1Answer}
use Rattle.luks_header_commands.specs.Target.{pair_of, Pair}
use Rattle.luks_header_commands.proofs.RebuildFacts.{lacking_stays}
use Rattle.luks_header_commands.proofs.of_either.make_luks1.Goals as goal

pub returns-in-Refused-Rebuild1-NoHeader-clause-answers : goal.returns-in-Refused-Rebuild1-NoHeader-clause-answers
returns-in-Refused-Rebuild1-NoHeader-clause-answers g c =
    let d : Pair = pair_of g.D.Device.size g.D.Device.bytes g.D.Device.failed c.args.volume.now c.make_of_fields.new.volume c.args.target.now c.make_of_fields.new.target in
    let arm = c.in-Refused-Rebuild1-NoHeader in
    lacking_stays g.D.Device.tells c.args.given.now c.args.fault d c.from.result c.requires.fault
    (subst (IsLuks1Answer g.D.Device.tells c.args.given.now d) (arm.is ∙ ap (λ x. Refused x) (arm.field-0-is ∙ ap (λ x. Rebuild1 x) arm.field-0-0-is)) c.make_of_fields.ensures.answers)
    c.from.ensures
