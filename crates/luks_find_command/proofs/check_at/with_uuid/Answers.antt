use Rattle.luks_area.specs.Device.{unchanged-same}
use Rattle.std.proofs.Common.{ℕ, List, subst}
use Rattle.luks_reading.specs.declared.report.Data.TheVariants.{Here}
use Rattle.luks_commands.specs.CheckAnswers.{IsCheckAnswer}
use Rattle.luks_commands.specs.declared.answers.Answer.{Answer}
use Rattle.luks_find_command.proofs.UuidFacts.{accepted-uuid, other-uuid}
use Rattle.luks_find_command.proofs.check_at.with_uuid.Goals as goal

pub returns-in-Ok-clause-uuid : goal.returns-in-Ok-clause-uuid
returns-in-Ok-clause-uuid g c = λ t before is.
    let v : List ℕ = g.D.Device.bytes c.args.volume.now in
    let A : Answer → Type 0 = λ a. IsCheckAnswer g.D.Device.tells v Here before (g.D.Device.failed c.args.volume.now) a in
    accepted-uuid v c.in-Accepted.version c.in-Accepted.areas c.in-Ok.uuid ((subst A c.in-Accepted.is is).1 t) (c.in-Ok.ensures.uuid t)

pub returns-in_default : goal.returns-in_default
returns-in_default g c = record {
  unchanged = unchanged-same c.args.volume.now;
  answers = λ before is. is;
  uuid = λ t before is. other-uuid g.D.Device.tells (g.D.Device.bytes c.args.volume.now) before (g.D.Device.failed c.args.volume.now) c.args.verdict is c.in_default.not-Accepted t;
}
