use Rattle.std.proofs.Common.{inr, subst}
use Rattle.luks_request.specs.declared.rebuilding.Meant.{Meant}
use Rattle.luks_header_commands.specs.Rebuilding.{IsAnswerOf, KeepsMeant}
use Rattle.luks_request.specs.Meant.{meant_by}
use Rattle.luks_header_commands.specs.Target.{pair_of}
use Rattle.luks_header_commands.proofs.RebuildFacts.{meant_later}
use Rattle.luks_header_commands.proofs.rebuild.MakingHeaderWork.run.Goals as goal

pub returns-clause-rest : goal.returns-clause-rest
returns-clause-rest g c = λ told. inr (record {
  given = c.given_of-given.result;
  is = c.given_of-given.ensures;
  keeps = subst (λ (m : Meant). KeepsMeant m c.args.self.now.rebuilding c.given_of-given.result (g.D.Device.bytes c.args.volume.now) (g.D.Device.bytes c.args.target.now) (g.D.Device.bytes c.make_meant.new.target))
      c.meant-meant.ensures (c.make_meant.ensures.rest told);
})

pub returns-clause-answers : goal.returns-clause-answers
returns-clause-answers g c = λ e later. record {
  given = c.given_of-given.result;
  is = c.given_of-given.ensures;
  says = meant_later (meant_by c.args.self.now.rebuilding) g.D.Device.tells c.args.self.now.rebuilding c.given_of-given.result c.args.random.now
      (pair_of g.D.Device.size g.D.Device.bytes g.D.Device.failed c.args.volume.now c.make_meant.new.volume c.args.target.now c.make_meant.new.target) e c.make_meant.result later
      (subst (λ (m : Meant). IsAnswerOf m g.D.Device.tells c.args.self.now.rebuilding c.given_of-given.result c.args.random.now (pair_of g.D.Device.size g.D.Device.bytes g.D.Device.failed c.args.volume.now c.make_meant.new.volume c.args.target.now c.make_meant.new.target) c.make_meant.result)
      c.meant-meant.ensures c.make_meant.ensures.answers);
}
