use Rattle.luks_header_commands.proofs.SearchingFacts.{by_later}
use Rattle.luks_header_commands.proofs.TryingFacts.{given_rest}
use Rattle.luks_header_commands.specs.Target.{pair_of}
use Rattle.luks_header_commands.proofs.trying.TryingHeaderWork.run.Goals as goal

pub returns-clause-rest : goal.returns-clause-rest
returns-clause-rest g c = λ told.
    given_rest c.args.self.now.rebuilding c.given_of-given.result c.args.self.now.passphrase.now (g.D.Device.bytes c.args.volume.now) (g.D.Device.bytes c.args.target.now)
    (g.D.Device.bytes c.make_by-answer.new.target) c.given_of-given.ensures (c.make_by-answer.ensures.rest told)

pub returns-clause-answers : goal.returns-clause-answers
returns-clause-answers g c = λ e later. record {
  given = c.given_of-given.result;
  is = c.given_of-given.ensures;
  says = by_later c.args.self.now.rebuilding.thorough g.D.Device.tells c.args.self.now.rebuilding c.given_of-given.result c.args.self.now.passphrase.now c.args.random.now
      (pair_of g.D.Device.size g.D.Device.bytes g.D.Device.failed c.args.volume.now c.make_by-answer.new.volume c.args.target.now c.make_by-answer.new.target) e c.make_by-answer.result later
      c.make_by-answer.ensures.answers;
}
