use Rattle.std.proofs.Common.{refl}
use Rattle.luks_header_commands.specs.Target.{pair_of}
use Rattle.luks_header_commands.proofs.SearchingFacts.{rest2_of, searched2_later}
use Rattle.luks_header_commands.proofs.searching2.make_searched2.Goals as goal

pub returns-in-Ok-clause-answers : goal.returns-in-Ok-clause-answers
returns-in-Ok-clause-answers g c =
    searched2_later g.D.Device.tells c.args.trying.now.rebuilding c.args.trying.now.passphrase.now c.args.random.now
    (pair_of g.D.Device.size g.D.Device.bytes g.D.Device.failed c.most_derivations.new.volume c.make_within.new.volume c.args.target.now c.make_within.new.target)
    (pair_of g.D.Device.size g.D.Device.bytes g.D.Device.failed c.args.volume.now c.make_within.new.volume c.args.target.now c.make_within.new.target) c.make_within.result
    (record {
      volume = c.most_derivations.ensures.unchanged.same;
      total = refl;
      old = λ told. refl;
      new = refl;
      volume_before = c.in-Ok.ensures.count;
      volume_after = refl;
      before = refl;
      after = refl;
    })
    c.make_within.ensures.answers

pub returns-in-Ok-clause-rest : goal.returns-in-Ok-clause-rest
returns-in-Ok-clause-rest g c = λ told.
    rest2_of c.args.trying.now.rebuilding c.args.trying.now.passphrase.now (g.D.Device.bytes c.args.volume.now) (g.D.Device.bytes c.most_derivations.new.volume)
    (g.D.Device.bytes c.args.target.now) (g.D.Device.bytes c.make_within.new.target) (c.most_derivations.ensures.unchanged.same told) (c.make_within.ensures.rest told)
