use Rattle.std.proofs.Common.{Bool, sym, subst}
use Rattle.luks_header_commands.specs.Target.{pair_of}
use Rattle.luks_header_commands.specs.Trying.{IsRestBy, TriedBy}
use Rattle.luks_header_commands.proofs.trying.make_by.Goals as goal

pub returns-then-trying-clause-rest : goal.returns-then-trying-clause-rest
returns-then-trying-clause-rest g c = λ told.
    subst (λ (b : Bool). IsRestBy b c.args.trying.now.rebuilding c.args.given.now c.args.trying.now.passphrase.now (g.D.Device.bytes c.args.volume.now) (g.D.Device.bytes c.args.target.now)
    (g.D.Device.bytes c.make_searched.new.target)) (sym c.if-trying.true) (c.make_searched.ensures.rest told)

pub returns-then-trying-clause-answers : goal.returns-then-trying-clause-answers
returns-then-trying-clause-answers g c =
    subst (λ (b : Bool). TriedBy b g.D.Device.tells c.args.trying.now.rebuilding c.args.given.now c.args.trying.now.passphrase.now c.args.random.now
    (pair_of g.D.Device.size g.D.Device.bytes g.D.Device.failed c.args.volume.now c.make_searched.new.volume c.args.target.now c.make_searched.new.target) c.make_searched.result)
    (sym c.if-trying.true) c.make_searched.ensures.answers

pub returns-else-trying-clause-rest : goal.returns-else-trying-clause-rest
returns-else-trying-clause-rest g c = λ told.
    subst (λ (b : Bool). IsRestBy b c.args.trying.now.rebuilding c.args.given.now c.args.trying.now.passphrase.now (g.D.Device.bytes c.args.volume.now) (g.D.Device.bytes c.args.target.now)
    (g.D.Device.bytes c.make_opened.new.target)) (sym c.if-trying.false) (c.make_opened.ensures.rest told)

pub returns-else-trying-clause-answers : goal.returns-else-trying-clause-answers
returns-else-trying-clause-answers g c =
    subst (λ (b : Bool). TriedBy b g.D.Device.tells c.args.trying.now.rebuilding c.args.given.now c.args.trying.now.passphrase.now c.args.random.now
    (pair_of g.D.Device.size g.D.Device.bytes g.D.Device.failed c.args.volume.now c.make_opened.new.volume c.args.target.now c.make_opened.new.target) c.make_opened.result)
    (sym c.if-trying.false) c.make_opened.ensures.answers
