use Rattle.std.proofs.Common.{subst, sym}
use Rattle.luks_request.specs.declared.rebuilding.Meant.{Meant}
use Rattle.luks_header_commands.specs.Rebuilding.{KeepsMeant}
use Rattle.luks_header_commands.proofs.rebuild.make_meant.Goals as goal

pub returns-in-Either-clause-rest : goal.returns-in-Either-clause-rest
returns-in-Either-clause-rest g c = λ told.
    subst (λ (m : Meant). KeepsMeant m c.args.making.now.rebuilding c.args.given.now (g.D.Device.bytes c.args.volume.now) (g.D.Device.bytes c.args.target.now) (g.D.Device.bytes c.make_of_either.new.target))
    (sym c.in-Either.is) (c.make_of_either.ensures.rest told)
