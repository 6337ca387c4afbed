use Rattle.std.proofs.Output.{has_written_of_eq}
use Rattle.std.specs.Fmt.{decimal}
use Rattle.luks_show.proofs.AllFacts.{joined_argon2}
use Rattle.luks_show.proofs.costs.write_argon2.Goals as goal

pub returns : goal.returns
returns g c plain ok =
    let costs = c.args.costs in
    has_written_of_eq _ _ _ _ _
    (joined_argon2 (decimal c.args.n) c.args.kind.now (decimal costs.time) (decimal costs.memory) (decimal costs.cpus))
    (c.writeln.ensures.writes plain ok)
