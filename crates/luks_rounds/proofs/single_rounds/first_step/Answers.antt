use Rattle.std.proofs.Common.{refl}
use Rattle.sha2.proofs.Schedule256.{rounds_first}
use Rattle.luks_rounds.proofs.single_rounds.first_step.Goals as goal

pub returns : goal.returns
returns c = λ b h win held. rounds_first b h c.args.w.now c.args.v c.args.t _ _ _ c.requires win held refl refl c.round.ensures
