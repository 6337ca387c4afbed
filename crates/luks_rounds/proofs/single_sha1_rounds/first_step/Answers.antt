use Rattle.std.proofs.Common.{arith, refl, ◌∙◌}
use Rattle.sha1.proofs.Schedule.{rounds_first, round_constant_choose}
use Rattle.luks_rounds.proofs.single_sha1_rounds.first_step.Goals as goal

pub returns : goal.returns
returns c = λ b h win held.
    let k = c.constant.ensures ∙ round_constant_choose c.args.t (omega arith) in
    rounds_first b h c.args.w.now c.args.v c.args.t _ _ _ c.requires win held refl c.ch.ensures (rw k at c.round.ensures)
