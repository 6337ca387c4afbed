use Rattle.std.proofs.Common.{arith, ◌∙◌}
use Rattle.sha1.proofs.Schedule.{rounds_first, round_constant_choose}
use Rattle.luks_rounds.specs.Quad.{lane, window}
use Rattle.luks_rounds.proofs.QuadFacts.{word_in_window}
use Rattle.luks_rounds.proofs.quad_rounds.first_step.Goals as goal

pub returns : goal.returns
returns c = λ j b h lt win held.
    let k = c.constant.ensures ∙ round_constant_choose c.args.t (omega arith) in
    rounds_first b h (window j c.args.w.now) (lane j c.args.v) c.args.t _ _ _ c.requires win held
    (word_in_window j c.args.w.now c.args.t (omega arith)) (c.ch.ensures j lt) (rw k at (c.round.ensures j lt))
