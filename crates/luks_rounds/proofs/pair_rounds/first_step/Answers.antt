use Rattle.std.proofs.Common.{refl, arith}
use Rattle.sha2.proofs.Schedule256.{rounds_first}
use Rattle.luks_rounds.specs.Pair.{lane, window}
use Rattle.luks_rounds.proofs.PairFacts.{word_in_window}
use Rattle.luks_rounds.proofs.pair_rounds.first_step.Goals as goal

pub returns : goal.returns
returns c = λ j b h lt win held.
    rounds_first b h (window j c.args.w.now) (lane j c.args.v) c.args.t _ _ _ c.requires win held refl
    (word_in_window j c.args.w.now c.args.t (omega arith)) (c.round.ensures j lt)
