use Rattle.std.proofs.Common.{arith}
use Rattle.luks_rounds.proofs.PairFacts.{three_rotated, word_fits}
use Rattle.luks_rounds.proofs.pair.big_sigma0.Goals as goal

pub returns : goal.returns
returns c = λ j lt.
    three_rotated c.doubled-d.result c.doubled-d.ensures.two _ 2 13 22 j _ lt (word_fits c.args.x c.fits-x j lt)
    (omega arith) (omega arith) (omega arith) (c.doubled-d.ensures.twice j lt) (c.low_words.ensures j lt)
