use Rattle.std.proofs.Common.{arith, refl}
use Rattle.luks_rounds.proofs.PairFacts.{two_rotated, word_fits}
use Rattle.luks_rounds.proofs.pair.small_sigma0.Goals as goal

pub returns : goal.returns
returns c = λ j lt.
    let rotations = two_rotated c.doubled-d.result c.doubled-d.ensures.two _ 7 18 j _ lt (word_fits c.args.x c.fits-x j lt)
    (omega arith) (omega arith) (c.doubled-d.ensures.twice j lt) (c.low_words-rotated.ensures j lt) in
    rw (c.xor.ensures j lt, c.shifted.ensures j lt, rotations) refl
