use Rattle.std.proofs.Common.{arith}
use Rattle.luks_rounds.proofs.FirstWindow.{first_window_is}
use Rattle.luks_rounds.proofs.PairFacts.{below_two, word_fits}
use Rattle.luks_rounds.proofs.pair_rounds.first_window.Goals as goal

pub returns : goal.returns
returns c = below_two _
    (first_window_is _ _ _ _ _ _ _ _
    (word_fits c.args.a c.fits-a 0 (omega arith)) (word_fits c.args.b c.fits-b 0 (omega arith))
    (word_fits c.args.c c.fits-c 0 (omega arith)) (word_fits c.args.d c.fits-d 0 (omega arith))
    (word_fits c.args.e c.fits-e 0 (omega arith)) (word_fits c.args.f c.fits-f 0 (omega arith))
    (word_fits c.args.g c.fits-g 0 (omega arith)) (word_fits c.args.h c.fits-h 0 (omega arith)))
    (first_window_is _ _ _ _ _ _ _ _
    (word_fits c.args.a c.fits-a 1 (omega arith)) (word_fits c.args.b c.fits-b 1 (omega arith))
    (word_fits c.args.c c.fits-c 1 (omega arith)) (word_fits c.args.d c.fits-d 1 (omega arith))
    (word_fits c.args.e c.fits-e 1 (omega arith)) (word_fits c.args.f c.fits-f 1 (omega arith))
    (word_fits c.args.g c.fits-g 1 (omega arith)) (word_fits c.args.h c.fits-h 1 (omega arith)))
