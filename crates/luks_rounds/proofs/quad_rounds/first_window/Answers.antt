use Rattle.std.proofs.Common.{◌<◌, ℕ, arith}
use Rattle.luks_rounds.proofs.FirstWindow.{below_four}
use Rattle.luks_rounds.proofs.VectorFacts.{word_fits}
use Rattle.luks_rounds.proofs.Sha1Window.{five_window_is}
use Rattle.luks_rounds.proofs.quad_rounds.first_window.Goals as goal

pub returns : goal.returns
returns c =
    let fits = λ (j : ℕ) (lt : j < 4).
    five_window_is _ _ _ _ _ (word_fits c.args.a c.fits-a j lt) (word_fits c.args.b c.fits-b j lt) (word_fits c.args.c c.fits-c j lt)
    (word_fits c.args.d c.fits-d j lt) (word_fits c.args.e c.fits-e j lt) in
    below_four _ (fits 0 (omega arith)) (fits 1 (omega arith)) (fits 2 (omega arith)) (fits 3 (omega arith))
