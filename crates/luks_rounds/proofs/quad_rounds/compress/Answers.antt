use Rattle.luks_rounds.proofs.quad_rounds.compress.Goals as goal

pub returns : goal.returns
returns c = λ j lt. c.compress_window.ensures j _ lt (c.first_window-w.ensures j lt)
