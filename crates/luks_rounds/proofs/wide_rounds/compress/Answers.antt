use Rattle.luks_rounds.proofs.WideWindow.{eight_words}
use Rattle.luks_rounds.proofs.wide_rounds.compress.Goals as goal

pub returns : goal.returns
returns c = c.compress_window.ensures _ (rw (eight_words c.args.words.now) at c.first_window-w.ensures)
