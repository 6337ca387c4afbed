use Rattle.luks_rounds.proofs.Sha1Window.{five_words}
use Rattle.luks_rounds.proofs.single_sha1_rounds.compress.Goals as goal

pub returns : goal.returns
returns c = c.compress_window.ensures _ (rw (five_words c.args.words.now) at c.first_window-w.ensures)
