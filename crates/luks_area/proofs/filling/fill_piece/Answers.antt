use Rattle.std.proofs.lemmas.List.{take-replicate}
use Rattle.luks_area.proofs.filling.fill_piece.Goals as goal

pub returns-clause-filled : goal.returns-clause-filled
returns-clause-filled g c = λ tells. rw (take-replicate c.args.len 512 c.args.byte c.requires.piece) at (c.write_at.ensures.wrote tells)
