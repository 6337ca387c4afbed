use Rattle.luks_vouching.proofs.AllPiecesFacts.{composed_of_pieces}
use Rattle.luks_vouching.proofs.laws.pieces_are_all.Goals as goal

pub returns : goal.returns
returns c = composed_of_pieces
