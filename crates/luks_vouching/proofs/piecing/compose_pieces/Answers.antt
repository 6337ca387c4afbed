use Rattle.std.proofs.Common.{List, length, sym, ◌∙◌, subst}
use Rattle.luks_vouching.specs.Pieces.{AreInside}
use Rattle.luks_vouching.specs.declared.pieces.Piece.{Piece}
use Rattle.luks_vouching.proofs.PieceFacts.{pieces_inside}
use Rattle.luks_vouching.proofs.piecing.compose_pieces.Goals as goal

pub try_pieces-requires-clause-inside : goal.try_pieces-requires-clause-inside
try_pieces-requires-clause-inside g c =
    let I : List Piece → Type 0 = AreInside (length c.args.first.now) in
    subst I (sym (c.deref.ensures.0 ∙ c.in-Some.ensures.some)) (pieces_inside c.args.first.now c.args.second.now)
