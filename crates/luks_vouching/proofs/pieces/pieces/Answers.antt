use Rattle.std.proofs.Common.{◌∙◌, ◌/◌, ◌++◌, ◌<◌, length, ap, sym, arith, subst}
use Rattle.luks_vouching.specs.Pieces.{pieces_in}
use Rattle.luks_vouching.proofs.PieceFacts.{no_room_for_all, pieces_more}
use Rattle.luks_vouching.proofs.pieces.pieces.Goals as goal

pub returns-then-not-add_pieces-clause-none : goal.returns-then-not-add_pieces-clause-none
returns-then-not-add_pieces-clause-none c = λ is.
    no_room_for_all c.args.first.now c.args.second.now c.loop-k.k (length c.args.first.now / 512) (omega arith)
    (subst (λ l. 32 < length (l ++ pieces_in c.args.first.now c.args.second.now c.loop-k.k)) c.loop-k.invariant (c.add_pieces.ensures.full c.if-not-add_pieces.true))

pub loop-k-preserved : goal.loop-k-preserved
loop-k-preserved c =
    c.add_pieces.ensures.added c.if-not-add_pieces.false ∙ ap (λ l. l ++ pieces_in c.args.first.now c.args.second.now c.loop-k.k) c.loop-k.invariant
    ∙ sym (pieces_more c.args.first.now c.args.second.now c.loop-k.k)
