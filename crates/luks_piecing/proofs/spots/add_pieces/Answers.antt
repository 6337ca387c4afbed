use Rattle.std.proofs.Common.{◌∙◌}
use Rattle.luks_area.specs.Device.{unchanged-then}
use Rattle.luks_piecing.proofs.spots.add_pieces.Goals as goal

pub loop-piece-preserved : goal.loop-piece-preserved
loop-piece-preserved g c = record {
  unchanged = unchanged-then c.loop-piece.invariant.unchanged c.add_piece.ensures.unchanged;
  count = c.in_ok-add_piece.ensures.count ∙ c.loop-piece.invariant.count;
  long = c.add_piece.ensures.long ∙ c.loop-piece.invariant.long;
}

pub returns-in_err-add_piece-clause-unchanged : goal.returns-in_err-add_piece-clause-unchanged
returns-in_err-add_piece-clause-unchanged g c = unchanged-then c.loop-piece.invariant.unchanged c.add_piece.ensures.unchanged
