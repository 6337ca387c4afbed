use Rattle.std.proofs.Common.{◌≡◌, length}
use Rattle.luks_area.specs.Device.{IsUnchanged}
use Rattle.luks_piecing.proofs.spots.add_pieces.Given as goal

-- the source is as it was, and the room for a piece has its length
abbrev pub invariant-loop-piece : goal.invariant-loop-piece
invariant-loop-piece g l = record {
  unchanged : IsUnchanged g.D.Device.tells g.D.Device.size g.D.Device.bytes g.D.Device.unsettled l.initial.source l.source;
  count : g.D.Device.failed l.source ≡ g.D.Device.failed l.initial.source;
  long : length l.bytes ≡ 1048576;
}
