use Rattle.std.proofs.Common.{◌≡◌, ◌+◌, ◌≤◌, length}
use Rattle.luks_area.specs.Device.{IsUnchanged}
use Rattle.luks_rebuilding.specs.Found.{AreCopies}
use Rattle.luks_rebuilding.proofs.StandingFacts.{AreRight, Gathers}
use Rattle.luks_rebuilding.proofs.standing.standing_copies.Given as goal

-- the copies at the places so far were found, and there is room for those that are left
abbrev pub invariant-loop-left : goal.invariant-loop-left
invariant-loop-left g l = record {
  unchanged : IsUnchanged g.D.Device.tells g.D.Device.size g.D.Device.bytes g.D.Device.unsettled l.initial.source l.source;
  count : g.D.Device.failed l.source ≡ g.D.Device.failed l.initial.source;
  right : AreRight l.left;
  room : length l.found.items + length l.left ≤ 18;
  copies : AreCopies l.found.items;
  gathers : g.D.Device.tells → Gathers (g.D.Device.bytes l.initial.source) l.left l.found.items;
}

abbrev pub decreases-loop-left : goal.decreases-loop-left
decreases-loop-left g l = length l.left
