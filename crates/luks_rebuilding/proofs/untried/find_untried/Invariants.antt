use Rattle.std.proofs.Common.{◌≡◌, length}
use Rattle.luks_area.specs.Device.{IsUnchanged}
use Rattle.luks_rebuilding.specs.Found.{AreCopies}
use Rattle.luks_rebuilding.specs.Untried.{IsUntried}
use Rattle.luks_rebuilding.proofs.VouchFacts.{Seeks}
use Rattle.luks_rebuilding.proofs.untried.find_untried.Given as goal

-- each that is sought is of a copy that is left
abbrev pub invariant-loop-copy : goal.invariant-loop-copy
invariant-loop-copy g l = record {
  unchanged : IsUnchanged g.D.Device.tells g.D.Device.size g.D.Device.bytes g.D.Device.unsettled l.initial.source l.source;
  count : g.D.Device.failed l.source ≡ g.D.Device.failed l.initial.source;
  copies : AreCopies l.left.items;
  seeks : g.D.Device.tells → Seeks (g.D.Device.bytes l.initial.source) (IsUntried (g.D.Device.bytes l.initial.source) l.which) l.left.items;
}

abbrev pub decreases-loop-copy : goal.decreases-loop-copy
decreases-loop-copy g l = length l.left.items
