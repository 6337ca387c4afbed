use Rattle.std.proofs.Common.{◌≡◌, ◌≤◌, length}
use Rattle.luks_area.specs.Device.{IsUnchanged}
use Rattle.luks_notes.specs.Hashed.{IsOfCommand}
use Rattle.luks_notes.proofs.SizeFacts.{AreListed}
use Rattle.luks_notes.proofs.further.say_sizes.Given as goal

-- nothing has changed, no call has failed, and what was hashed was counted
abbrev pub invariant-loop-left : goal.invariant-loop-left
invariant-loop-left g l = record {
  unchanged : IsUnchanged g.D.Device.tells g.D.Device.size g.D.Device.bytes g.D.Device.unsettled l.initial.device l.device;
  count : g.D.Device.failed l.device ≡ g.D.Device.failed l.initial.device;
  of_command : IsOfCommand l.hashing;
  more : l.initial.hashing.hashed ≤ l.hashing.hashed;
  listed : AreListed l.left;
}

abbrev pub decreases-loop-left : goal.decreases-loop-left
decreases-loop-left g l = length l.left
