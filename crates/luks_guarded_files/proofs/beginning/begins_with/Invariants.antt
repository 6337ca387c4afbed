use Rattle.std.proofs.Common.{◌-◌, ◌≡◌, ◌≤◌, length, take}
use Rattle.luks_area.specs.Device.{IsUnchanged}
use Rattle.luks_area.specs.Ranges.{part}
use Rattle.luks_guarded_files.proofs.beginning.begins_with.Given as goal

-- the bytes before `done` are the device's, which is as it was
abbrev pub invariant-loop-done : goal.invariant-loop-done
invariant-loop-done g l = record {
  below : l.done ≤ length l.bytes;
  unchanged : IsUnchanged g.D.Device.tells g.D.Device.size g.D.Device.bytes g.D.Device.unsettled l.initial.device l.device;
  count : g.D.Device.failed l.device ≡ g.D.Device.failed l.initial.device;
  same : g.D.Device.tells → take l.done l.bytes ≡ part (g.D.Device.bytes l.initial.device) 0 l.done;
}

abbrev pub decreases-loop-done : goal.decreases-loop-done
decreases-loop-done g l = length l.bytes - l.done
