use Rattle.std.proofs.Common.{◌-◌, ◌≡◌, ◌≤◌, take}
use Rattle.luks_area.specs.Ranges.{part}
use Rattle.luks_area.specs.Device.{IsUnchanged}
use Rattle.luks2_header.specs.Header2.{with_zero_checksum}
use Rattle.sha2.specs.Hashers.{Holds256}
use Rattle.luks_finding.proofs.second_copies.digest_of_copy.Given as goal

-- the hasher holds the bytes before `done`, and the device is as it was
abbrev pub invariant-loop-done : goal.invariant-loop-done
invariant-loop-done g l = record {
  past : 4096 ≤ l.done;
  below : l.done ≤ l.size;
  unchanged : IsUnchanged g.D.Device.tells g.D.Device.size g.D.Device.bytes g.D.Device.unsettled l.initial.device l.device;
  count : g.D.Device.failed l.device ≡ g.D.Device.failed l.initial.device;
  fed : g.D.Device.tells
      → Holds256 l.hasher (take l.done (with_zero_checksum (part (g.D.Device.bytes l.initial.device) l.at l.size)));
}

abbrev pub decreases-loop-done : goal.decreases-loop-done
decreases-loop-done g l = l.size - l.done
