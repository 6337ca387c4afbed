use Rattle.std.proofs.Common.{◌-◌, ◌%◌, ◌≡◌, ◌≤◌, take}
use Rattle.luks_area.specs.Device.{IsUnchanged}
use Rattle.luks_area.specs.Ranges.{part}
use Rattle.luks_lanes.specs.PairHasher.{HoldsPair}
use Rattle.luks2_header.specs.Header2.{with_zero_checksum}
use Rattle.luks2_header.proofs.both_copies.digests_from.Given as goal

-- the hasher holds the bytes before `done` of both copies, and the device is as it was
abbrev pub invariant-loop-done : goal.invariant-loop-done
invariant-loop-done g l = record {
  past : 16384 ≤ l.done;
  below : l.done ≤ l.size;
  whole : l.done % 64 ≡ 0;
  unchanged : IsUnchanged g.D.Device.tells g.D.Device.size g.D.Device.bytes g.D.Device.unsettled l.initial.device l.device;
  count : g.D.Device.failed l.device ≡ g.D.Device.failed l.initial.device;
  fed : g.D.Device.tells
      → HoldsPair l.hasher (take l.done (with_zero_checksum (part (g.D.Device.bytes l.initial.device) 0 l.size)))
      (take l.done (with_zero_checksum (part (g.D.Device.bytes l.initial.device) l.size l.size)));
}

abbrev pub decreases-loop-done : goal.decreases-loop-done
decreases-loop-done g l = l.size - l.done
