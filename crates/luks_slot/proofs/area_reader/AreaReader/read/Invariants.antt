use Rattle.std.proofs.Common.{◌≡◌, ℕ, ◌<◌, ◌+◌, get_or}
use Rattle.luks_area.specs.Device.{IsUnchanged}
use Rattle.luks_slot.specs.Opening.{area_bytes}
use Rattle.luks_slot.specs.Reading.{plain_byte, IsReading}
use Rattle.luks_slot.proofs.area_reader.AreaReader.read.Given as goal

-- no call has failed, and the bytes so far are the decrypted ones
abbrev pub invariant-loop-j : goal.invariant-loop-j
invariant-loop-j g l = record {
  count : g.D.Device.failed l.device ≡ g.D.Device.failed l.initial.device;
  unchanged : IsUnchanged g.D.Device.tells g.D.Device.size g.D.Device.bytes g.D.Device.unsettled l.initial.device l.device;
  same_area : l.self.area ≡ l.initial.self.area;
  same_key : l.self.key ≡ l.initial.self.key;
  reading : g.D.Device.tells → IsReading l.self (g.D.Device.bytes l.device) (l.from + l.j);
  each : g.D.Device.tells → (k : ℕ) → k < l.j → get_or l.out k 0
      ≡ plain_byte l.initial.self.key (area_bytes (g.D.Device.bytes l.initial.device) l.initial.self.area) (l.from + k);
}
