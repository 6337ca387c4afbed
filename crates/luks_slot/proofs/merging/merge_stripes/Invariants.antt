use Rattle.std.proofs.Common.{◌≡◌, ◌*◌}
use Rattle.luks_area.specs.Device.{IsUnchanged}
use Rattle.luks_kdf.specs.KeyslotNames.{keyslot_digest, keyslot_digest_size}
use Rattle.luks_kdf.specs.Splitter.{mixed}
use Rattle.luks_slot.specs.Opening.{area_bytes, stripes_from}
use Rattle.luks_slot.specs.Reading.{IsReading}
use Rattle.luks_slot.proofs.merging.merge_stripes.Given as goal

-- no call has failed; the next stripe is the next to be read, and those so far are mixed
abbrev pub invariant-loop-i : goal.invariant-loop-i
invariant-loop-i g l = record {
  count : g.D.Device.failed l.device ≡ g.D.Device.failed l.initial.device;
  unchanged : IsUnchanged g.D.Device.tells g.D.Device.size g.D.Device.bytes g.D.Device.unsettled l.initial.device l.device;
  same_area : l.reader.area ≡ l.initial.reader.area;
  same_key : l.reader.key ≡ l.initial.reader.key;
  reading : g.D.Device.tells → IsReading l.reader (g.D.Device.bytes l.device) (l.i * l.len);
  block : g.D.Device.tells → l.block ≡ mixed (keyslot_digest l.hash) (keyslot_digest_size l.hash) l.len
      (stripes_from l.initial.reader.key (area_bytes (g.D.Device.bytes l.initial.device) l.initial.reader.area) l.len l.stripes) l.i;
}
