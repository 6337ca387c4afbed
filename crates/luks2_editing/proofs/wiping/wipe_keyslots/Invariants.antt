-- The keyslots of the list so far are wiped, and the device hasn't failed.
use Rattle.std.proofs.Common.{◌≡◌, take}
use Rattle.luks_area.specs.Device.{IsSettled}
use Rattle.luks_area.specs.Ranges.{SameBut}
use Rattle.luks2_editing.specs.Wiping.{AreApart, AreWiped, IsOfKeyslots}
use Rattle.luks2_editing.proofs.wiping.wipe_keyslots.Given as goal

abbrev pub invariant-loop-entry : goal.invariant-loop-entry
invariant-loop-entry g l = record {
  size : g.D.Device.size l.device ≡ g.D.Device.size l.fn.device;
  count : g.D.Device.failed l.device ≡ g.D.Device.failed l.fn.device;
  settled : g.D.Device.tells → IsSettled g.D.Device.unsettled l.device;
  wiped : g.D.Device.tells → AreApart l.areas → AreWiped (take l.entry-index l.areas) (g.D.Device.bytes l.device);
  rest : g.D.Device.tells → SameBut (IsOfKeyslots (take l.entry-index l.areas)) (g.D.Device.bytes l.fn.device) (g.D.Device.bytes l.device);
}
