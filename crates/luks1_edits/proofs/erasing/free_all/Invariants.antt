use Rattle.std.proofs.Common.{◌≡◌}
use Rattle.luks_area.specs.Device.{IsSettled}
use Rattle.luks1_edits.specs.Accepted.{IsHeaderOf}
use Rattle.luks1_edits.specs.Edited.{AreRemoved}
use Rattle.luks1_edits.proofs.erasing.free_all.Given as goal

-- the keyslots before this one are removed
abbrev pub invariant-loop-n : goal.invariant-loop-n
invariant-loop-n g l = record {
  size : g.D.Device.size l.device ≡ g.D.Device.size l.initial.device;
  count : g.D.Device.failed l.device ≡ g.D.Device.failed l.initial.device;
  settled : g.D.Device.tells → IsSettled g.D.Device.unsettled l.device;
  removed : g.D.Device.tells → IsHeaderOf l.header.bytes.now l.header.payload (g.D.Device.bytes l.initial.device)
      → AreRemoved l.n (g.D.Device.bytes l.initial.device) (g.D.Device.bytes l.device);
}
