use Rattle.std.proofs.Common.{◌≡◌, ℕ, ◌+◌, List}
use Rattle.luks_area.specs.Device.{Touches}
use Rattle.luks_area.specs.Ranges.{IsAt}
use Rattle.luks_slot.specs.Writing.{ArePlaced, IsWriting}
use Rattle.luks_slot.proofs.area_writer.AreaWriter.write.Given as goal

-- no call has failed, the bytes so far are put, and none outside the area has changed
abbrev pub invariant-loop-j : goal.invariant-loop-j
invariant-loop-j g l = record {
  count : g.D.Device.failed l.device ≡ g.D.Device.failed l.initial.device;
  size : g.D.Device.size l.device ≡ g.D.Device.size l.initial.device;
  same_area : l.self.area ≡ l.initial.self.area;
  same_key : l.self.key ≡ l.initial.self.key;
  more : g.D.Device.tells → (wanted : List ℕ)
      → IsWriting l.initial.self (g.D.Device.bytes l.initial.device) wanted l.from
      → ArePlaced wanted l.from l.bytes
      → IsWriting l.self (g.D.Device.bytes l.device) wanted (l.from + l.j);
  touches : g.D.Device.tells
      → Touches g.D.Device.bytes g.D.Device.unsettled (IsAt l.initial.self.area.start l.initial.self.area.len) l.initial.device l.device;
}
