use Rattle.std.proofs.Common.{◌≡◌, take}
use Rattle.std.specs.Prelude.{map}
use Rattle.luks_area.specs.Device.{IsUnchanged}
use Rattle.luks_signatures.specs.Signatures.{HasNone}
use Rattle.luks_signatures.specs.Views.{row_of}
use Rattle.luks_signatures.proofs.first.first_of.Given as goal

-- none of the rows before has its mark there, and the device is as it was
abbrev pub invariant-loop-row : goal.invariant-loop-row
invariant-loop-row g l = record {
  unchanged : IsUnchanged g.D.Device.tells g.D.Device.size g.D.Device.bytes g.D.Device.unsettled l.initial.device l.device;
  count : g.D.Device.failed l.device ≡ g.D.Device.failed l.initial.device;
  none : g.D.Device.tells → HasNone (take l.end (g.D.Device.bytes l.initial.device)) (map row_of (take l.row-index l.rows));
}
