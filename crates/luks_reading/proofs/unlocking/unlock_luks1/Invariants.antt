use Rattle.std.proofs.Common.{◌≡◌, ℕ, ◌<◌}
use Rattle.luks_area.specs.Device.{IsUnchanged}
use Rattle.luks_reading.specs.KeyslotsTried.{Luks1DoesNotOpen}
use Rattle.luks_reading.proofs.unlocking.unlock_luks1.Given as goal

-- none of the keyslots before this one opens
abbrev pub invariant-loop-n : goal.invariant-loop-n
invariant-loop-n g l = record {
  unchanged : IsUnchanged g.D.Device.tells g.D.Device.size g.D.Device.bytes g.D.Device.unsettled l.initial.device l.device;
  count : g.D.Device.failed l.device ≡ g.D.Device.failed l.initial.device;
  shut : g.D.Device.tells → (m : ℕ) → m < l.n → Luks1DoesNotOpen l.older l.header (g.D.Device.bytes l.initial.device) l.passphrase m;
}
