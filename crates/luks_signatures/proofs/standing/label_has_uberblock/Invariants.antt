use Rattle.std.proofs.Common.{◌≡◌, ℕ, ◌+◌, ◌*◌, ◌<◌, take}
use Rattle.luks_area.specs.Device.{IsUnchanged}
use Rattle.luks_signatures.specs.Signatures.{IsUberblock}
use Rattle.luks_signatures.proofs.standing.label_has_uberblock.Given as goal

-- none of the places before has an uberblock, and the device is as it was
abbrev pub invariant-loop-k : goal.invariant-loop-k
invariant-loop-k g l = record {
  unchanged : IsUnchanged g.D.Device.tells g.D.Device.size g.D.Device.bytes g.D.Device.unsettled l.initial.device l.device;
  count : g.D.Device.failed l.device ≡ g.D.Device.failed l.initial.device;
  none : g.D.Device.tells → (k : ℕ) → k < l.k → IsUberblock (take l.end (g.D.Device.bytes l.initial.device)) (l.start + 131072 + 1024 * k) → ⊥;
}
