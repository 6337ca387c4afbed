use Rattle.std.proofs.Common.{◌≡◌, ℕ, ◌<◌}
use Rattle.luks_area.specs.Device.{IsUnchanged}
use Rattle.luks1_mending.specs.declared.given.Given.{Given as TheGiven}
use Rattle.luks1_rebuilding.specs.Openings.{OpensBy}
use Rattle.luks1_rebuilding.specs.Tried.{IsMadeOf}
use Rattle.luks1_rebuilding.proofs.trial.opening.first_slot.Given as goal

-- no keyslot before this one opens
abbrev pub invariant-loop-n : goal.invariant-loop-n
invariant-loop-n g l = record {
  unchanged : IsUnchanged g.D.Device.tells g.D.Device.size g.D.Device.bytes g.D.Device.unsettled l.initial.source l.source;
  count : g.D.Device.failed l.source ≡ g.D.Device.failed l.initial.source;
  shut : g.D.Device.tells → (given : TheGiven) → IsMadeOf (g.D.Device.bytes l.initial.source) given l.made
      → (m : ℕ) → m < l.n → OpensBy (g.D.Device.bytes l.initial.source) given l.passphrase m → ⊥;
}
