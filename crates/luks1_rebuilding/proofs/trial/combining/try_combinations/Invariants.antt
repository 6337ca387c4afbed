use Rattle.std.proofs.Common.{◌≡◌}
use Rattle.luks_area.specs.Device.{IsUnchanged}
use Rattle.luks1_rebuilding.specs.Openings.{OpensNoneBelow}
use Rattle.luks1_rebuilding.proofs.trial.combining.try_combinations.Given as goal

-- no combination before this one opens a keyslot
abbrev pub invariant-loop-number : goal.invariant-loop-number
invariant-loop-number g l = record {
  unchanged : IsUnchanged g.D.Device.tells g.D.Device.size g.D.Device.bytes g.D.Device.unsettled l.initial.source l.source;
  count : g.D.Device.failed l.source ≡ g.D.Device.failed l.initial.source;
  shut : g.D.Device.tells → OpensNoneBelow (g.D.Device.bytes l.initial.source) l.given l.passphrase l.number;
}
