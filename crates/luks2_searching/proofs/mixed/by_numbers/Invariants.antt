use Rattle.std.proofs.Common.{◌≡◌, ℕ, ◌<◌}
use Rattle.luks_area.specs.Device.{IsUnchanged}
use Rattle.luks_trials.specs.Metadata.{AddsNone}
use Rattle.luks_trials.specs.Tallies.{Counts}
use Rattle.luks2_searching.specs.Mixed.{mixed}
use Rattle.luks2_searching.proofs.mixed.by_numbers.Given as goal

-- no composition of a lesser number opens a keyslot anew
abbrev pub invariant-loop-number : goal.invariant-loop-number
invariant-loop-number g l = record {
  unchanged : IsUnchanged g.D.Device.tells g.D.Device.size g.D.Device.bytes g.D.Device.unsettled l.initial.source l.source;
  count : g.D.Device.failed l.source ≡ g.D.Device.failed l.initial.source;
  counts : Counts l.initial.tally l.tally;
  shut : g.D.Device.tells → (n : ℕ) → n < l.number
      → AddsNone l.trying.allowed (g.D.Device.bytes l.initial.source) l.trying.passphrase.now l.first (mixed l.second l.places n l.first);
}
