use Rattle.std.proofs.Common.{◌≡◌, ℕ, ◌<◌}
use Rattle.luks_area.specs.Device.{IsUnchanged}
use Rattle.luks_trials.specs.Metadata.{OpensAt}
use Rattle.luks_trials.specs.Tallies.{Counts}
use Rattle.luks2_searching.proofs.standing.as_it_stands.Given as goal

-- no keyslot before this one opens
abbrev pub invariant-loop-n : goal.invariant-loop-n
invariant-loop-n g l = record {
  unchanged : IsUnchanged g.D.Device.tells g.D.Device.size g.D.Device.bytes g.D.Device.unsettled l.initial.source l.source;
  count : g.D.Device.failed l.source ≡ g.D.Device.failed l.initial.source;
  counts : Counts l.initial.tally l.tally;
  shut : g.D.Device.tells → (n : ℕ) → n < l.n → OpensAt l.trying.allowed (g.D.Device.bytes l.initial.source) l.trying.passphrase.now l.json n → ⊥;
}
