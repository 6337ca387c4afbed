use Rattle.std.proofs.Common.{◌≡◌, ℕ, ◌<◌}
use Rattle.luks_area.specs.Device.{IsUnchanged}
use Rattle.luks_searching.specs.Found1.{OpensNoneIn}
use Rattle.luks_trials.specs.Tallies.{Counts}
use Rattle.luks_searching.proofs.searching1.by_field.Given as goal

-- no keyslot before this one opens
abbrev pub invariant-loop-n : goal.invariant-loop-n
invariant-loop-n g l = record {
  unchanged : IsUnchanged g.D.Device.tells g.D.Device.size g.D.Device.bytes g.D.Device.unsettled l.initial.source l.source;
  count : g.D.Device.failed l.source ≡ g.D.Device.failed l.initial.source;
  counts : Counts l.initial.tally l.tally;
  shut : g.D.Device.tells → (n : ℕ) → n < l.n → OpensNoneIn (g.D.Device.bytes l.initial.source) l.sought.header.now l.sought.given.now l.sought.passphrase.now n l.field;
}
