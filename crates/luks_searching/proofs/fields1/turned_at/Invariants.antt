use Rattle.std.proofs.Common.{◌≡◌, ℕ, ◌<◌}
use Rattle.luks_area.specs.Device.{IsUnchanged}
use Rattle.luks_searching.specs.Headed.{OpensHeaded}
use Rattle.luks_trials.specs.Tallies.{Counts}
use Rattle.luks_trials.specs.Turned.{turned}
use Rattle.luks_searching.proofs.fields1.turned_at.Given as goal

-- no bit before this one opens the keyslot
abbrev pub invariant-loop-bit : goal.invariant-loop-bit
invariant-loop-bit g l = record {
  unchanged : IsUnchanged g.D.Device.tells g.D.Device.size g.D.Device.bytes g.D.Device.unsettled l.initial.source l.source;
  count : g.D.Device.failed l.source ≡ g.D.Device.failed l.initial.source;
  counts : Counts l.initial.tally l.tally;
  shut : g.D.Device.tells → (bit : ℕ) → bit < l.bit
      → OpensHeaded (g.D.Device.bytes l.initial.source) (turned l.sought.header.now l.place bit) l.sought.given.now l.sought.passphrase.now l.n → ⊥;
}
