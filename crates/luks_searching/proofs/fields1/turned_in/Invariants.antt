use Rattle.std.proofs.Common.{◌≡◌, ℕ, ◌+◌, ◌<◌, ◌≤◌}
use Rattle.luks_area.specs.Device.{IsUnchanged}
use Rattle.luks_searching.specs.Fields1.{len_of, start_of}
use Rattle.luks_searching.specs.Headed.{OpensHeaded}
use Rattle.luks_trials.specs.Tallies.{Counts}
use Rattle.luks_trials.specs.Turned.{turned}
use Rattle.luks_searching.proofs.fields1.turned_in.Given as goal

-- no bit of the last bytes opens the keyslot
abbrev pub invariant-loop-behind : goal.invariant-loop-behind
invariant-loop-behind g l = record {
  unchanged : IsUnchanged g.D.Device.tells g.D.Device.size g.D.Device.bytes g.D.Device.unsettled l.initial.source l.source;
  count : g.D.Device.failed l.source ≡ g.D.Device.failed l.initial.source;
  counts : Counts l.initial.tally l.tally;
  shut : g.D.Device.tells → (place bit : ℕ) → place < start_of l.field l.n + len_of l.field → start_of l.field l.n + len_of l.field ≤ place + l.behind → bit < 8
      → OpensHeaded (g.D.Device.bytes l.initial.source) (turned l.sought.header.now place bit) l.sought.given.now l.sought.passphrase.now l.n → ⊥;
}
