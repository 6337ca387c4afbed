use Rattle.std.proofs.Common.{◌≡◌, ℕ, ◌<◌}
use Rattle.luks_area.specs.Device.{IsUnchanged}
use Rattle.luks_trials.specs.Metadata.{AddsNone}
use Rattle.luks_trials.specs.Tallies.{Counts}
use Rattle.luks_trials.specs.Turned.{turned}
use Rattle.luks2_searching.proofs.bits.by_bits_at.Given as goal

-- no bit before this one, turned, opens a keyslot anew
abbrev pub invariant-loop-bit : goal.invariant-loop-bit
invariant-loop-bit g l = record {
  unchanged : IsUnchanged g.D.Device.tells g.D.Device.size g.D.Device.bytes g.D.Device.unsettled l.initial.source l.source;
  count : g.D.Device.failed l.source ≡ g.D.Device.failed l.initial.source;
  counts : Counts l.initial.tally l.tally;
  same : l.json ≡ l.initial.json;
  shut : g.D.Device.tells → (bit : ℕ) → bit < l.bit
      → AddsNone l.trying.allowed (g.D.Device.bytes l.initial.source) l.trying.passphrase.now l.initial.json (turned l.initial.json l.at bit);
}
