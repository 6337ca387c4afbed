use Rattle.std.proofs.Common.{◌≡◌, ℕ, ◌<◌, slice_index_or}
use Rattle.luks_area.specs.Device.{IsUnchanged}
use Rattle.luks_searching.specs.Found1.{OpensNoneIn}
use Rattle.luks_trials.specs.Tallies.{Counts}
use Rattle.luks_searching.specs.declared.fields1.Field.TheVariants.{KeyBytes}
use Rattle.luks_searching.specs.declared.searching1.TheConstants.{FIELDS}
use Rattle.luks_searching.proofs.searching1.by_fields.Given as goal

-- no header of which a bit of a field before this one is turned opens a keyslot
abbrev pub invariant-loop-field : goal.invariant-loop-field
invariant-loop-field g l = record {
  unchanged : IsUnchanged g.D.Device.tells g.D.Device.size g.D.Device.bytes g.D.Device.unsettled l.initial.source l.source;
  count : g.D.Device.failed l.source ≡ g.D.Device.failed l.initial.source;
  counts : Counts l.initial.tally l.tally;
  shut : g.D.Device.tells → (k n : ℕ) → k < l.field-index → n < 8
      → OpensNoneIn (g.D.Device.bytes l.initial.source) l.sought.header.now l.sought.given.now l.sought.passphrase.now n (slice_index_or FIELDS k KeyBytes);
}
