use Rattle.std.proofs.Common.{◌≡◌, ℕ, ◌<◌, List}
use Rattle.luks_area.specs.Device.{IsUnchanged}
use Rattle.luks_meta.specs.Accepted.{IsMeta}
use Rattle.luks_meta.specs.Content.{content}
use Rattle.luks_trials.specs.Metadata.{IsMetaOf, OpensAt}
use Rattle.luks_trials.specs.Tallies.{Counts}
use Rattle.luks_trials.proofs.anew.first_anew.Given as goal

-- a keyslot before this one that opens by the new metadata opens by the old
abbrev pub invariant-loop-n : goal.invariant-loop-n
invariant-loop-n g l = record {
  unchanged : IsUnchanged g.D.Device.tells g.D.Device.size g.D.Device.bytes g.D.Device.unsettled l.initial.source l.source;
  count : g.D.Device.failed l.source ≡ g.D.Device.failed l.initial.source;
  counts : Counts l.initial.tally l.tally;
  shut : g.D.Device.tells → (old new : List ℕ) → IsMetaOf old l.standing → IsMeta new (content l.meta) → (n : ℕ) → n < l.n
      → OpensAt l.trying.allowed (g.D.Device.bytes l.initial.source) l.trying.passphrase.now new n
      → OpensAt l.trying.allowed (g.D.Device.bytes l.initial.source) l.trying.passphrase.now old n;
}
