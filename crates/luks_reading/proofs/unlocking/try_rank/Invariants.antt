use Rattle.std.proofs.Common.{◌≡◌, ℕ, ◌<◌, List, true}
use Rattle.luks_area.specs.Device.{IsUnchanged}
use Rattle.luks2_header.specs.Header2.{uuid_field}
use Rattle.luks_meta.specs.Content.{content}
use Rattle.luks_reading.specs.ChosenCopies.{IsCleared}
use Rattle.luks_reading.specs.KeyslotsTried.{is_of_rank, Luks2DoesNotOpen}
use Rattle.luks_reading.proofs.unlocking.try_rank.Given as goal

-- none of the rank's keyslots before this one opens
abbrev pub invariant-loop-n : goal.invariant-loop-n
invariant-loop-n g l = record {
  unchanged : IsUnchanged g.D.Device.tells g.D.Device.size g.D.Device.bytes g.D.Device.unsettled l.initial.device l.device;
  count : g.D.Device.failed l.device ≡ g.D.Device.failed l.initial.device;
  shut : g.D.Device.tells → (b json : List ℕ) → IsCleared (uuid_field b) json (content l.meta)
      → (m : ℕ) → m < l.n → is_of_rank l.rank (content l.meta) m ≡ true → Luks2DoesNotOpen l.allowed b json (g.D.Device.bytes l.initial.device) l.passphrase m;
}
