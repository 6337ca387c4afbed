use Rattle.std.proofs.Common.{◌≡◌, ℕ, ◌<◌, List, true}
use Rattle.luks_area.specs.Device.{IsUnchanged}
use Rattle.luks_json.specs.AreaText.{Json}
use Rattle.luks_wider.specs.Underways.{content}
use Rattle.luks_wide_reading.specs.Trying.{is_of_rank, UnderwayStaysShut}
use Rattle.luks_wide_reading.proofs.trying.try_rank.Given as goal

-- none of the rank's keyslots before this one opens
abbrev pub invariant-loop-n : goal.invariant-loop-n
invariant-loop-n g l = record {
  unchanged : IsUnchanged g.D.Device.tells g.D.Device.size g.D.Device.bytes g.D.Device.unsettled l.initial.device l.device;
  count : g.D.Device.failed l.device ≡ g.D.Device.failed l.initial.device;
  shut : g.D.Device.tells → (json : List ℕ) → Json json (content l.copy.meta)
      → (m : ℕ) → m < l.n → is_of_rank l.rank (content l.copy.meta) m ≡ true → UnderwayStaysShut l.allowed json (g.D.Device.bytes l.initial.device) l.passphrase m;
}
