use Rattle.std.proofs.Common.{◌≡◌, ◌<◌, ℕ, length, slice_index_or}
use Rattle.luks_area.specs.Device.{IsUnchanged}
use Rattle.luks_keeping.specs.declared.comparison.Keeping.TheVariants.{Absent}
use Rattle.luks_wider.specs.Underways.{content}
use Rattle.luks_wide_keeping.specs.Compared.{IsKeptSo}
use Rattle.luks_wide_keeping.proofs.comparing.compare_underway.Given as goal

-- the keyslots before this one are judged
abbrev pub invariant-loop-n : goal.invariant-loop-n
invariant-loop-n g l = record {
  kept : IsUnchanged g.B.Device.tells g.B.Device.size g.B.Device.bytes g.B.Device.unsettled l.initial.backup l.backup;
  unchanged : IsUnchanged g.T.Device.tells g.T.Device.size g.T.Device.bytes g.T.Device.unsettled l.initial.target l.target;
  backup_count : g.B.Device.failed l.backup ≡ g.B.Device.failed l.initial.backup;
  count : g.T.Device.failed l.target ≡ g.T.Device.failed l.initial.target;
  long : length l.keyslots ≡ 32;
  before : g.B.Device.tells → g.T.Device.tells → (k : ℕ) → k < l.n
      → IsKeptSo (g.B.Device.bytes l.initial.backup) (g.T.Device.bytes l.initial.target) (content l.copy.meta) k (slice_index_or l.keyslots k Absent);
}
