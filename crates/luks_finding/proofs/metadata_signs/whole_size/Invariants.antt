use Rattle.std.proofs.Common.{◌≡◌, ℕ, ◌*◌, true, length}
use Rattle.luks_area.specs.Device.{IsUnchanged}
use Rattle.luks2_header.specs.Sizes.{is_among, IsListed}
use Rattle.luks_finding.specs.Telling.{IsWholeAt}
use Rattle.luks_finding.proofs.metadata_signs.whole_size.Given as goal

-- each listed size of whole metadata is still to come
abbrev pub invariant-loop-left : goal.invariant-loop-left
invariant-loop-left g l = record {
  unchanged : IsUnchanged g.D.Device.tells g.D.Device.size g.D.Device.bytes g.D.Device.unsettled l.initial.device l.device;
  count : g.D.Device.failed l.device ≡ g.D.Device.failed l.initial.device;
  listed : (p : ℕ) → is_among p l.left ≡ true → IsListed p;
  left : g.D.Device.tells → (p : ℕ) → IsWholeAt (g.D.Device.bytes l.initial.device) (512 * l.header) p → is_among p l.left ≡ true;
}

abbrev pub decreases-loop-left : goal.decreases-loop-left
decreases-loop-left g l = length l.left
