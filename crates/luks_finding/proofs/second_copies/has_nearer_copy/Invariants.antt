use Rattle.std.proofs.Common.{◌≡◌, ℕ, true, length}
use Rattle.luks_area.specs.Device.{IsUnchanged}
use Rattle.luks2_header.specs.Header2.{IsSound}
use Rattle.luks2_header.specs.Sizes.{is_among, IsListed}
use Rattle.luks2_header.proofs.SecondCopyFacts.{is_rising}
use Rattle.luks_finding.specs.Starts.{volume_at}
use Rattle.luks_finding.proofs.second_copies.has_nearer_copy.Given as goal

-- each listed size of a sound copy is still to come
abbrev pub invariant-loop-left : goal.invariant-loop-left
invariant-loop-left g l = record {
  unchanged : IsUnchanged g.D.Device.tells g.D.Device.size g.D.Device.bytes g.D.Device.unsettled l.initial.device l.device;
  count : g.D.Device.failed l.device ≡ g.D.Device.failed l.initial.device;
  rising : is_rising l.left ≡ true;
  listed : (p : ℕ) → is_among p l.left ≡ true → IsListed p;
  left : g.D.Device.tells → (p : ℕ) → IsListed p → IsSound (volume_at (g.D.Device.bytes l.initial.device) l.start) p → is_among p l.left ≡ true;
}

abbrev pub decreases-loop-left : goal.decreases-loop-left
decreases-loop-left g l = length l.left
