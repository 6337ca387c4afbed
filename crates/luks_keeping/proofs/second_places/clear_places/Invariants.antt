use Rattle.std.proofs.Common.{◌≡◌, ◌≤◌, ◌*◌, ℕ, slice_index}
use Rattle.luks_area.specs.Device.{IsSettled}
use Rattle.luks_area.specs.Ranges.{part, SameBut}
use Rattle.luks_keeping.specs.Clearing.{IsToClear}
use Rattle.luks_keeping.specs.SecondPlaces.{IsOfFirst}
use Rattle.luks_keeping.proofs.second_places.clear_places.Given as goal

-- the places from `left` sectors on are cleared, and what is before them is as it was
abbrev pub invariant-loop-left : goal.invariant-loop-left
invariant-loop-left g l = record {
  most : l.left ≤ 8193;
  inside : l.left * 512 ≤ l.limit;
  size : g.T.Device.size l.target ≡ g.T.Device.size l.initial.target;
  count : g.T.Device.failed l.target ≡ g.T.Device.failed l.initial.target;
  settled : g.T.Device.tells → IsSettled g.T.Device.unsettled l.target;
  rest : g.T.Device.tells → SameBut (IsOfFirst (IsToClear l.which (g.T.Device.bytes l.initial.target)) l.limit) (g.T.Device.bytes l.initial.target) (g.T.Device.bytes l.target);
  front : g.T.Device.tells → part (g.T.Device.bytes l.target) 0 (l.left * 512) ≡ part (g.T.Device.bytes l.initial.target) 0 (l.left * 512);
  gone : g.T.Device.tells → (p : ℕ) (x : IsOfFirst (IsToClear l.which (g.T.Device.bytes l.initial.target)) l.limit p) → l.left * 512 ≤ x.place → slice_index (g.T.Device.bytes l.target) p ≡ 0;
}

abbrev pub decreases-loop-left : goal.decreases-loop-left
decreases-loop-left g l = l.left
