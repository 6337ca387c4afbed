use Rattle.std.proofs.Common.{◌≡◌, ◌≤◌, length}
use Rattle.luks_area.specs.Device.{IsSettled, IsUnchanged}
use Rattle.luks_area.specs.Ranges.{SameBut}
use Rattle.luks_keeping.specs.Places.{IsOfAreas}
use Rattle.luks_keeping.specs.ReadPlaces.{LeavesAreas}
use Rattle.luks_keeping.proofs.reading_on.rescue_areas.Given as goal

-- the areas of the keyslots before this one are copied as far as they can be read
abbrev pub invariant-loop-n : goal.invariant-loop-n
invariant-loop-n g l = record {
  kept : IsUnchanged g.S.Device.tells g.S.Device.size g.S.Device.bytes g.S.Device.unsettled l.initial.source l.source;
  size : g.T.Device.size l.target ≡ g.T.Device.size l.initial.target;
  count : g.T.Device.failed l.target ≡ g.T.Device.failed l.initial.target;
  failing : g.S.Device.failed l.initial.source ≤ g.S.Device.failed l.source;
  settled : g.T.Device.tells → IsSettled g.T.Device.unsettled l.target;
  long : length l.keyslots ≡ 32;
  left : LeavesAreas (g.S.Device.tells × g.T.Device.tells) l.places l.n (g.S.Device.bytes l.initial.source) (g.T.Device.bytes l.target)
      (g.S.Device.failed l.initial.source) (g.S.Device.failed l.source) l.keyslots;
  rest : g.T.Device.tells → SameBut (IsOfAreas l.places) (g.T.Device.bytes l.initial.target) (g.T.Device.bytes l.target);
}
