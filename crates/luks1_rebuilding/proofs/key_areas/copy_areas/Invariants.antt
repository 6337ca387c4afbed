use Rattle.std.proofs.Common.{◌≡◌, ◌<◌, ℕ}
use Rattle.luks_area.specs.Device.{IsSettled, IsUnchanged}
use Rattle.luks_area.specs.Ranges.{part, SameBut}
use Rattle.luks_area.specs.declared.area.Area.{Area}
use Rattle.luks1_rebuilding.specs.Used.{IsOfUsedAreas, IsUsedArea}
use Rattle.luks1_rebuilding.proofs.key_areas.copy_areas.Given as goal

-- the areas of the keyslots before this one are copied
abbrev pub invariant-loop-n : goal.invariant-loop-n
invariant-loop-n g l = record {
  kept : IsUnchanged g.S.Device.tells g.S.Device.size g.S.Device.bytes g.S.Device.unsettled l.initial.source l.source;
  size : g.T.Device.size l.target ≡ g.T.Device.size l.initial.target;
  source_count : g.S.Device.failed l.source ≡ g.S.Device.failed l.initial.source;
  count : g.T.Device.failed l.target ≡ g.T.Device.failed l.initial.target;
  settled : g.T.Device.tells → IsSettled g.T.Device.unsettled l.target;
  copied : g.S.Device.tells → g.T.Device.tells → (m : ℕ) (a : Area) → m < l.n → IsUsedArea l.fields m a
      → part (g.T.Device.bytes l.target) a.start a.len ≡ part (g.S.Device.bytes l.initial.source) a.start a.len;
  rest : g.T.Device.tells → SameBut (IsOfUsedAreas l.fields) (g.T.Device.bytes l.initial.target) (g.T.Device.bytes l.target);
}
