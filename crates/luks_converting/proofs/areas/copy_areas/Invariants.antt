use Rattle.std.proofs.Common.{◌≡◌, ◌<◌, ℕ, true}
use Rattle.luks_area.specs.Device.{IsSettled, IsUnchanged}
use Rattle.luks_area.specs.Ranges.{SameBut}
use Rattle.luks_converting.specs.Converted.{HasCopiedArea, IsOfNewArea}
use Rattle.luks_converting.specs.Source.{is_enabled}
use Rattle.luks_converting.proofs.areas.copy_areas.Given as goal

-- the areas of the keyslots before this one are copied
abbrev pub invariant-loop-n : goal.invariant-loop-n
invariant-loop-n g l = record {
  kept : IsUnchanged g.S.Device.tells g.S.Device.size g.S.Device.bytes g.S.Device.unsettled l.initial.source l.source;
  size : g.T.Device.size l.target ≡ g.T.Device.size l.initial.target;
  source_count : g.S.Device.failed l.source ≡ g.S.Device.failed l.initial.source;
  count : g.T.Device.failed l.target ≡ g.T.Device.failed l.initial.target;
  settled : g.T.Device.tells → IsSettled g.T.Device.unsettled l.target;
  copied : g.S.Device.tells → g.T.Device.tells → (m : ℕ) → m < l.n → is_enabled l.header.bytes m ≡ true
      → HasCopiedArea l.header.bytes (g.S.Device.bytes l.initial.source) m (g.T.Device.bytes l.target);
  rest : g.T.Device.tells → SameBut (IsOfNewArea l.header.bytes) (g.T.Device.bytes l.initial.target) (g.T.Device.bytes l.target);
}
