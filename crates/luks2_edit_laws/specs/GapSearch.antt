-- The search for the least gap: words of private contracts.
use Rattle.std.specs.Prelude.{◌≡◌, ℕ, ◌+◌, ◌*◌, ◌<◌, ◌≤◌}
use Rattle.luks_area.specs.declared.area.Area.{Area}
use Rattle.luks_area.specs.declared.area.AreaName.{AreaName}
use Rattle.luks2_edit_laws.specs.Gap.{IsGap}

-- `at` is the least multiple of 4096 that isn't below `place`
pub record IsNextBlock (place at : ℕ) : Type 0 where
  pub block : ℕ
  pub aligned : at ≡ 4096 * block
  pub from : place ≤ at
  pub near : at < place + 4096

-- `at` is a multiple of 4096, from `low` on, and there is no gap before it
pub record HasNoGapBefore (areas : AreaName → Area → Type 0) (low high len at : ℕ) : Type 0 where
  pub block : ℕ
  pub aligned : at ≡ 4096 * block
  pub from : low ≤ at
  pub none : (p : ℕ) → IsGap areas low high len p → at ≤ p
