-- The first n blocks of a unit, from the tweak of its first block.
use Rattle.std.specs.Prelude.{ℕ, List}
use Rattle.luks_modes.specs.Xts.{alpha_times, sealed_under, opened_under, block_at, joined}

unfoldable pub sealed_blocks : List ℕ → ℕ → List ℕ → ℕ → List ℕ
sealed_blocks key t bytes n = joined (λ j. sealed_under key (alpha_times j t) (block_at bytes j)) n

unfoldable pub opened_blocks : List ℕ → ℕ → List ℕ → ℕ → List ℕ
opened_blocks key t bytes n = joined (λ j. opened_under key (alpha_times j t) (block_at bytes j)) n
