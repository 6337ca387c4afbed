-- What a value that was read keeps.
use Rattle.std.specs.Prelude.{ℕ, ◌≤◌}
use Rattle.serde_json.specs.Data.{Data, depth}
use Rattle.serde_json.specs.Read.{max_depth}
use Rattle.luks_rules.specs.Accepted.{IsContent}

pub record IsHeld (len : ℕ) (j : Data) : Type 0 where
  pub nests : depth j ≤ max_depth
  pub content : IsContent len j
