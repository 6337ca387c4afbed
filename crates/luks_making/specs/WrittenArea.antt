-- A JSON area as it is written (LUKS2 On-Disk Format 1.1, 2.2).
use Rattle.std.specs.Prelude.{◌≡◌, ℕ, ◌-◌, ◌<◌, List, ◌++◌, length, replicate}
use Rattle.serde_json.specs.Data.{Data}
use Rattle.serde_json.specs.Written.{compact_text}
use Rattle.luks_json.specs.AreaText.{Json}

-- the area of `len` bytes is the compact text of the value and zeros, one at least, and it holds
-- that value
pub record IsWrittenArea (len : ℕ) (j : Data) (area : List ℕ) : Type 0 where
  pub bytes : area ≡ compact_text j ++ replicate (len - length (compact_text j)) 0
  pub room : length (compact_text j) < len
  pub long : length area ≡ len
  pub json : Json area j
