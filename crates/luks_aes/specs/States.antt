-- Lists of bytes, and states of 16 bytes (FIPS 197, 3.4).
use Rattle.std.specs.Prelude.{◌≡◌, ℕ, ◌<◌, List, length, slice_index}

-- every element is a byte; past the end an element counts as 0
pub record AreBytes (xs : List ℕ) : Type 0 where
  pub at : (k : ℕ) → slice_index xs k < 256

-- a state: 16 bytes
pub record IsState (s : List ℕ) : Type 0 where
  pub long : length s ≡ 16
  pub bytes : AreBytes s
