-- The halves of a key of XTS (IEEE 1619, 5.3.1).
use Rattle.std.specs.Prelude.{◌≡◌, ℕ, ◌<◌, List, length, slice_index}

-- they are as long as each other, and the first is of bytes
pub record AreHalves (first second : List ℕ) : Type 0 where
  pub same_length : length first ≡ length second
  pub bytes : (k : ℕ) → slice_index first k < 256
