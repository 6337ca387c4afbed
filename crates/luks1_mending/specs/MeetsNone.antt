-- The keyslots that would be kept if each yielded to every sound one before it, whether that one is kept or not.
use Rattle.std.specs.Prelude.{ℕ, List}
use Rattle.luks1_mending.specs.Kept.{IsBeforeAndMeets, IsSound}

-- the keyslot `n` is sound, and meets no sound one that comes before it
pub record MeetsNoneBefore (h : List ℕ) (k total n : ℕ) : Type 0 where
  pub sound : IsSound h k total n
  pub none : (m : ℕ) → IsSound h k total m → IsBeforeAndMeets h k m n → ⊥
