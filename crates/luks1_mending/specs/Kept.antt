-- Which keyslots of a LUKS1 header in a volume of `total` bytes are kept, where the key has `k` bytes.
use Rattle.std.specs.Prelude.{◌≡◌, ◌≢◌, ◌⊎◌, ℕ, ◌+◌, ◌<◌, ◌≤◌, ◌==◌, Bool, true, false, List, if◌then◌else◌}
use Rattle.luks_area.specs.Area.{IsInside, Meet}
use Rattle.luks1_header.specs.Faults.{IsEntryFault}
use Rattle.luks1_header.specs.Header1.{active_word, enabled_word, entry, luks1_size}
use Rattle.luks1_header.specs.declared.fault.HeadFault.{HeadFault}
use Rattle.luks1_mending.specs.Areas.{is_usual, own_area}

-- the keyslot `n` meets its own rules, and its area lies behind the header and inside the volume
pub record IsSound (h : List ℕ) (k total n : ℕ) : Type 0 where
  pub numbered : n < 8
  pub faultless : (f : HeadFault) → IsEntryFault n (entry h n) f → ⊥
  pub behind : luks1_size ≤ (own_area h k n).start
  pub inside : IsInside (own_area h k n) total

-- the order of preference: an enabled one at its usual place before another enabled one, and these before the
-- disabled ones, in the same order
abbrev pub rank : List ℕ → ℕ → ℕ → ℕ
rank h k n = (if active_word (entry h n) == enabled_word then 0 else 2) + (if is_usual h k n then 0 else 1)

-- among those of one rank the first by number
abbrev pub ComesBefore : List ℕ → ℕ → ℕ → ℕ → Type 0
ComesBefore h k m n = (rank h k m < rank h k n) ⊎ ((rank h k m ≡ rank h k n) × (m < n))

-- the keyslot `m` comes before the keyslot `n`, and their areas meet
pub record IsBeforeAndMeets (h : List ℕ) (k m n : ℕ) : Type 0 where
  pub before : ComesBefore h k m n
  pub meet : Meet (own_area h k m) (own_area h k n)

-- The keyslots that are kept, as a set (`kept n` where `n` is one of them): each is sound, no two of them meet,
-- and each other sound one meets one of them that comes before it. There is one such set.
pub record AreKept (h : List ℕ) (k total : ℕ) (kept : ℕ → Bool) : Type 0 where
  pub sound : (n : ℕ) → kept n ≡ true → IsSound h k total n
  pub apart : (m n : ℕ) → m ≢ n → kept m ≡ true → kept n ≡ true → Meet (own_area h k m) (own_area h k n) → ⊥
  pub rest : (n : ℕ) → IsSound h k total n → kept n ≡ false → (m : ℕ) × ((kept m ≡ true) × IsBeforeAndMeets h k m n)

-- the keyslot `n` is kept as it is
pub record IsKept (h : List ℕ) (k total n : ℕ) : Type 0 where
  pub kept : ℕ → Bool
  pub are : AreKept h k total kept
  pub this : kept n ≡ true
