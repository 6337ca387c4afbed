-- The sizes of a LUKS2 header, and the places of its second copy (LUKS2 On-Disk Format 1.1, 2.1, table 1).
use Rattle.std.specs.Prelude.{◌≡◌, ℕ, ◌==◌, List, [], ◌∷◌, Bool, true}
use Rattle.std.specs.List.{list_any}

-- the nine sizes, from 16 KiB to 4 MiB
abbrev pub listed_sizes : List ℕ
listed_sizes = 0x4000 ∷ 0x8000 ∷ 0x10000 ∷ 0x20000 ∷ 0x40000 ∷ 0x80000 ∷ 0x100000 ∷ 0x200000 ∷ 0x400000 ∷ []

-- the number is among those of the list
abbrev pub is_among : ℕ → List ℕ → Bool
is_among n sizes = list_any (λ size. size == n) sizes

-- the number is one of the nine sizes
abbrev pub is_listed : ℕ → Bool
is_listed n = is_among n listed_sizes

abbrev pub IsListed : ℕ → Type 0
IsListed n = is_listed n ≡ true
