-- Key areas of LUKS1 that another program has moved. `cryptsetup convert` copies them from byte 4096, where it makes the first one of LUKS1, to
-- byte 32768, where it makes the first one of LUKS2, and writes the LUKS2 header then: where it was killed in between, the LUKS1 header counts, and the
-- areas that it names are written over except for their first 28672 bytes, which stand twice.
use Rattle.std.specs.Prelude.{◌≡◌, ℕ, ◌≤◌, List, All, length, slice_index}
use Rattle.luks_area.specs.Ranges.{part}

-- both are the first bytes of one key area: they are the same, and not one byte alone, as where nothing was written
abbrev pub AreOfOneArea : List ℕ → List ℕ → Type 0
AreOfOneArea old new = (new ≡ old) × (All (λ b. b ≡ slice_index old 0) old → ⊥)

-- the first 512 bytes of the first key area of the volume `v` are at both places
abbrev pub HasMovedAreas : List ℕ → Type 0
HasMovedAreas v = (33280 ≤ length v) × AreOfOneArea (part v 4096 512) (part v 32768 512)
