-- A JSON area that is composed, sector by sector, of those of the two copies of one header.
use Rattle.std.specs.Prelude.{◌≡◌, ℕ, ◌*◌, ◌/◌, ◌<◌, List, ◌++◌, ◌⊎◌, length, take, drop, not}
use Rattle.std.specs.List.{count_by, range_with_len}
use Rattle.std.specs.Str.{bytes_eq}
use Rattle.luks_area.specs.Ranges.{part}

-- sectors are of 512 bytes; so many of them are `area`
abbrev pub sector_count : List ℕ → ℕ
sector_count area = length area / 512

-- the area is a number of whole sectors
abbrev pub IsWholeSectors : List ℕ → Type 0
IsWholeSectors area = 512 * sector_count area ≡ length area

-- the sector `k` of an area
abbrev pub sector : List ℕ → ℕ → List ℕ
sector area k = part area (512 * k) 512

-- `j` is as long as both areas, and each of its sectors is that of one of both at the same place
pub record IsComposed (first second j : List ℕ) : Type 0 where
  pub as_first : length j ≡ length first
  pub as_second : length j ≡ length second
  pub each : (k : ℕ) → 512 * k < length j → (sector j k ≡ sector first k) ⊎ (sector j k ≡ sector second k)

-- how many of the first `n` sectors of the two areas differ
abbrev pub differing_before : List ℕ → List ℕ → ℕ → ℕ
differing_before first second n =
    count_by (λ k. not (bytes_eq (sector first k) (sector second k))) (range_with_len 0 n)

-- how many sectors of the two areas differ
abbrev pub differing : List ℕ → List ℕ → ℕ
differing first second = differing_before first second (sector_count first)

-- the first `n` sectors of one area, and the rest of the other: a composition by one border
abbrev pub bordered : List ℕ → List ℕ → ℕ → List ℕ
bordered front rest n = take (512 * n) front ++ drop (512 * n) rest

-- where the two compositions begin to differ, `j` has the sector of the first copy
pub record IsEarlier (first j other : List ℕ) : Type 0 where
  pub number : ℕ
  pub alike : take (512 * number) j ≡ take (512 * number) other
  pub own : sector j number ≡ sector first number
  pub differs : sector other number ≡ sector first number → ⊥

-- the order of compositions
abbrev pub IsNotLater : List ℕ → List ℕ → List ℕ → Type 0
IsNotLater first j other = (j ≡ other) ⊎ IsEarlier first j other
