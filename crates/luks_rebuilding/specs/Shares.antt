-- How much may be hashed to find what the checksums of a volume's copies vouch for, and which part of it is each
-- copy's.
use Rattle.std.specs.Prelude.{◌≡◌, ℕ, suc, ◌/◌, ◌⊎◌, ◌++◌, List, [], ◌∷◌, map}
use Rattle.luks2_header.specs.Sizes.{listed_sizes}
use Rattle.luks_vouching.specs.Vouched.{Stands}
use Rattle.luks_rebuilding.specs.declared.place.Effort.{Effort}
use Rattle.luks_rebuilding.specs.declared.place.Effort.TheVariants.{Brief, Usual, Thorough}
use Rattle.luks_rebuilding.specs.declared.place.Place.{Place}

-- the copies that a volume may have: of each of the nine sizes a first one, and a second one behind as many bytes
abbrev pub first_of_size : ℕ → Place
first_of_size size = record { size = size; at = 0 }

abbrev pub second_of_size : ℕ → Place
second_of_size size = record { size = size; at = size }

abbrev pub copies : List Place
copies = map first_of_size listed_sizes ++ map second_of_size listed_sizes

-- so many of these places are such
abbrev pub Counts : (Place → Type 0) → List Place → ℕ → Type 0
Counts Is [] n = n ≡ 0
Counts Is (place ∷ places) n =
    (Is place × (m : ℕ) × (n ≡ suc m) × Counts Is places m) ⊎ ((Is place → ⊥) × Counts Is places n)

-- the binary header of the copy at this place stands
abbrev pub StandsAt : List ℕ → Place → Type 0
StandsAt v place = Stands v place.size place.at

-- so many bytes of JSON areas may be hashed for all copies together: 16 MiB, 32 MiB, or 1 TiB
abbrev pub whole : Effort → ℕ
whole Brief = 16777216
whole Usual = 33554432
whole Thorough = 1099511627776

-- each copy whose binary header stands has the same part of it
pub record IsShare (v : List ℕ) (effort : Effort) (most : ℕ) : Type 0 where
  pub count : ℕ
  pub counts : Counts (StandsAt v) copies count
  pub is : most ≡ whole effort / count
