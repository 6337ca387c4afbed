-- Ranges of a volume that are given, with their bytes one after the other.
use Rattle.std.specs.Prelude.{◌≡◌, ◌≤◌, ◌<◌, ℕ, ◌+◌, ◌-◌, ◌⊎◌, List, [], ◌∷◌, Option, Some, None, length, replicate, ⊤}
use Rattle.luks_area.specs.Ranges.{part, written, IsAt}
use Rattle.luks_given.specs.declared.parts.Part.{Part}

-- how many bytes they have together
unfoldable pub parts_length : List Part → ℕ
parts_length [] = 0
parts_length (r ∷ rs) = r.len + parts_length rs

-- they begin at `free` or behind it, in their order, and between any two is a gap
unfoldable pub AreApart : ℕ → List Part → Type 0
AreApart free [] = ⊤
AreApart free (r ∷ rs) = (free ≤ r.at) × AreApart (r.at + r.len + 1) rs

-- where the next one may begin, behind one that ended there
abbrev pub free_behind : Option ℕ → ℕ
free_behind None = 0
free_behind (Some end_) = end_ + 1

-- each ends within so many bytes
unfoldable pub AreInside : ℕ → List Part → Type 0
AreInside total [] = ⊤
AreInside total (r ∷ rs) = (r.at + r.len ≤ total) × AreInside total rs

-- one of them has the place `p`
unfoldable pub HasPlace : List Part → ℕ → Type 0
HasPlace [] p = ⊥
HasPlace (r ∷ rs) p = IsAt r.at r.len p ⊎ HasPlace rs p

-- these bytes, from the one numbered `before` on, are those of the volume `v` in these ranges
unfoldable pub AreParts : List Part → ℕ → List ℕ → List ℕ → Type 0
AreParts [] before bytes v = ⊤
AreParts (r ∷ rs) before bytes v = (part v r.at r.len ≡ part bytes before r.len) × AreParts rs (before + r.len) bytes v

-- the places from `at` to before `end_` are of one range, whose bytes at these begin with the one numbered `k`
unfoldable pub IsPlaced : List Part → ℕ → ℕ → ℕ → ℕ → Type 0
IsPlaced [] before at end_ k = ⊥
IsPlaced (r ∷ rs) before at end_ k = ((r.at ≤ at) × (end_ ≤ r.at + r.len) × (k ≡ before + (at - r.at))) ⊎ IsPlaced rs (before + r.len) at end_ k

-- the volume of `total` bytes that has these bytes, from the one numbered `before` on, in these ranges; zeros stand for those
-- that aren't given
unfoldable pub volume_of : List Part → ℕ → List ℕ → ℕ → List ℕ
volume_of [] before bytes total = replicate total 0
volume_of (r ∷ rs) before bytes total = written (volume_of rs (before + r.len) bytes total) r.at (part bytes before r.len)

-- the same of all bytes
abbrev pub volume : List Part → List ℕ → ℕ → List ℕ
volume parts bytes total = volume_of parts 0 bytes total

-- ranges of a volume of `total` bytes, with as many bytes as they have
pub record ArePartsOf (parts : List Part) (bytes : List ℕ) (total : ℕ) : Type 0 where
  pub apart : AreApart 0 parts
  pub inside : AreInside total parts
  pub counted : parts_length parts ≡ length bytes

-- they are none
abbrev pub AreNoParts : List Part → List ℕ → ℕ → Type 0
AreNoParts parts bytes total = ArePartsOf parts bytes total → ⊥

-- the bytes are those of the volume `v` in these ranges; the others may be any
pub record AreGiven (parts : List Part) (bytes : List ℕ) (total : ℕ) (v : List ℕ) : Type 0 where
  pub parts_ : ArePartsOf parts bytes total
  pub bytes_ : AreParts parts 0 bytes v
  pub whole : length v ≡ total

-- a range within the volume that begins with a place which isn't given
pub record IsWanted (parts : List Part) (total : ℕ) (wanted : Part) : Type 0 where
  pub missing : HasPlace parts wanted.at → ⊥
  pub some : 0 < wanted.len
  pub inside : wanted.at + wanted.len ≤ total
