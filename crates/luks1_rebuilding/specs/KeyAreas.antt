-- The key areas that are copied: those of the enabled keyslots that are kept, of the volume `v`.
use Rattle.std.specs.Prelude.{◌≡◌, ℕ, List, length}
use Rattle.luks_area.specs.Ranges.{part, IsAt}
use Rattle.luks_area.specs.declared.area.Area.{Area}
use Rattle.luks1_header.specs.Header1.{active_word, enabled_word, entry, luks1_size}
use Rattle.luks1_mending.specs.Areas.{own_area}
use Rattle.luks1_mending.specs.Kept.{IsKept}
use Rattle.luks1_mending.specs.Taken.{taken_key_bytes}
use Rattle.luks1_mending.specs.declared.given.Given.{Given}

-- the first 592 bytes of the volume
abbrev pub header_of : List ℕ → List ℕ
header_of v = part v 0 luks1_size

-- the length of the key in the header that is made
abbrev pub key_of : List ℕ → Given → ℕ
key_of v g = taken_key_bytes (header_of v) g

-- the keyslot `n` is kept, and in use
pub record IsKeptInUse (v : List ℕ) (g : Given) (n : ℕ) : Type 0 where
  pub kept : IsKept (header_of v) (key_of v g) (length v) n
  pub enabled : active_word (entry (header_of v) n) ≡ enabled_word

-- `a` is its key area
pub record HasKeptArea (v : List ℕ) (g : Given) (n : ℕ) (a : Area) : Type 0 where
  pub in_use : IsKeptInUse v g n
  pub is : a ≡ own_area (header_of v) (key_of v g) n

-- the byte place is of one of these areas
pub record IsOfKeptArea (v : List ℕ) (g : Given) (p : ℕ) : Type 0 where
  pub number : ℕ
  pub area : Area
  pub has : HasKeptArea v g number area
  pub at : IsAt area.start area.len p

-- each of them has in `new` the bytes that it has in `v`
abbrev pub HasKeptAreas : List ℕ → Given → List ℕ → Type 0
HasKeptAreas v g new =
    (n : ℕ) (a : Area) → HasKeptArea v g n a → part new a.start a.len ≡ part v a.start a.len
