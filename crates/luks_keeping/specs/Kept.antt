-- What a backup keeps of a volume: the places of its header and the key areas of its keyslots that are in
-- use (LUKS1 On-Disk Format 1.2.3, "The partition header"; LUKS2 On-Disk Format 1.1, 2 and 3.2.3).
use Rattle.std.specs.Prelude.{◌≡◌, ℕ, ◌*◌, ◌-◌, List, replicate}
use Rattle.luks_area.specs.Ranges.{part, IsAt, IsOfEither}
use Rattle.luks_area.specs.declared.area.Area.{Area}
use Rattle.luks_area.specs.declared.area.AreaName.TheVariants.{Slot}
use Rattle.luks1_header.specs.Header1.{active_word, enabled_word, entry, luks1_size}
use Rattle.luks_writing.specs.Cleared.{cleared_size}
use Rattle.luks2_header.specs.Header2.{header_at, hdr_size}
use Rattle.luks2_header.specs.Selection.{luks1, luks2, nothing, Choice}
use Rattle.luks2_header.specs.declared.selection.Copies.{Copies}
use Rattle.luks2_header.specs.declared.selection.Copies.TheVariants.{InStep, FirstNewer, SecondNewer, FirstOnly, SecondOnly}
use Rattle.luks_reading.specs.Checked.{HasLuks2Area}
use Rattle.luks_reading.specs.Header.{json_at}
use Rattle.luks_reading.specs.Layout1.{Luks1Area}
use Rattle.luks_reading.specs.declared.report.Data.TheVariants.{Elsewhere}

-- the keyslot `n` of the LUKS1 header `h` is in use, and `a` is its key area
pub record IsUsedArea (h : List ℕ) (n : ℕ) (a : Area) : Type 0 where
  pub area : Luks1Area h Elsewhere 0 (Slot n) a
  pub enabled : active_word (entry h n) ≡ enabled_word

-- `a` is the key area of the keyslot `n`, by what counts of the volume `v`
abbrev pub KeptArea : List ℕ → Choice → ℕ → Area → Type 0
KeptArea v luks1 n a = IsUsedArea (part v 0 luks1_size) n a
KeptArea v (luks2 o copies) n a = HasLuks2Area (header_at v o) (json_at v o) Elsewhere 0 (Slot n) a
KeptArea v nothing n a = ⊥

-- the bytes from 0 on that the header takes: of LUKS2 both copies, whether they are sound or not
abbrev pub header_size : List ℕ → Choice → ℕ
header_size v luks1 = luks1_size
header_size v (luks2 o copies) = 2 * hdr_size (header_at v o)
header_size v nothing = 0

-- the bytes from 0 on that aren't kept: a first copy that isn't sound loses its first sector. So it counts
-- nowhere, whatever follows the header on another device
abbrev pub lead_of : Copies → ℕ
lead_of InStep = 0
lead_of FirstNewer = 0
lead_of SecondNewer = 0
lead_of FirstOnly = 0
lead_of SecondOnly = cleared_size

abbrev pub lead_size : Choice → ℕ
lead_size luks1 = 0
lead_size (luks2 o copies) = lead_of copies
lead_size nothing = 0

-- the byte place is of a key area
pub record IsOfKeptArea (v : List ℕ) (choice : Choice) (p : ℕ) : Type 0 where
  pub number : ℕ
  pub area : Area
  pub is : KeptArea v choice number area
  pub at : IsAt area.start area.len p

-- it is of the header or of a key area
abbrev pub IsKept : List ℕ → Choice → ℕ → Type 0
IsKept v choice = IsOfEither (IsAt 0 (header_size v choice)) (IsOfKeptArea v choice)

-- `w` has the header of the volume `v`, byte by byte at its place
pub record HasHeader (v : List ℕ) (choice : Choice) (w : List ℕ) : Type 0 where
  pub lead : part w 0 (lead_size choice) ≡ replicate (lead_size choice) 0
  pub behind : part w (lead_size choice) (header_size v choice - lead_size choice) ≡ part v (lead_size choice) (header_size v choice - lead_size choice)

-- so it has the key areas
abbrev pub HasAreas : List ℕ → Choice → List ℕ → Type 0
HasAreas v choice w = (n : ℕ) (a : Area) → KeptArea v choice n a → part w a.start a.len ≡ part v a.start a.len

-- and both
pub record HasKept (v : List ℕ) (choice : Choice) (w : List ℕ) : Type 0 where
  pub header : HasHeader v choice w
  pub areas : HasAreas v choice w
