-- Which header counts of a device, and whether two of LUKS2 are of one state: words of private contracts.
use Rattle.std.specs.Prelude.{◌≡◌, ℕ, ◌+◌, ◌-◌, List, Option, Some, None}
use Rattle.luks_area.specs.Ranges.{part}
use Rattle.luks2_header.specs.Selection.{nothing, Chosen, IsSelected, IsSelectedWithin}
use Rattle.luks2_header.specs.declared.bin2.Bin2.{Bin2}
use Rattle.luks2_header.specs.declared.selection.Selected.{Selected}

-- what was selected of the volume `v` counts; where nothing was, none does
abbrev pub FindsSelected : List ℕ → Option Selected → Type 0
FindsSelected v None = Chosen v nothing
FindsSelected v (Some s) = IsSelected v s

-- it lies inside a device of `total` bytes
abbrev pub IsFoundWithin : ℕ → Option Selected → Type 0
IsFoundWithin total None = Unit {0}
IsFoundWithin total (Some s) = IsSelectedWithin total s

-- the JSON area of the copy with this binary header
abbrev pub json_of : List ℕ → Bin2 → List ℕ
json_of v h = part v (h.hdr_offset + 4096) (h.hdr_size - 4096)

-- two copies have one sequence number and one metadata
pub record IsSameMetadata (b t : List ℕ) (here there : Bin2) : Type 0 where
  pub seqid : there.seqid ≡ here.seqid
  pub metadata : json_of t there ≡ json_of b here
