-- The map of a header.
use Rattle.std.specs.Prelude.{◌≡◌, ℕ, ◌+◌, ◌<◌, List, length, slice_index_or, IsPermutation}
use Rattle.serde_json.specs.Data.{Data}
use Rattle.luks_area.specs.First.{NotAfter}
use Rattle.luks_show.specs.declared.listing.Listing.{Listing}
use Rattle.luks_show.specs.declared.listing.Listing.TheVariants.{Luks1, Luks2}
use Rattle.luks_map.specs.declared.map.HeaderMap.{HeaderMap}
use Rattle.luks_map.specs.declared.row.Row.{Row}
use Rattle.luks_map.specs.Rows.{row_key}
use Rattle.luks_map.specs.Drawing.{map_lines}
use Rattle.luks_map.specs.Luks1Rows.{luks1_rows}
use Rattle.luks_map.specs.Luks2Rows.{IsLuks2Rows}
use Rattle.luks_map.specs.UnderwayRows.{IsUnderwayRows}

-- the lines of a map
abbrev pub map_text : HeaderMap → List ℕ
map_text m = map_lines m.total 0 m.rows.items

-- the rows of a volume of `total` bytes with this header, in this order; a LUKS1 header has eight keyslots
abbrev pub IsHeaderRows : Listing → ℕ → List Row → Type 0
IsHeaderRows (Luks1 header) total rows = length header.slots ≡ 8 → rows ≡ luks1_rows header total
IsHeaderRows (Luks2 copy) total rows = IsLuks2Rows copy total rows

-- each row is at the place of the next or before it, and at one place by the order of ranks
abbrev pub IsInOrder : List Row → Type 0
IsInOrder rows = (k : ℕ) (d : Row) → k + 1 < length rows → NotAfter (row_key (slice_index_or rows k d)) (row_key (slice_index_or rows (k + 1) d))

-- the same of a volume in whose metadata `j` something is under way, with a header of copies of `header` bytes
pub record IsUnderwayMap (header : ℕ) (j : Data) (total : ℕ) (m : HeaderMap) : Type 0 where
  pub header_rows : List Row
  pub of_header : IsUnderwayRows header j total header_rows
  pub same : IsPermutation header_rows m.rows.items
  pub ordered : IsInOrder m.rows.items
  pub len : m.total ≡ total

-- the map has the rows of the header, put in order; how they are drawn is `map_text`
pub record IsMap (listing : Listing) (total : ℕ) (m : HeaderMap) : Type 0 where
  pub header_rows : List Row
  pub of_header : IsHeaderRows listing total header_rows
  pub same : IsPermutation header_rows m.rows.items
  pub ordered : IsInOrder m.rows.items
  pub len : m.total ≡ total
