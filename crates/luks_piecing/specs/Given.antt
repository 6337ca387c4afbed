-- The segment that holds the data, as it is given (LUKS2 On-Disk Format 1.1, 3.3).
use Rattle.std.specs.Prelude.{◌≡◌, ℕ, ◌≤◌, List, ◌++◌, Bool, ◌==◌, ◌&&◌, not, codes, decimal, length, true}
use Rattle.std.specs.List.{list_all}
use Rattle.luks_area.specs.Text.{is_printable}
use Rattle.luks_piecing.specs.declared.given.GivenSegment.{GivenSegment}

-- a byte that stands for itself between quotes: printable, and neither a quote nor a backslash
abbrev pub is_unescaped : ℕ → Bool
is_unescaped b = is_printable b && not (b == 0x22) && not (b == 0x5C)

-- a cipher's name may be so
pub record IsCipherName (text : List ℕ) : Type 0 where
  pub short : length text ≤ 64
  pub unescaped : list_all is_unescaped text ≡ true

-- a segment that begins at the offset and ends with the device, and whose sectors are counted from its start
abbrev pub given_text : GivenSegment → List ℕ
given_text g = codes "{\"type\":\"crypt\",\"offset\":\"" ++ decimal g.offset ++ codes "\",\"iv_tweak\":\"0\",\"size\":\"dynamic\",\"encryption\":\"" ++ g.cipher.now
    ++ codes "\",\"sector_size\":" ++ decimal g.sector_size ++ codes "}"

pub record IsGivenText (g : GivenSegment) (text : List ℕ) : Type 0 where
  pub name : IsCipherName g.cipher.now
  pub is : text ≡ given_text g
