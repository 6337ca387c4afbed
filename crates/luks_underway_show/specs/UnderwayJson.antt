-- What `show --json` prints of a copy in which something is under way.
use Rattle.std.specs.Prelude.{◌≡◌, ◌≤◌, ℕ, List, All, Some, chars, false}
use Rattle.serde_json.specs.Data.{Data, depth}
use Rattle.serde_json.specs.Read.{max_depth, read}
use Rattle.serde_json.specs.Written.{compact_text, has_float}
use Rattle.luks2_header.specs.declared.bin2.Bin2.{Bin2}
use Rattle.luks2_header.specs.declared.selection.Copies.{Copies}
use Rattle.luks_show.specs.Steering.{IsSteerless, unsteering}
use Rattle.luks_underway_show.specs.UnderwayValue.{IsUnderwayValue}

-- the object's text as it is written: the compact one, and one that reads back as that object, unless this nests deeper than a reader goes
pub record IsWrittenUnderway (header : Bin2) (copies : Copies) (j : Data) (text : List ℕ) : Type 0 where
  pub value : Data
  pub is : IsUnderwayValue header copies j value
  pub compact : has_float value ≡ false → text ≡ compact_text value
  pub back : depth value ≤ max_depth → read text ≡ Some value

-- and as it is printed: each character that steers a terminal is escaped, so that none is in it
pub record IsUnderwayJson (header : Bin2) (copies : Copies) (j : Data) (text : List ℕ) : Type 0 where
  pub written : List ℕ
  pub is : IsWrittenUnderway header copies j written
  pub escaped : text ≡ unsteering written
  pub plain : All IsSteerless (chars text)
