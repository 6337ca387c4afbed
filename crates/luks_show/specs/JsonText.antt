-- What `show --json` prints of a header.
use Rattle.std.specs.Prelude.{◌≡◌, ◌≤◌, ℕ, List, All, Some, chars, false}
use Rattle.serde_json.specs.Data.{Data, depth}
use Rattle.serde_json.specs.Read.{max_depth, read}
use Rattle.serde_json.specs.Written.{compact_text, has_float}
use Rattle.luks_show.specs.declared.listing.Listing.{Listing}
use Rattle.luks_show.specs.declared.listing.Listing.TheVariants.{Luks1, Luks2}
use Rattle.luks_show.specs.Luks1Value.{luks1_value}
use Rattle.luks_show.specs.Luks2Value.{IsLuks2Value}
use Rattle.luks_show.specs.Steering.{IsSteerless, unsteering}

-- the header's JSON object
abbrev pub IsListingValue : Listing → Data → Type 0
IsListingValue (Luks1 header) d = d ≡ luks1_value header
IsListingValue (Luks2 copy) d = IsLuks2Value copy d

-- its text as it is written: the compact one, unless a member of the metadata is a number with a fraction; and one
-- that reads back as that object, unless this nests deeper than a reader goes
pub record IsWrittenText (listing : Listing) (text : List ℕ) : Type 0 where
  pub value : Data
  pub is : IsListingValue listing value
  pub compact : has_float value ≡ false → text ≡ compact_text value
  pub back : depth value ≤ max_depth → read text ≡ Some value

-- and as it is printed: each character that steers a terminal is escaped, so that none is in it
pub record IsJsonText (listing : Listing) (text : List ℕ) : Type 0 where
  pub written : List ℕ
  pub is : IsWrittenText listing written
  pub escaped : text ≡ unsteering written
  pub plain : All IsSteerless (chars text)
