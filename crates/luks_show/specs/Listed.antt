-- What is shown of a header, without `--all` and with it.
use Rattle.std.specs.Prelude.{ℕ, List, Option, Some, None}
use Rattle.luks_show.specs.declared.listing.Listing.{Listing}
use Rattle.luks_show.specs.declared.listing.Listing.TheVariants.{Luks1, Luks2}
use Rattle.luks_show.specs.Luks1Lines.{luks1_lines}
use Rattle.luks_show.specs.AllLines.{full_luks1_lines}

-- every line; of LUKS2 they aren't told
abbrev pub listing_text : Listing → Option (List ℕ)
listing_text (Luks1 header) = Some (luks1_lines header)
listing_text (Luks2 copy) = None

-- and so with `--all`
abbrev pub full_text : Listing → Option (List ℕ)
full_text (Luks1 header) = Some (full_luks1_lines header)
full_text (Luks2 copy) = None
