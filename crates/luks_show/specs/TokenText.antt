-- What is shown of a header's tokens: their lines, and the text of one.
use Rattle.std.specs.Prelude.{◌≡◌, ◌⊎◌, ◌≤◌, ◌<◌, ℕ, List, [], All, Option, Some, None, chars, false}
use Rattle.serde_json.specs.Data.{Data, depth}
use Rattle.serde_json.specs.Read.{max_depth, read}
use Rattle.serde_json.specs.Written.{compact_text, has_float}
use Rattle.luks_rules.specs.declared.table.Section.TheVariants.{Tokens}
use Rattle.luks_rules.specs.Faults.{object_at}
use Rattle.luks_meta.specs.Content.{content}
use Rattle.luks_show.specs.declared.listing.Listing.{Listing}
use Rattle.luks_show.specs.declared.listing.Listing.TheVariants.{Luks1, Luks2}
use Rattle.luks_show.specs.Steering.{IsSteerless, unsteering}

-- the token with the number `n` (LUKS2 On-Disk Format 1.1, 3.5); LUKS1 has none
abbrev pub token_of : Listing → ℕ → Option Data
token_of (Luks1 header) n = None
token_of (Luks2 copy) n = object_at (content copy.meta) Tokens n

-- the text of a token as it is printed: the compact one, which reads back as the token, with each character escaped that steers a terminal
pub record IsTokenText (token : Data) (text : List ℕ) : Type 0 where
  pub written : List ℕ
  pub compact : has_float token ≡ false → written ≡ compact_text token
  pub back : depth token ≤ max_depth → read written ≡ Some token
  pub escaped : text ≡ unsteering written
  pub plain : All IsSteerless (chars text)

-- what is shown where the token is asked for: its text, or that there is none; tokens have the numbers 0 to 31
abbrev pub IsShownToken : Listing → ℕ → Option (List ℕ) → Type 0
IsShownToken listing n None = (31 < n) ⊎ (token_of listing n ≡ None)
IsShownToken listing n (Some text) = (token : Data) × ((token_of listing n ≡ Some token) × IsTokenText token text)

-- every line; of LUKS2 they aren't told
abbrev pub tokens_text : Listing → Option (List ℕ)
tokens_text (Luks1 header) = Some []
tokens_text (Luks2 copy) = None
