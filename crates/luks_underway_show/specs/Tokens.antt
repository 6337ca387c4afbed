-- The text of a token of metadata in which something is under way.
use Rattle.std.specs.Prelude.{◌≡◌, ℕ, List, Option, Some, None}
use Rattle.serde_json.specs.Data.{Data}
use Rattle.luks_rules.specs.declared.table.Section.TheVariants.{Tokens}
use Rattle.luks_rules.specs.Faults.{object_at}
use Rattle.luks_show.specs.TokenText.{IsTokenText}

-- what is shown where the token with the number is asked for: its text, or that there is none
abbrev pub IsTokenShown : Data → ℕ → Option (List ℕ) → Type 0
IsTokenShown j n None = object_at j Tokens n ≡ None
IsTokenShown j n (Some text) = (token : Data) × ((object_at j Tokens n ≡ Some token) × IsTokenText token text)
