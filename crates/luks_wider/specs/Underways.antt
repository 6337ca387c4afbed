-- The value that an `Underway` keeps.
use Rattle.std.specs.Prelude.{ℕ}
use Rattle.serde_json.specs.Data.{Data}
use Rattle.serde_json.specs.View.{view}
use Rattle.luks_wider.specs.declared.underway.Underway.{Underway}

abbrev pub content : Underway → Data
content m = view m.value

-- the length in bytes of the JSON area that it was read from
abbrev pub area_len : Underway → ℕ
area_len m = m.len
