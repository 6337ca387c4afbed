-- The value that a `Meta` keeps.
use Rattle.std.specs.Prelude.{ℕ}
use Rattle.serde_json.specs.Data.{Data}
use Rattle.serde_json.specs.View.{view}
use Rattle.luks_meta.specs.declared.meta.Meta.{Meta}

abbrev pub content : Meta → Data
content m = view m.value

-- the length in bytes of the JSON area that it was read from
abbrev pub area_len : Meta → ℕ
area_len m = m.len
