-- The digest that names a keyslot.
use Rattle.std.specs.Prelude.{ℕ, List, codes, Option, None, if◌then◌else◌}
use Rattle.serde_json.specs.Data.{Members, no_members, member}
use Rattle.serde_json.specs.Find.{get}
use Rattle.luks_json.specs.Number.{number_of}
use Rattle.luks_json.specs.Arrays.{names}
pub use Rattle.luks_rules.specs.Naming.{HasUniqueDigests, IsDigestOf, IsUnique}

-- the number of the first member that has the text in its array
abbrev pub first_naming : List ℕ → Members → Option ℕ
first_naming t no_members = None
first_naming t (member k d ms) = if names t (get (codes "keyslots") d) then number_of k else first_naming t ms
