-- The digest that names a keyslot.
use Rattle.std.specs.Prelude.{◌≡◌, ℕ, ◌<◌, codes, true, None, Some, is_some, option_and_then}
use Rattle.serde_json.specs.Data.{Data, Members, no_members, member}
use Rattle.serde_json.specs.Find.{as_object, get, get_member}
use Rattle.luks_rules.specs.declared.table.Section.TheVariants.{Digests, Keyslots}
use Rattle.luks_json.specs.Number.{number_text}
use Rattle.luks_json.specs.Arrays.{names}
use Rattle.luks_rules.specs.Faults.{object_at, section_at}

-- the digest `m` has the name of the keyslot `n` in its array
pub record IsDigestOf (j : Data) (n m : ℕ) : Type 0 where
  pub named : n < 32
  pub keyslot : is_some (object_at j Keyslots n) ≡ true
  pub numbered : m < 32
  pub object : Data
  pub is : object_at j Digests m ≡ Some object
  pub lists : names (number_text n) (get (codes "keyslots") object) ≡ true

-- no name stands twice
abbrev pub IsUnique : Members → Type 0
IsUnique no_members = Unit {0}
IsUnique (member k d ms) = (get_member k ms ≡ None) × IsUnique ms

-- each digest's name stands once
abbrev pub HasUniqueDigests : Data → Type 0
HasUniqueDigests j = (digests : Members)
    → option_and_then as_object (section_at j Digests) ≡ Some digests → IsUnique digests
