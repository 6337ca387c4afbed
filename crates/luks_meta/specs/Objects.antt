-- What is told of an object by its number.
use Rattle.std.specs.Prelude.{◌≡◌, ℕ, ◌<◌, Some, None}
use Rattle.serde_json.specs.Data.{Data}
use Rattle.luks_rules.specs.declared.table.Section.{Section}
use Rattle.luks_rules.specs.declared.table.Section.TheVariants.{Config}
use Rattle.luks_meta.specs.declared.configuration.Config.{Config as Sizes}
use Rattle.luks_rules.specs.Accepted.{IsContent}
use Rattle.luks_rules.specs.Faults.{object_at, section_at}
use Rattle.luks_meta.specs.Says.{TellsConfig}

-- a value that is accepted in an area of some length
pub record IsAccepted (j : Data) : Type 0 where
  pub len : ℕ
  pub content : IsContent len j

-- the record tells the members of the object with that number
pub record IsObject {K : Type 0} (tells : Data → K → Type 0) (j : Data) (s : Section) (n : ℕ) (k : K) : Type 0 where
  pub object : Data
  pub is : object_at j s n ≡ Some object
  pub tells_members : tells object k

-- the same of `config`
pub record IsConfig (j : Data) (k : Sizes) : Type 0 where
  pub object : Data
  pub is : section_at j Config ≡ Some object
  pub tells_members : TellsConfig object k

-- the section has no object with that number
abbrev pub IsMissing : Data → Section → ℕ → Type 0
IsMissing j s n = n < 32 → object_at j s n ≡ None
