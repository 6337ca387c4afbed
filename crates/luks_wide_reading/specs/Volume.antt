-- What opening gives of the volume `v` in whose metadata something is under way, where so much is allowed.
use Rattle.std.specs.Prelude.{◌≡◌, ℕ, List, length, Option}
use Rattle.serde_json.specs.Data.{Data}
use Rattle.luks_area.specs.First.{IsLeast}
use Rattle.luks2_header.specs.declared.selection.Copies.{Copies}
use Rattle.luks2_header.specs.Header2.{header_at, uuid_field, IsUuidField}
use Rattle.luks2_header.specs.Selection.{luks2, Chosen}
use Rattle.luks_json.specs.AreaText.{Json}
use Rattle.luks_slot.specs.declared.allowed.Allowed.{Allowed}
use Rattle.luks_reading.specs.Header.{json_at}
use Rattle.luks_wider.specs.Accepted.{IsWideContent}
use Rattle.luks_wide_reading.specs.declared.open_fault.WideOpenFault.{WideOpenFault}
use Rattle.luks_wide_reading.specs.Faults.{wide_open_key}
use Rattle.luks_wide_reading.specs.Opening.{IsUnderwayRefusal, UnderwayOpens}
use Rattle.luks_wide_reading.specs.Trying.{underway_order, UnderwayTries}

-- the copy that counts has the JSON area `json`, with the value `j`, in which something is under way; it is accepted by the rules of that
pub record CountsUnderway (v json : List ℕ) (j : Data) : Type 0 where
  pub place : ℕ
  pub copies : Copies
  pub chosen : Chosen v (luks2 place copies)
  pub uuid : IsUuidField (uuid_field (header_at v place))
  pub area : json ≡ json_at v place
  pub holds : Json json j
  pub accepted : IsWideContent (length json) j

-- opening the keyslot `n` by the passphrase `p` gives `found`
pub record UnderwayGives (allowed : Allowed) (v : List ℕ) (n : ℕ) (p : List ℕ) (found : Option (List ℕ)) : Type 0 where
  pub json : List ℕ
  pub value : Data
  pub counts : CountsUnderway v json value
  pub opens : UnderwayOpens allowed json v n p found

-- the keyslot `n` is refused by its first refusal
pub record UnderwayRefuses (allowed : Allowed) (v : List ℕ) (n : ℕ) (f : WideOpenFault) : Type 0 where
  pub json : List ℕ
  pub value : Data
  pub counts : CountsUnderway v json value
  pub least : IsLeast wide_open_key (IsUnderwayRefusal allowed json (length v) n) f

-- trying the keyslots that hold a key in their order by the passphrase `p` gives `found`
pub record UnderwayUnlocks (allowed : Allowed) (v p : List ℕ) (found : Option (ℕ × List ℕ)) : Type 0 where
  pub json : List ℕ
  pub value : Data
  pub counts : CountsUnderway v json value
  pub tries : UnderwayTries allowed json v p (underway_order value) found
