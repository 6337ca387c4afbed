-- What is known while combinations are tried: words of private contracts.
use Rattle.std.specs.Prelude.{◌≡◌, ℕ, List, length, Bool, false, Option, Some, codes, is_some, option_map, unwrap_or, Result, Ok, Err, OnOk}
use Rattle.arrayvec.specs.declared.array_string.ArrayString.{ArrayString}
use Rattle.luks_area.specs.declared.device.DeviceFault.{DeviceFault}
use Rattle.luks_slot.specs.declared.fault.SlotFault.{SlotFault}
use Rattle.luks_slot.specs.declared.fault.SlotFault.TheVariants.{Device}
use Rattle.luks1_header.specs.declared.fault.TextField.TheVariants.{CipherMode, CipherName, HashSpec}
use Rattle.luks1_header.specs.Written.{WritesLuks1}
use Rattle.luks1_header.specs.declared.luks1.Luks1.{Luks1}
use Rattle.luks1_mending.specs.Made.{IsMade}
use Rattle.luks1_mending.specs.Taken.{given_text}
use Rattle.luks1_mending.specs.declared.given.Given.{Given}
use Rattle.luks1_rebuilding.specs.KeyAreas.{header_of}
use Rattle.luks1_rebuilding.specs.Openings.{IsFirstSlot}
use Rattle.luks1_rebuilding.specs.declared.trial.opening.Opening.{Opening}

-- the text, if there is one
abbrev pub bytes_of : Option (ArrayString 32) → Option (List ℕ)
bytes_of text = option_map (λ t. t.bytes) text

-- the header was made of some bytes of a volume of `total` bytes, and is written as these bytes
pub record IsMadeOfSome (d : Luks1) (total : ℕ) : Type 0 where
  pub bytes : List ℕ
  pub given : Given
  pub made : IsMade bytes total given d
  pub as_written : List ℕ
  pub written : WritesLuks1 as_written d

-- it was made of the volume `v` with what is given
abbrev pub IsMadeOf : List ℕ → Given → Luks1 → Type 0
IsMadeOf v g d = IsMade (header_of v) (length v) g d

-- what is given opens a keyslot, the first that it opens
pub record IsOpeningBy (v : List ℕ) (g : Given) (p : List ℕ) (o : Opening) : Type 0 where
  pub given : o.given ≡ g
  pub made : IsMadeOf v g o.header
  pub written : WritesLuks1 o.bytes o.header
  pub opens : IsFirstSlot v g p o.slot

-- whether a keyslot was opened: one that is refused isn't, and a device's failure stays one
abbrev pub IsTried : Result (Option (List ℕ)) SlotFault → Result Bool DeviceFault → Type 0
IsTried (Ok found) result = result ≡ Ok (is_some found)
IsTried (Err Device) result = OnOk result ⊥
IsTried (Err f) result = result ≡ Ok false

-- what is given, completed where it has no text or length by one that a header may have
pub record IsUsable (g u : Given) : Type 0 where
  pub cipher_name : given_text u CipherName ≡ Some (unwrap_or (given_text g CipherName) (codes "aes"))
  pub cipher_mode : given_text u CipherMode ≡ Some (unwrap_or (given_text g CipherMode) (codes "xts-plain64"))
  pub hash : given_text u HashSpec ≡ Some (unwrap_or (given_text g HashSpec) (codes "sha256"))
  pub key_bytes : u.key_bytes ≡ Some (unwrap_or g.key_bytes 64)
  pub uuid : u.uuid ≡ g.uuid
