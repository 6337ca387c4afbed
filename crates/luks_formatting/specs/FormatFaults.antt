-- The faults of formatting, and their order.
use Rattle.std.specs.Prelude.{◌≡◌, ◌≢◌, ℕ, ◌^◌, ◌≤◌, List, [], ◌∷◌, length, Bool, true, false, codes, Option, None, IfSome, IsSomeAnd}
use Rattle.luks_area.specs.First.{IsLeast}
use Rattle.luks_reading.specs.declared.format.Format.{Format}
use Rattle.luks_making.specs.declared.derivation.NewDerivation.{NewDerivation}
use Rattle.luks_formatting.specs.declared.format_fault.FormatFault.{FormatFault}
use Rattle.luks_formatting.specs.declared.format_fault.FormatFault.TheVariants.{Payload, TooSmall, SectorSize, Uneven, Uuid, BadLabel, Cipher, KeyLength, Iterations, Argon2, RandomLength, Memory, Device}
use Rattle.luks_making.specs.Derivations.{IsMakeable}
use Rattle.luks_formatting.specs.Deriving.{HasFewTurns, IsBeyond}
use Rattle.luks_reading.specs.declared.report.Data.TheVariants.{Here}
use Rattle.luks_formatting.specs.Encrypting.{is_older}
use Rattle.luks_formatting.specs.RandomBytes.{needed_bytes}
use Rattle.luks_formatting.specs.Given.{are_uneven, first_sector, nothing_given, number_or, own_start, takes_sectors, HasNoName, IsMisplaced, IsNoKey, IsNoUuid, IsSmall, IsSound}
use Rattle.luks_formatting.specs.declared.given.Given.{Given}

-- the rows of the table of faults, in their order
abbrev pub format_row : FormatFault → ℕ
format_row Payload = 1
format_row TooSmall = 2
format_row SectorSize = 3
format_row Uneven = 4
format_row Uuid = 5
format_row BadLabel = 6
format_row Cipher = 7
format_row KeyLength = 8
format_row Iterations = 9
format_row Argon2 = 10
format_row RandomLength = 11
format_row Memory = 12
format_row Device = 13

-- the least key is that of the first fault
abbrev pub format_key : FormatFault → List ℕ
format_key f = format_row f ∷ []

-- the faults of formatting a volume of `total` bytes of which this is given, by LUKS1 or the second version,
-- where a payload begins below the sector `most` and the volume has `least` bytes at least; with older ciphers
-- or without, by a derivation that is chosen and so many KiB that Argon2 may take
abbrev pub IsFormatFaultAs : (most least : ℕ) (second : Bool) → Given → Bool → Option NewDerivation → ℕ → ℕ → Format → List ℕ → FormatFault → Type 0
IsFormatFaultAs most least second given older chosen allowed total format random Payload =
    IsSomeAnd given.sector (IsMisplaced (first_sector second given.key_bytes) most given.payload)
IsFormatFaultAs most least second given older chosen allowed total format random TooSmall =
    IsSmall least given.sector given.payload total
IsFormatFaultAs most least second given older chosen allowed total format random SectorSize =
    takes_sectors second given.sector_size ≡ false
IsFormatFaultAs most least second given older chosen allowed total format random Uneven =
    are_uneven given.sector_size given.payload (number_or given.sector (own_start second)) total ≡ true
IsFormatFaultAs most least second given older chosen allowed total format random Uuid = IsNoUuid given.uuid
IsFormatFaultAs most least second given older chosen allowed total format random BadLabel =
    HasNoName second given.label given.subsystem
IsFormatFaultAs most least second given older chosen allowed total format random Cipher =
    (is_older given.cipher ≡ true) × (older ≡ false)
IsFormatFaultAs most least second given older chosen allowed total format random KeyLength =
    IsNoKey given.cipher given.key_bytes given.key
IsFormatFaultAs most least second given older chosen allowed total format random Iterations = HasFewTurns format chosen
IsFormatFaultAs most least second given older chosen allowed total format random Argon2 = IsBeyond allowed chosen
IsFormatFaultAs most least second given older chosen allowed total format random RandomLength =
    length random ≢ needed_bytes second given.key_bytes
IsFormatFaultAs most least second given older chosen allowed total format random Memory = ⊥
IsFormatFaultAs most least second given older chosen allowed total format random Device = ⊥

-- the same of LUKS1, whose payload's sector has 32 bits (LUKS1 On-Disk Format 1.2.3, "The partition header")
abbrev pub IsFormat1FaultAs : Given → Bool → ℕ → Format → List ℕ → FormatFault → Type 0
IsFormat1FaultAs given older = IsFormatFaultAs (2 ^ 32) 2097152 false given older None 0

-- and of LUKS2, whose segment's first byte is told in 64 bits (LUKS2 On-Disk Format 1.1, 3)
abbrev pub IsFormat2FaultAs : Given → Bool → Option NewDerivation → ℕ → ℕ → Format → List ℕ → FormatFault → Type 0
IsFormat2FaultAs = IsFormatFaultAs (2 ^ 55) 16777216 true

-- where nothing is given, wherever the payload lies: by LUKS1, by LUKS2 with a derivation that is chosen, and
-- with none
abbrev pub IsFormat1Fault : ℕ → Format → List ℕ → FormatFault → Type 0
IsFormat1Fault = IsFormat1FaultAs (nothing_given Here) false

abbrev pub IsFormat2FaultBy : Option NewDerivation → ℕ → ℕ → Format → List ℕ → FormatFault → Type 0
IsFormat2FaultBy = IsFormat2FaultAs (nothing_given Here) false

abbrev pub IsFormat2Fault : ℕ → Format → List ℕ → FormatFault → Type 0
IsFormat2Fault = IsFormat2FaultBy None 0

-- none of the faults stands
abbrev pub HasNoFault : (FormatFault → Type 0) → Type 0
HasNoFault faults = (f : FormatFault) → faults f → ⊥

-- what is given is sound, the volume is large enough, the iterations are, what is chosen may be made, and the
-- random bytes are as many as it takes
pub record IsFormattable (most least : ℕ) (second : Bool) (given : Given) (chosen : Option NewDerivation) (allowed total : ℕ) (format : Format) (random : List ℕ) : Type 0 where
  pub sound : IsSound (first_sector second given.key_bytes) most given total
  pub large : least ≤ total
  pub iterations : 1000 ≤ format.iterations
  pub makeable : IfSome chosen (IsMakeable allowed)
  pub counted : length random ≡ needed_bytes second given.key_bytes

-- the answer is the first of the faults; or none stands, and the device failed
abbrev pub IsAnsweredFault : (FormatFault → Type 0) → FormatFault → Type 0
IsAnsweredFault faults Device = HasNoFault faults
IsAnsweredFault faults Memory = ⊥
IsAnsweredFault faults f = IsLeast format_key faults f

-- the same of a call that takes memory, and may be refused it
abbrev pub IsAnsweredFaultOrMemory : (FormatFault → Type 0) → FormatFault → Type 0
IsAnsweredFaultOrMemory faults Memory = HasNoFault faults
IsAnsweredFaultOrMemory faults f = IsAnsweredFault faults f

-- the fault is the device's
abbrev pub is_device_fault : FormatFault → Bool
is_device_fault Device = true
is_device_fault f = false

-- how a fault is written
abbrev pub fault_text : FormatFault → List ℕ
fault_text Payload = codes "Payload"
fault_text TooSmall = codes "TooSmall"
fault_text SectorSize = codes "SectorSize"
fault_text Uneven = codes "Uneven"
fault_text Uuid = codes "Uuid"
fault_text BadLabel = codes "BadLabel"
fault_text Cipher = codes "Cipher"
fault_text KeyLength = codes "KeyLength"
fault_text Iterations = codes "Iterations"
fault_text Argon2 = codes "Argon2"
fault_text RandomLength = codes "RandomLength"
fault_text Memory = codes "Memory"
fault_text Device = codes "Device"
