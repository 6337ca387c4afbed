-- The faults that the program prints, by their names: what precedes a bracket.
use Rattle.std.specs.Prelude.{◌≡◌, ◌==◌, ℕ, List, [], ◌∷◌, Option, Some, codes, find, refl}
use Rattle.std.specs.List.{before_first}
use Rattle.std.specs.Str.{bytes_eq, str_eq_ignore_ascii_case}
use Rattle.luks_explain.specs.declared.fault.Fault.{Fault}
use Rattle.luks_explain.specs.declared.fault.Fault.TheVariants as fault

-- the name in a fault as it is printed: what precedes its first bracket, or all of it
abbrev pub name_in : List ℕ → List ℕ
name_in printed = before_first (λ c. c == 40) printed

abbrev pub name_of : Fault → List ℕ
name_of fault.TooShort = codes "TooShort"
name_of fault.NotLuks = codes "NotLuks"
name_of fault.Version = codes "Version"
name_of fault.NoSoundCopy = codes "NoSoundCopy"
name_of fault.Text = codes "Text"
name_of fault.Uuid = codes "Uuid"
name_of fault.SlotState = codes "SlotState"
name_of fault.KeyBytes = codes "KeyBytes"
name_of fault.Stripes = codes "Stripes"
name_of fault.Iterations = codes "Iterations"
name_of fault.JsonArea = codes "JsonArea"
name_of fault.BadJson = codes "BadJson"
name_of fault.NotWhole = codes "NotWhole"
name_of fault.Shape = codes "Shape"
name_of fault.Kind = codes "Kind"
name_of fault.NoSuchName = codes "NoSuchName"
name_of fault.Assigned = codes "Assigned"
name_of fault.Sizes = codes "Sizes"
name_of fault.AreaTooSmall = codes "AreaTooSmall"
name_of fault.Region = codes "Region"
name_of fault.UnderWay = codes "UnderWay"
name_of fault.Outside = codes "Outside"
name_of fault.Overlap = codes "Overlap"
name_of fault.NoSuchSlot = codes "NoSuchSlot"
name_of fault.SameSlot = codes "SameSlot"
name_of fault.SlotFree = codes "SlotFree"
name_of fault.NoKey = codes "NoKey"
name_of fault.Argon2 = codes "Argon2"
name_of fault.Cipher = codes "Cipher"
name_of fault.Hash = codes "Hash"
name_of fault.KeySize = codes "KeySize"
name_of fault.NoSuchDigest = codes "NoSuchDigest"
name_of fault.KeyLength = codes "KeyLength"
name_of fault.WrongKey = codes "WrongKey"
name_of fault.Locked = codes "Locked"
name_of fault.Passphrase = codes "Passphrase"
name_of fault.Requirements = codes "Requirements"
name_of fault.SlotTaken = codes "SlotTaken"
name_of fault.NoFreeSlot = codes "NoFreeSlot"
name_of fault.NoRoom = codes "NoRoom"
name_of fault.LastSlot = codes "LastSlot"
name_of fault.BadLabel = codes "BadLabel"
name_of fault.NoSuchToken = codes "NoSuchToken"
name_of fault.TokenTaken = codes "TokenTaken"
name_of fault.NoFreeToken = codes "NoFreeToken"
name_of fault.UnreadableToken = codes "UnreadableToken"
name_of fault.BadUuid = codes "BadUuid"
name_of fault.SeqExhausted = codes "SeqExhausted"
name_of fault.MetadataFull = codes "MetadataFull"
name_of fault.RandomLength = codes "RandomLength"
name_of fault.Payload = codes "Payload"
name_of fault.TooSmall = codes "TooSmall"
name_of fault.SectorSize = codes "SectorSize"
name_of fault.Uneven = codes "Uneven"
name_of fault.NotLuks1 = codes "NotLuks1"
name_of fault.SameFile = codes "SameFile"
name_of fault.Counts = codes "Counts"
name_of fault.NoMetadata = codes "NoMetadata"
name_of fault.NoHeader = codes "NoHeader"
name_of fault.Exists = codes "Exists"
name_of fault.NotAccepted = codes "NotAccepted"
name_of fault.DoesNotFit = codes "DoesNotFit"
name_of fault.OtherVolume = codes "OtherVolume"
name_of fault.OtherUse = codes "OtherUse"
name_of fault.Reencrypting = codes "Reencrypting"
name_of fault.Progressed = codes "Progressed"
name_of fault.NotUnderWay = codes "NotUnderWay"

-- each of them, once
abbrev pub all_faults : List Fault
all_faults =
    fault.TooShort
    ∷ fault.NotLuks
    ∷ fault.Version
    ∷ fault.NoSoundCopy
    ∷ fault.Text
    ∷ fault.Uuid
    ∷ fault.SlotState
    ∷ fault.KeyBytes
    ∷ fault.Stripes
    ∷ fault.Iterations
    ∷ fault.JsonArea
    ∷ fault.BadJson
    ∷ fault.NotWhole
    ∷ fault.Shape
    ∷ fault.Kind
    ∷ fault.NoSuchName
    ∷ fault.Assigned
    ∷ fault.Sizes
    ∷ fault.AreaTooSmall
    ∷ fault.Region
    ∷ fault.UnderWay
    ∷ fault.Outside
    ∷ fault.Overlap
    ∷ fault.NoSuchSlot
    ∷ fault.SameSlot
    ∷ fault.SlotFree
    ∷ fault.NoKey
    ∷ fault.Argon2
    ∷ fault.Cipher
    ∷ fault.Hash
    ∷ fault.KeySize
    ∷ fault.NoSuchDigest
    ∷ fault.KeyLength
    ∷ fault.WrongKey
    ∷ fault.Locked
    ∷ fault.Passphrase
    ∷ fault.Requirements
    ∷ fault.SlotTaken
    ∷ fault.NoFreeSlot
    ∷ fault.NoRoom
    ∷ fault.LastSlot
    ∷ fault.BadLabel
    ∷ fault.NoSuchToken
    ∷ fault.TokenTaken
    ∷ fault.NoFreeToken
    ∷ fault.UnreadableToken
    ∷ fault.BadUuid
    ∷ fault.SeqExhausted
    ∷ fault.MetadataFull
    ∷ fault.RandomLength
    ∷ fault.Payload
    ∷ fault.TooSmall
    ∷ fault.SectorSize
    ∷ fault.Uneven
    ∷ fault.NotLuks1
    ∷ fault.SameFile
    ∷ fault.Counts
    ∷ fault.NoMetadata
    ∷ fault.NoHeader
    ∷ fault.Exists
    ∷ fault.NotAccepted
    ∷ fault.DoesNotFit
    ∷ fault.OtherVolume
    ∷ fault.OtherUse
    ∷ fault.Reencrypting
    ∷ fault.Progressed
    ∷ fault.NotUnderWay
    ∷ []

-- the fault of a name, if there is one
abbrev pub fault_named : List ℕ → Option Fault
fault_named name = find (λ f. bytes_eq name (name_of f)) all_faults

-- each is known by its name, so that no two have the same
pub named : (f : Fault) → fault_named (name_of f) ≡ Some f
named fault.TooShort = refl
named fault.NotLuks = refl
named fault.Version = refl
named fault.NoSoundCopy = refl
named fault.Text = refl
named fault.Uuid = refl
named fault.SlotState = refl
named fault.KeyBytes = refl
named fault.Stripes = refl
named fault.Iterations = refl
named fault.JsonArea = refl
named fault.BadJson = refl
named fault.NotWhole = refl
named fault.Shape = refl
named fault.Kind = refl
named fault.NoSuchName = refl
named fault.Assigned = refl
named fault.Sizes = refl
named fault.AreaTooSmall = refl
named fault.Region = refl
named fault.UnderWay = refl
named fault.Outside = refl
named fault.Overlap = refl
named fault.NoSuchSlot = refl
named fault.SameSlot = refl
named fault.SlotFree = refl
named fault.NoKey = refl
named fault.Argon2 = refl
named fault.Cipher = refl
named fault.Hash = refl
named fault.KeySize = refl
named fault.NoSuchDigest = refl
named fault.KeyLength = refl
named fault.WrongKey = refl
named fault.Locked = refl
named fault.Passphrase = refl
named fault.Requirements = refl
named fault.SlotTaken = refl
named fault.NoFreeSlot = refl
named fault.NoRoom = refl
named fault.LastSlot = refl
named fault.BadLabel = refl
named fault.NoSuchToken = refl
named fault.TokenTaken = refl
named fault.NoFreeToken = refl
named fault.UnreadableToken = refl
named fault.BadUuid = refl
named fault.SeqExhausted = refl
named fault.MetadataFull = refl
named fault.RandomLength = refl
named fault.Payload = refl
named fault.TooSmall = refl
named fault.SectorSize = refl
named fault.Uneven = refl
named fault.NotLuks1 = refl
named fault.SameFile = refl
named fault.Counts = refl
named fault.NoMetadata = refl
named fault.NoHeader = refl
named fault.Exists = refl
named fault.NotAccepted = refl
named fault.DoesNotFit = refl
named fault.OtherVolume = refl
named fault.OtherUse = refl
named fault.Reencrypting = refl
named fault.Progressed = refl
named fault.NotUnderWay = refl

-- the fault of a name as a person writes it, with capital letters or small ones, if there is one
abbrev pub fault_called : List ℕ → Option Fault
fault_called name = find (λ f. str_eq_ignore_ascii_case name (name_of f)) all_faults

-- each is known by its name so, too: no two names differ in capital and small letters alone
pub called : (f : Fault) → fault_called (name_of f) ≡ Some f
called fault.TooShort = refl
called fault.NotLuks = refl
called fault.Version = refl
called fault.NoSoundCopy = refl
called fault.Text = refl
called fault.Uuid = refl
called fault.SlotState = refl
called fault.KeyBytes = refl
called fault.Stripes = refl
called fault.Iterations = refl
called fault.JsonArea = refl
called fault.BadJson = refl
called fault.NotWhole = refl
called fault.Shape = refl
called fault.Kind = refl
called fault.NoSuchName = refl
called fault.Assigned = refl
called fault.Sizes = refl
called fault.AreaTooSmall = refl
called fault.Region = refl
called fault.UnderWay = refl
called fault.Outside = refl
called fault.Overlap = refl
called fault.NoSuchSlot = refl
called fault.SameSlot = refl
called fault.SlotFree = refl
called fault.NoKey = refl
called fault.Argon2 = refl
called fault.Cipher = refl
called fault.Hash = refl
called fault.KeySize = refl
called fault.NoSuchDigest = refl
called fault.KeyLength = refl
called fault.WrongKey = refl
called fault.Locked = refl
called fault.Passphrase = refl
called fault.Requirements = refl
called fault.SlotTaken = refl
called fault.NoFreeSlot = refl
called fault.NoRoom = refl
called fault.LastSlot = refl
called fault.BadLabel = refl
called fault.NoSuchToken = refl
called fault.TokenTaken = refl
called fault.NoFreeToken = refl
called fault.UnreadableToken = refl
called fault.BadUuid = refl
called fault.SeqExhausted = refl
called fault.MetadataFull = refl
called fault.RandomLength = refl
called fault.Payload = refl
called fault.TooSmall = refl
called fault.SectorSize = refl
called fault.Uneven = refl
called fault.NotLuks1 = refl
called fault.SameFile = refl
called fault.Counts = refl
called fault.NoMetadata = refl
called fault.NoHeader = refl
called fault.Exists = refl
called fault.NotAccepted = refl
called fault.DoesNotFit = refl
called fault.OtherVolume = refl
called fault.OtherUse = refl
called fault.Reencrypting = refl
called fault.Progressed = refl
called fault.NotUnderWay = refl
