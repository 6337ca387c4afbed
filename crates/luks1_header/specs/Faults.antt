-- The faults of a header, and their order.
use Rattle.std.specs.Prelude.{Bool, true, false, ◌≡◌, ◌≢◌, ℕ, ◌<◌, ◌≤◌, List, [], ◌∷◌, length}
use Rattle.luks1_header.specs.Bytes.{HoldsText, IsUuid}
use Rattle.luks1_header.specs.Header1.{luks1_size, HasMagic, version_of, field_at, field_len, header_text, key_bytes_of, mk_digest_iterations_of, entry, active_word, entry_iterations, entry_stripes, enabled_word, disabled_word}
use Rattle.luks1_header.specs.declared.fault.HeadFault.{HeadFault}
use Rattle.luks1_header.specs.declared.fault.HeadFault.TheVariants as fault
use Rattle.luks1_header.specs.declared.fault.TextField.{TextField}
use Rattle.luks1_header.specs.declared.fault.TextField.TheVariants as field
use Rattle.luks1_header.specs.declared.fault.IterationsOf.{IterationsOf}
use Rattle.luks1_header.specs.declared.fault.IterationsOf.TheVariants as of

-- the rows of the table of faults, in their order
abbrev pub head_row : HeadFault → ℕ
head_row fault.TooShort = 1
head_row fault.NotLuks = 2
head_row fault.Version = 3
head_row fault.NoSoundCopy = 4
head_row (fault.Text t) = 5
head_row fault.Uuid = 6
head_row (fault.SlotState n) = 7
head_row fault.KeyBytes = 8
head_row (fault.Stripes n) = 9
head_row (fault.Iterations o) = 10
head_row fault.Device = 11
head_row fault.Memory = 12

-- the texts in the order of their fields
abbrev pub field_key : TextField → ℕ
field_key field.CipherName = 0
field_key field.CipherMode = 1
field_key field.HashSpec = 2
field_key field.Uuid = 3

-- the key slots by number, then the digest
abbrev pub of_key : IterationsOf → List ℕ
of_key (of.Slot n) = 0 ∷ n ∷ []
of_key of.Digest = 1 ∷ []

-- the place of a fault among those of its row
abbrev pub head_place : HeadFault → List ℕ
head_place (fault.Text t) = field_key t ∷ []
head_place (fault.SlotState n) = n ∷ []
head_place (fault.Stripes n) = n ∷ []
head_place (fault.Iterations o) = of_key o
head_place _ = []

-- a fault's row and its place there: the order of faults is that of these keys
abbrev pub head_key : HeadFault → List ℕ
head_key f = head_row f ∷ head_place f

-- the text field of the LUKS1 header of v holds a byte outside 0x20 to 0x7E
abbrev pub HasBadText : List ℕ → TextField → Type 0
HasBadText v t = HoldsText v (field_at t) (field_len t) → ⊥

-- the number of bytes of the key isn't from 1 to 128
abbrev pub HasBadKeyBytes : List ℕ → Type 0
HasBadKeyBytes v = 1 ≤ key_bytes_of v → key_bytes_of v ≤ 128 → ⊥

-- the active word of a key slot's 48 bytes is neither of the two
abbrev pub HasUnknownState : List ℕ → Type 0
HasUnknownState e = (active_word e ≢ enabled_word) × (active_word e ≢ disabled_word)

-- an enabled key slot has no iterations
abbrev pub LacksIterations : List ℕ → Type 0
LacksIterations e = (active_word e ≡ enabled_word) × (entry_iterations e ≡ 0)

-- the faults of a volume v taken as one with a LUKS1 header
abbrev pub IsLuks1Fault : List ℕ → HeadFault → Type 0
IsLuks1Fault v fault.TooShort = length v < luks1_size
IsLuks1Fault v fault.NotLuks = HasMagic v → ⊥
IsLuks1Fault v fault.Version = version_of v ≢ 1
IsLuks1Fault v (fault.Text t) = HasBadText v t
IsLuks1Fault v fault.Uuid = IsUuid (header_text v field.Uuid) → ⊥
IsLuks1Fault v (fault.SlotState n) = (n < 8) × HasUnknownState (entry v n)
IsLuks1Fault v fault.KeyBytes = HasBadKeyBytes v
IsLuks1Fault v (fault.Stripes n) = (n < 8) × (entry_stripes (entry v n) ≡ 0)
IsLuks1Fault v (fault.Iterations (of.Slot n)) = (n < 8) × LacksIterations (entry v n)
IsLuks1Fault v (fault.Iterations of.Digest) = mk_digest_iterations_of v ≡ 0
IsLuks1Fault v _ = ⊥

-- the fault is of the bytes before the key slots
abbrev pub IsBeforeSlots : HeadFault → Type 0
IsBeforeSlots fault.NotLuks = Unit {0}
IsBeforeSlots fault.Version = Unit {0}
IsBeforeSlots (fault.Text t) = Unit {0}
IsBeforeSlots fault.Uuid = Unit {0}
IsBeforeSlots fault.KeyBytes = Unit {0}
IsBeforeSlots (fault.Iterations of.Digest) = Unit {0}
IsBeforeSlots _ = ⊥

-- the faults of the 208 bytes before the key slots: those of the header without the slots'
abbrev pub IsCommonFault : List ℕ → HeadFault → Type 0
IsCommonFault v f = IsBeforeSlots f × IsLuks1Fault v f

-- the faults of the 48 bytes of the key slot n
abbrev pub IsEntryFault : ℕ → List ℕ → HeadFault → Type 0
IsEntryFault n e (fault.SlotState m) = (m ≡ n) × HasUnknownState e
IsEntryFault n e (fault.Stripes m) = (m ≡ n) × (entry_stripes e ≡ 0)
IsEntryFault n e (fault.Iterations (of.Slot m)) = (m ≡ n) × LacksIterations e
IsEntryFault n e _ = ⊥

-- the fault is the device's
abbrev pub is_device_fault : HeadFault → Bool
is_device_fault fault.Device = true
is_device_fault _ = false
