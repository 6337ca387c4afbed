-- Keyslots that were lost where a LUKS1 header was made of what stood of one.
use Rattle.std.specs.Prelude.{◌≡◌, ◌≢◌, ℕ, List}
use Rattle.luks1_header.specs.Header1.{active_word, disabled_word}
use Rattle.luks1_header.specs.declared.luks1.Luks1Slot.{Luks1Slot}
use Rattle.luks1_header.specs.declared.luks1.SlotState.TheVariants.{Disabled}

-- the 48 bytes of the keyslot don't say that it is free, and in the new header it is a disabled one
abbrev pub IsLost : List ℕ → Luks1Slot → Type 0
IsLost e slot = (active_word e ≢ disabled_word) × (slot.state ≡ Disabled)
