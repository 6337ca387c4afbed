-- Why the search for what a checksum vouches for is broken off, and how that is written.
use Rattle.std.specs.Prelude.{ℕ, List, Bool, true, false, codes}
use Rattle.luks_vouching.specs.Vouched.{Stands}
use Rattle.luks_vouching.specs.declared.vouch_fault.VouchFault.{VouchFault}
use Rattle.luks_vouching.specs.declared.vouch_fault.VouchFault.TheVariants.{Memory, Device}

-- the fault is the device's
abbrev pub is_vouch_failure : VouchFault → Bool
is_vouch_failure Memory = false
is_vouch_failure Device = true

abbrev pub vouch_fault_text : VouchFault → List ℕ
vouch_fault_text Memory = codes "Memory"
vouch_fault_text Device = codes "Device"

-- memory is taken only where the binary header stands
abbrev pub IsMemoryWhereStands : List ℕ → ℕ → ℕ → VouchFault → Type 0
IsMemoryWhereStands v size o Memory = Stands v size o
IsMemoryWhereStands v size o Device = Unit {0}
