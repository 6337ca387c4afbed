-- The faults that opening and sealing a keyslot answer, and how they are written.
use Rattle.std.specs.Prelude.{◌≡◌, ℕ, List, Bool, true, false, Some, None, codes}
use Rattle.luks_slot.specs.declared.allowed.Allowed.{Allowed}
use Rattle.luks_slot.specs.declared.fault.SlotFault.{SlotFault}
use Rattle.luks_slot.specs.declared.fault.SlotFault.TheVariants.{Argon2, Cipher, Hash, KeySize, Device, Memory}
use Rattle.luks_slot.specs.declared.plan.SlotPlan.{SlotPlan}
use Rattle.luks_slot.specs.Refusal.{is_argon2, slot_refusal, slot_refusal_within}

-- where so much is allowed: a fault of the plan is its first refusal; the device fails only where the
-- plan isn't refused; so is memory refused, which Argon2 alone takes
abbrev pub IsAnsweredWithin : Allowed → SlotPlan → SlotFault → Type 0
IsAnsweredWithin allowed plan Argon2 = slot_refusal_within allowed plan ≡ Some Argon2
IsAnsweredWithin allowed plan Cipher = slot_refusal_within allowed plan ≡ Some Cipher
IsAnsweredWithin allowed plan Hash = slot_refusal_within allowed plan ≡ Some Hash
IsAnsweredWithin allowed plan KeySize = slot_refusal_within allowed plan ≡ Some KeySize
IsAnsweredWithin allowed plan Device = slot_refusal_within allowed plan ≡ None
IsAnsweredWithin allowed plan Memory = (slot_refusal_within allowed plan ≡ None) × (is_argon2 plan.derivation ≡ true)

-- where nothing is allowed, memory is never refused, since none is taken
abbrev pub IsAnsweredFault : SlotPlan → SlotFault → Type 0
IsAnsweredFault plan Argon2 = slot_refusal plan ≡ Some Argon2
IsAnsweredFault plan Cipher = slot_refusal plan ≡ Some Cipher
IsAnsweredFault plan Hash = slot_refusal plan ≡ Some Hash
IsAnsweredFault plan KeySize = slot_refusal plan ≡ Some KeySize
IsAnsweredFault plan Device = slot_refusal plan ≡ None
IsAnsweredFault plan Memory = ⊥

-- the fault is the device's
abbrev pub is_device_fault : SlotFault → Bool
is_device_fault Device = true
is_device_fault f = false

-- how a fault is written
abbrev pub fault_text : SlotFault → List ℕ
fault_text Argon2 = codes "Argon2"
fault_text Cipher = codes "Cipher"
fault_text Hash = codes "Hash"
fault_text KeySize = codes "KeySize"
fault_text Device = codes "Device"
fault_text Memory = codes "Memory"
