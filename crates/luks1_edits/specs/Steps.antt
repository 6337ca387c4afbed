-- What the steps of an edit of a LUKS1 volume leave, each of which writes one range.
use Rattle.std.specs.Prelude.{◌≡◌, ℕ, Bool, List, drop, take, ⊤, Some}
use Rattle.luks_area.specs.declared.area.Area.{Area}
use Rattle.luks_area.specs.Ranges.{IsAt, SameBut}
use Rattle.luks1_header.specs.Header1.{entry, entry_size, HoldsEntry}
use Rattle.luks1_header.specs.declared.luks1.Luks1Slot.{Luks1Slot}
use Rattle.luks_slot.specs.declared.plan.SlotPlan.{SlotPlan}
use Rattle.luks_slot.specs.Allowance.{without_memory}
use Rattle.luks_slot.specs.Refusal.{slot_refusal_within}
use Rattle.luks_slot.specs.declared.fault.SlotFault.{SlotFault}
use Rattle.luks_reading.specs.Plans.{IsLuks1Plan}
use Rattle.luks_edit.specs.declared.edit_fault.EditFault.{EditFault}
use Rattle.luks_edit.specs.declared.edit_fault.EditFault.TheVariants as fault
use Rattle.luks1_edits.specs.Edited.{HoldsKey, IsMade}
use Rattle.luks1_edits.specs.Kept.{IsEither}
use Rattle.luks1_edits.specs.Places.{area_len, area_start, entry_place, IsOfKeyslots}

-- the keyslot `n` of the volume says `s`, and its area `a` lies apart from its entry
pub record IsKeyslotAt (v : List ℕ) (n : ℕ) (s : Luks1Slot) (a : Area) : Type 0 where
  pub says : HoldsEntry (entry v n) s
  pub start : a.start ≡ area_start v n
  pub len : a.len ≡ area_len v n
  pub apart : (p : ℕ) → IsAt (entry_place n) entry_size p → IsAt a.start a.len p → ⊥

-- the keyslot `n` was made, in which the passphrase opens the key, and nothing else changed
pub record IsKeyslotMade
    (v : List ℕ) (n iterations : ℕ) (passphrase key random w : List ℕ)
    : Type 0 where
  pub rest : SameBut (IsOfKeyslots v (IsEither n n)) v w
  pub made : IsMade (entry v n) (entry w n) iterations (take 32 random)
  pub holds : HoldsKey w n passphrase key (drop 32 random)

-- a keyslot of the header `h` has a plan that is refused by `f`, with ciphers and hashes of older disks
-- where `older` says so
pub record HasRefusedKeyslot (older : Bool) (h : List ℕ) (f : SlotFault) : Type 0 where
  pub plan : SlotPlan
  pub bytes : List ℕ
  pub is : IsLuks1Plan h bytes plan
  pub refused : slot_refusal_within (without_memory older) plan ≡ Some f

-- why a keyslot isn't made, unless the device failed
abbrev pub IsUnmade : Bool → List ℕ → EditFault → Type 0
IsUnmade older h (fault.Slot f) = HasRefusedKeyslot older h f
IsUnmade older h fault.Device = ⊤
IsUnmade older h f = ⊥
