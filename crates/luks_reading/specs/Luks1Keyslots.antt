-- What has been judged of a LUKS1 header on the way to a keyslot.
use Rattle.std.specs.Prelude.{◌≡◌, ℕ, ◌<◌, ◌≤◌, List, length, Bool, false, Option}
use Rattle.luks_area.specs.First.{IsLeast}
use Rattle.luks_area.specs.Ranges.{part}
use Rattle.luks1_header.specs.declared.fault.HeadFault.{HeadFault}
use Rattle.luks1_header.specs.declared.luks1.Luks1Slot.{Luks1Slot}
use Rattle.luks1_header.specs.Faults.{head_key, IsEntryFault}
use Rattle.luks1_header.specs.Header1.{active_word, disabled_word, enabled_word, entry, IsEntry}
use Rattle.luks_slot.specs.declared.plan.SlotPlan.{SlotPlan}
use Rattle.luks_slot.specs.Opening.{slot_key}
use Rattle.luks_reading.specs.declared.open_fault.OpenFault.{OpenFault}
use Rattle.luks_reading.specs.declared.open_fault.OpenFault.TheVariants.{Head, Meta, NoSuchSlot, SlotFree, Outside, Slot, Device, Memory}
use Rattle.luks_reading.specs.Answer.{open_key, IsLuks1Refusal}
use Rattle.luks_reading.specs.Failures.{is_open_failure}
use Rattle.luks_reading.specs.Plans.{HasLuks1Plan}

-- the keyslot `n` of the header `h` is fit for use and in use, and says `s`
pub record IsEnabled (h : List ℕ) (n : ℕ) (s : Luks1Slot) : Type 0 where
  pub numbered : n < 8
  pub says : IsEntry (entry h n) s
  pub faultless : (f : HeadFault) → IsEntryFault n (entry h n) f → ⊥
  pub enabled : active_word (entry h n) ≡ enabled_word

pub record IsFree (h : List ℕ) (n : ℕ) : Type 0 where
  pub numbered : n < 8
  pub faultless : (f : HeadFault) → IsEntryFault n (entry h n) f → ⊥
  pub disabled : active_word (entry h n) ≡ disabled_word

pub record IsDamaged (h : List ℕ) (n : ℕ) (f : HeadFault) : Type 0 where
  pub numbered : n < 8
  pub least : IsLeast head_key (IsEntryFault n (entry h n)) f

-- the keyslot `n` of the header `h` is refused by its number or by its entry
abbrev pub EntryRefused : List ℕ → ℕ → OpenFault → Type 0
EntryRefused h n (Head f) = IsDamaged h n f
EntryRefused h n NoSuchSlot = 8 ≤ n
EntryRefused h n SlotFree = IsFree h n
EntryRefused h n (Meta f) = ⊥
EntryRefused h n Outside = ⊥
EntryRefused h n (Slot f) = ⊥
EntryRefused h n Device = ⊥
EntryRefused h n Memory = ⊥

-- ---- with `older` ciphers and hashes or without

-- opening the keyslot `n` is refused by the header `h` in a volume of `total` bytes, unless the device
-- failed; no memory is taken
abbrev pub Luks1Refused : Bool → List ℕ → ℕ → ℕ → OpenFault → Type 0
Luks1Refused older h total n f = is_open_failure f ≡ false → IsLeast open_key (IsLuks1Refusal older h total n) f

-- the keyslot `n` of the volume `v` with the header `h` opens to `found`
pub record Luks1Opens (older : Bool) (h v : List ℕ) (n : ℕ) (p : List ℕ) (found : Option (List ℕ)) : Type 0 where
  pub plan : SlotPlan
  pub is : HasLuks1Plan h n plan
  pub unrefused : (f : OpenFault) → IsLuks1Refusal older h (length v) n f → ⊥
  pub key : slot_key plan (part v plan.area.start plan.area.len) p ≡ found
