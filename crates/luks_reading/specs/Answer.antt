-- What opening a keyslot of a volume gives: a key, none, or the first refusal.
use Rattle.std.specs.Prelude.{◌≡◌, ℕ, ◌+◌, ◌<◌, ◌≤◌, List, [], ◌∷◌, length, Bool, true, Option, Some, None, ⊤}
use Rattle.serde_json.specs.Data.{Data as Value}
use Rattle.luks_area.specs.First.{IsLeast}
use Rattle.luks_area.specs.Ranges.{part}
use Rattle.luks1_header.specs.declared.fault.HeadFault.{HeadFault}
use Rattle.luks1_header.specs.declared.fault.HeadFault.TheVariants as head
use Rattle.luks1_header.specs.declared.fault.IterationsOf.TheVariants as of
use Rattle.luks1_header.specs.Faults.{head_key, IsCommonFault, IsEntryFault}
use Rattle.luks1_header.specs.Header1.{active_word, disabled_word, entry}
use Rattle.luks2_header.specs.Header2.{header_at, uuid_field, IsUuidFault}
use Rattle.luks2_header.specs.Selection.{Choice, luks1, luks2, nothing, Chosen, IsSelectFault}
use Rattle.luks_rules.specs.declared.table.Section.TheVariants.{Keyslots}
use Rattle.luks_meta.specs.Faults.{object_at}
use Rattle.luks_meta.specs.MetaFault.{Json, IsMetaFault, meta_key}
use Rattle.luks_slot.specs.declared.allowed.Allowed.{Allowed}
use Rattle.luks_slot.specs.declared.fault.SlotFault.{SlotFault}
use Rattle.luks_slot.specs.declared.fault.SlotFault.TheVariants as slot
use Rattle.luks_slot.specs.declared.plan.SlotPlan.{SlotPlan}
use Rattle.luks_slot.specs.Allowance.{none_allowed, without_memory}
use Rattle.luks_slot.specs.Opening.{slot_key}
use Rattle.luks_slot.specs.Refusal.{is_argon2, slot_refusal_within}
use Rattle.luks_reading.specs.declared.open_fault.OpenFault.{OpenFault}
use Rattle.luks_reading.specs.declared.open_fault.OpenFault.TheVariants.{Head, Meta, NoSuchSlot, SlotFree, Outside, Slot, Device, Memory}
use Rattle.luks_reading.specs.Header.{json_at, NeedsMetadata}
use Rattle.luks_reading.specs.Plans.{HasLuks1Plan, HasLuks2Plan}

-- ---- the order of the refusals

-- the header, the metadata, the keyslot's being there, its entry, its use, its area, its plan
abbrev pub head_step : HeadFault → ℕ
head_step (head.SlotState m) = 4
head_step (head.Stripes m) = 4
head_step (head.Iterations (of.Slot m)) = 4
head_step f = 1

abbrev pub slot_row : SlotFault → ℕ
slot_row slot.Argon2 = 1
slot_row slot.Cipher = 2
slot_row slot.Hash = 3
slot_row slot.KeySize = 4
slot_row slot.Device = 5
slot_row slot.Memory = 6

abbrev pub open_key : OpenFault → List ℕ
open_key (Head f) = head_step f ∷ head_key f
open_key (Meta f) = 2 ∷ meta_key f
open_key NoSuchSlot = 3 ∷ []
open_key SlotFree = 5 ∷ []
open_key Outside = 6 ∷ []
open_key (Slot f) = 7 ∷ slot_row f ∷ []
open_key Device = 8 ∷ []
open_key Memory = 9 ∷ []

-- ---- the refusals

-- the keyslot's whole area isn't inside a volume of `total` bytes
pub record HasAreaPast (plans : SlotPlan → Type 0) (total : ℕ) : Type 0 where
  pub plan : SlotPlan
  pub is : plans plan
  pub past : total < plan.area.start + plan.area.len

-- the keyslot's plan is refused where so much is allowed
pub record HasRefusedPlanWithin (allowed : Allowed) (plans : SlotPlan → Type 0) (f : SlotFault) : Type 0 where
  pub plan : SlotPlan
  pub is : plans plan
  pub refused : slot_refusal_within allowed plan ≡ Some f

-- the faults of the LUKS1 header `h` that opening the keyslot `n` looks at: those of the fields
-- before the keyslots, and those of its own entry
abbrev pub IsLuks1HeadRefusal : List ℕ → ℕ → HeadFault → Type 0
IsLuks1HeadRefusal h n (head.SlotState m) = (n < 8) × IsEntryFault n (entry h n) (head.SlotState m)
IsLuks1HeadRefusal h n (head.Stripes m) = (n < 8) × IsEntryFault n (entry h n) (head.Stripes m)
IsLuks1HeadRefusal h n (head.Iterations (of.Slot m)) = (n < 8) × IsEntryFault n (entry h n) (head.Iterations (of.Slot m))
IsLuks1HeadRefusal h n f = IsCommonFault h f

-- of the keyslot `n` of a volume of `total` bytes that begins with the LUKS1 header `h`, with `older` ciphers
-- and hashes or without; it never derives by Argon2
abbrev pub IsLuks1Refusal : Bool → List ℕ → ℕ → ℕ → OpenFault → Type 0
IsLuks1Refusal older h total n (Head f) = IsLuks1HeadRefusal h n f
IsLuks1Refusal older h total n (Meta f) = ⊥
IsLuks1Refusal older h total n NoSuchSlot = 8 ≤ n
IsLuks1Refusal older h total n SlotFree = (n < 8) × (active_word (entry h n) ≡ disabled_word)
IsLuks1Refusal older h total n Outside = HasAreaPast (HasLuks1Plan h n) total
IsLuks1Refusal older h total n (Slot f) = HasRefusedPlanWithin (without_memory older) (HasLuks1Plan h n) f
IsLuks1Refusal older h total n Device = ⊥
IsLuks1Refusal older h total n Memory = ⊥

-- the metadata has no keyslot `n`
pub record HasNoKeyslot (json : List ℕ) (n : ℕ) : Type 0 where
  pub value : Value
  pub holds : Json json value
  pub absent : n < 32 → object_at value Keyslots n ≡ None

-- of the keyslot `n` of a volume of `total` bytes whose LUKS2 copy that counts has the binary header
-- `b` and the JSON area `json`, where so much is allowed
abbrev pub IsLuks2RefusalWithin : Allowed → List ℕ → List ℕ → ℕ → ℕ → OpenFault → Type 0
IsLuks2RefusalWithin allowed b json total n (Head f) = IsUuidFault (uuid_field b) f
IsLuks2RefusalWithin allowed b json total n (Meta f) = IsMetaFault json f
IsLuks2RefusalWithin allowed b json total n NoSuchSlot = HasNoKeyslot json n
IsLuks2RefusalWithin allowed b json total n SlotFree = ⊥
IsLuks2RefusalWithin allowed b json total n Outside = HasAreaPast (HasLuks2Plan json n) total
IsLuks2RefusalWithin allowed b json total n (Slot f) = HasRefusedPlanWithin allowed (HasLuks2Plan json n) f
IsLuks2RefusalWithin allowed b json total n Device = ⊥
IsLuks2RefusalWithin allowed b json total n Memory = ⊥

-- of a volume of which nothing counts
abbrev pub IsSelectRefusal : List ℕ → OpenFault → Type 0
IsSelectRefusal v (Head f) = IsSelectFault v f
IsSelectRefusal v (Meta f) = ⊥
IsSelectRefusal v NoSuchSlot = ⊥
IsSelectRefusal v SlotFree = ⊥
IsSelectRefusal v Outside = ⊥
IsSelectRefusal v (Slot f) = ⊥
IsSelectRefusal v Device = ⊥
IsSelectRefusal v Memory = ⊥

-- ---- any volume, where so much is allowed

-- by what counts of the volume `v`: the refusals of the keyslot `n`, and its plan
abbrev pub IsRefusalAsWithin : Allowed → List ℕ → ℕ → Choice → OpenFault → Type 0
IsRefusalAsWithin allowed v n luks1 f = IsLuks1Refusal allowed.older (part v 0 592) (length v) n f
IsRefusalAsWithin allowed v n (luks2 o copies) f = IsLuks2RefusalWithin allowed (header_at v o) (json_at v o) (length v) n f
IsRefusalAsWithin allowed v n nothing f = IsSelectRefusal v f

abbrev pub HasPlanAs : List ℕ → ℕ → Choice → SlotPlan → Type 0
HasPlanAs v n luks1 plan = HasLuks1Plan (part v 0 592) n plan
HasPlanAs v n (luks2 o copies) plan = HasLuks2Plan (json_at v o) n plan
HasPlanAs v n nothing plan = ⊥

-- the set of the refusals of the keyslot `n` of the volume `v`
pub record IsRefusalWithin (allowed : Allowed) (v : List ℕ) (n : ℕ) (f : OpenFault) : Type 0 where
  pub choice : Choice
  pub chosen : Chosen v choice
  pub fault : IsRefusalAsWithin allowed v n choice f

-- the first of a set of refusals, or none where the set has none
abbrev pub FirstRefusal : (OpenFault → Type 0) → Option OpenFault → Type 0
FirstRefusal refusals (Some f) = IsLeast open_key refusals f
FirstRefusal refusals None = (f : OpenFault) → refusals f → ⊥

-- nothing refuses the keyslot `n` of the volume `v`, and its plan gives `found` by the passphrase `p`:
-- the standards' equations applied to the area's bytes, where their key meets the stored digest
pub record OpensWithin (allowed : Allowed) (v : List ℕ) (n : ℕ) (p : List ℕ) (found : Option (List ℕ)) : Type 0 where
  pub choice : Choice
  pub chosen : Chosen v choice
  pub plan : SlotPlan
  pub is : HasPlanAs v n choice plan
  pub unrefused : (f : OpenFault) → IsRefusalAsWithin allowed v n choice f → ⊥
  pub key : slot_key plan (part v plan.area.start plan.area.len) p ≡ found

-- nothing refuses the keyslot `n` of the volume `v`, and it derives by Argon2, which takes memory
pub record TakesMemory (allowed : Allowed) (v : List ℕ) (n : ℕ) : Type 0 where
  pub choice : Choice
  pub chosen : Chosen v choice
  pub plan : SlotPlan
  pub is : HasPlanAs v n choice plan
  pub unrefused : (f : OpenFault) → IsRefusalAsWithin allowed v n choice f → ⊥
  pub argon2 : is_argon2 plan.derivation ≡ true

-- what opening a keyslot gives
pub data Opened : Type 0 where
  refused : OpenFault → Opened
  opens : List ℕ → Opened
  no_key : Opened

-- what opening the keyslot `n` of the volume `v` by the passphrase `p` gives
abbrev pub AnswerWithin : Allowed → List ℕ → ℕ → List ℕ → Opened → Type 0
AnswerWithin allowed v n p (refused f) = IsLeast open_key (IsRefusalWithin allowed v n) f
AnswerWithin allowed v n p (opens k) = OpensWithin allowed v n p (Some k)
AnswerWithin allowed v n p no_key = OpensWithin allowed v n p None

-- the key that was found, or none, as an answer
abbrev pub opened_to : Option (List ℕ) → Opened
opened_to (Some k) = opens k
opened_to None = no_key

-- the keyslot is refused as the answer says, unless the device failed or memory was refused
abbrev pub IsRefusedByWithin : Allowed → List ℕ → ℕ → List ℕ → OpenFault → Type 0
IsRefusedByWithin allowed v n p Device = ⊤
IsRefusedByWithin allowed v n p Memory = NeedsMetadata v
IsRefusedByWithin allowed v n p f = AnswerWithin allowed v n p (refused f)

-- ---- the same where nothing is allowed

abbrev pub IsLuks2Refusal : List ℕ → List ℕ → ℕ → ℕ → OpenFault → Type 0
IsLuks2Refusal b json total n f = IsLuks2RefusalWithin none_allowed b json total n f

abbrev pub IsRefusalAs : List ℕ → ℕ → Choice → OpenFault → Type 0
IsRefusalAs v n choice f = IsRefusalAsWithin none_allowed v n choice f

abbrev pub IsRefusal : List ℕ → ℕ → OpenFault → Type 0
IsRefusal v n f = IsRefusalWithin none_allowed v n f

abbrev pub Opens : List ℕ → ℕ → List ℕ → Option (List ℕ) → Type 0
Opens v n p found = OpensWithin none_allowed v n p found

abbrev pub Answer : List ℕ → ℕ → List ℕ → Opened → Type 0
Answer v n p a = AnswerWithin none_allowed v n p a

abbrev pub IsRefusedBy : List ℕ → ℕ → List ℕ → OpenFault → Type 0
IsRefusedBy v n p f = IsRefusedByWithin none_allowed v n p f
