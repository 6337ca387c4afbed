-- Which keyslots are tried where none is named, in which order, and what that gives.
use Rattle.std.specs.Prelude.{◌≡◌, ℕ, zero, suc, ◌==◌, List, [], ◌∷◌, ◌++◌, filter, All, Bool, true, false, Option, Some, None, option_and_then, ⊤}
use Rattle.serde_json.specs.Data.{Data as Value}
use Rattle.luks_area.specs.First.{IsLeast}
use Rattle.luks_area.specs.Ranges.{part}
use Rattle.luks1_header.specs.Faults.{IsCommonFault}
use Rattle.luks1_header.specs.Header1.{active_word, enabled_word, entry}
use Rattle.luks2_header.specs.Header2.{header_at, uuid_field, IsUuidFault}
use Rattle.luks2_header.specs.Selection.{Choice, luks1, luks2, nothing, Chosen}
use Rattle.luks_rules.specs.declared.table.Member.TheVariants as name
use Rattle.luks_rules.specs.declared.table.Outer.TheVariants as outer
use Rattle.luks_rules.specs.declared.table.Rule.TheVariants as rule
use Rattle.luks_rules.specs.declared.table.Section.TheVariants.{Keyslots}
use Rattle.luks_meta.specs.Faults.{object_at}
use Rattle.luks_meta.specs.MetaFault.{Json, IsMetaFault}
use Rattle.luks_meta.specs.Reading.{Field, object, text, whole, absent, dynamic, bytes, names, reads}
use Rattle.luks_meta.specs.Says.{member_at}
use Rattle.luks_slot.specs.declared.allowed.Allowed.{Allowed}
use Rattle.luks_reading.specs.declared.open_fault.OpenFault.{OpenFault}
use Rattle.luks_reading.specs.declared.open_fault.OpenFault.TheVariants.{Head, Meta, NoSuchSlot, SlotFree, Outside, Slot, Device, Memory}
use Rattle.luks_reading.specs.Answer.{open_key, opens, AnswerWithin, IsSelectRefusal}
use Rattle.luks_reading.specs.Header.{json_at, NeedsMetadata}

-- ---- the order

-- 0, 1, 2, .. below n
unfoldable pub numbers_below : ℕ → List ℕ
numbers_below zero = []
numbers_below (suc n) = numbers_below n ++ n ∷ []

-- LUKS1: the keyslots that are in use, by number
unfoldable pub luks1_order : List ℕ → List ℕ
luks1_order h = filter (λ n. active_word (entry h n) == enabled_word) (numbers_below 8)

-- the priority of the keyslot n: a number, or absent (LUKS2 On-Disk Format 1.1, 3.2)
abbrev pub priority_of : Value → ℕ → Option Field
priority_of j n = option_and_then (λ d. reads (rule.MayBeNumber 0 2) (member_at d outer.Top name.Priority)) (object_at j Keyslots n)

-- tried before all others
abbrev pub is_preferred : Option Field → Bool
is_preferred None = false
is_preferred (Some (whole n)) = n == 2
is_preferred (Some object) = false
is_preferred (Some (text t)) = false
is_preferred (Some absent) = false
is_preferred (Some dynamic) = false
is_preferred (Some (bytes b)) = false
is_preferred (Some (names ns)) = false

-- tried after those; a keyslot of priority 0 is neither
abbrev pub is_normal : Option Field → Bool
is_normal None = false
is_normal (Some (whole n)) = n == 1
is_normal (Some object) = false
is_normal (Some (text t)) = false
is_normal (Some absent) = true
is_normal (Some dynamic) = false
is_normal (Some (bytes b)) = false
is_normal (Some (names ns)) = false

-- LUKS2: the keyslots of priority 2 by number, then those of priority 1 or none by number
unfoldable pub luks2_order : Value → List ℕ
luks2_order j =
    filter (λ n. is_preferred (priority_of j n)) (numbers_below 32)
    ++ filter (λ n. is_normal (priority_of j n)) (numbers_below 32)

-- by what counts of the volume `v`: the keyslots that are tried, in this order
abbrev pub IsOrderAs : List ℕ → Choice → List ℕ → Type 0
IsOrderAs v luks1 order = order ≡ luks1_order (part v 0 592)
IsOrderAs v (luks2 o copies) order = (j : Value) × (Json (json_at v o) j × (order ≡ luks2_order j))
IsOrderAs v nothing order = ⊥

-- ---- the refusals of the volume, none of them a keyslot's own

abbrev pub IsLuks1VolumeRefusal : List ℕ → OpenFault → Type 0
IsLuks1VolumeRefusal h (Head f) = IsCommonFault h f
IsLuks1VolumeRefusal h (Meta f) = ⊥
IsLuks1VolumeRefusal h NoSuchSlot = ⊥
IsLuks1VolumeRefusal h SlotFree = ⊥
IsLuks1VolumeRefusal h Outside = ⊥
IsLuks1VolumeRefusal h (Slot f) = ⊥
IsLuks1VolumeRefusal h Device = ⊥
IsLuks1VolumeRefusal h Memory = ⊥

abbrev pub IsLuks2VolumeRefusal : List ℕ → List ℕ → OpenFault → Type 0
IsLuks2VolumeRefusal b json (Head f) = IsUuidFault (uuid_field b) f
IsLuks2VolumeRefusal b json (Meta f) = IsMetaFault json f
IsLuks2VolumeRefusal b json NoSuchSlot = ⊥
IsLuks2VolumeRefusal b json SlotFree = ⊥
IsLuks2VolumeRefusal b json Outside = ⊥
IsLuks2VolumeRefusal b json (Slot f) = ⊥
IsLuks2VolumeRefusal b json Device = ⊥
IsLuks2VolumeRefusal b json Memory = ⊥

abbrev pub IsVolumeRefusalAs : List ℕ → Choice → OpenFault → Type 0
IsVolumeRefusalAs v luks1 f = IsLuks1VolumeRefusal (part v 0 592) f
IsVolumeRefusalAs v (luks2 o copies) f = IsLuks2VolumeRefusal (header_at v o) (json_at v o) f
IsVolumeRefusalAs v nothing f = IsSelectRefusal v f

pub record IsVolumeRefusal (v : List ℕ) (f : OpenFault) : Type 0 where
  pub choice : Choice
  pub chosen : Chosen v choice
  pub fault : IsVolumeRefusalAs v choice f

-- the volume is refused by its first fault, unless the device failed or memory was refused
abbrev pub IsVolumeRefusedBy : List ℕ → OpenFault → Type 0
IsVolumeRefusedBy v Device = ⊤
IsVolumeRefusedBy v Memory = NeedsMetadata v
IsVolumeRefusedBy v f = IsLeast open_key (IsVolumeRefusal v) f

-- ---- the answer, where so much is allowed

-- the keyslot n of the volume v doesn't open by the passphrase p, refused or not
abbrev pub DoesNotOpen : Allowed → List ℕ → List ℕ → ℕ → Type 0
DoesNotOpen allowed v p n = (k : List ℕ) → AnswerWithin allowed v n p (opens k) → ⊥

-- n is the first of the list that opens, and k its key
pub record IsFirstOf (shut : ℕ → Type 0) (opens_to : ℕ → List ℕ → Type 0) (order : List ℕ) (n : ℕ) (k : List ℕ) : Type 0 where
  pub earlier : List ℕ
  pub later : List ℕ
  pub stands : order ≡ earlier ++ n ∷ later
  pub all_shut : All shut earlier
  pub key : opens_to n k

-- trying the numbers of the list in its order gives one of them with a key, or nothing
abbrev pub GivesFirst : (ℕ → Type 0) → (ℕ → List ℕ → Type 0) → List ℕ → Option (ℕ × List ℕ) → Type 0
GivesFirst shut opens_to order None = All shut order
GivesFirst shut opens_to order (Some found) = IsFirstOf shut opens_to order found.0 found.1

-- nothing refuses the volume, and trying its keyslots in their order gives `found`
pub record Unlocks (allowed : Allowed) (v p : List ℕ) (found : Option (ℕ × List ℕ)) : Type 0 where
  pub choice : Choice
  pub chosen : Chosen v choice
  pub unrefused : (f : OpenFault) → IsVolumeRefusalAs v choice f → ⊥
  pub order : List ℕ
  pub ordered : IsOrderAs v choice order
  pub gives : GivesFirst (DoesNotOpen allowed v p) (λ n k. AnswerWithin allowed v n p (opens k)) order found

-- what opening a volume gives: a refusal of the volume itself, or a keyslot's number with its key, or
-- that none opens
pub data Unlocked : Type 0 where
  locked : OpenFault → Unlocked
  gives : Option (ℕ × List ℕ) → Unlocked

-- what opening the volume `v` by the passphrase `p` gives
abbrev pub UnlockAnswer : Allowed → List ℕ → List ℕ → Unlocked → Type 0
UnlockAnswer allowed v p (locked f) = IsLeast open_key (IsVolumeRefusal v) f
UnlockAnswer allowed v p (gives found) = Unlocks allowed v p found
