-- What trying keyslots gives, by what counts of the volume.
use Rattle.std.specs.Prelude.{◌≡◌, ℕ, List, filter, Bool, false, Option, Some, None, Result, Ok, Err}
use Rattle.serde_json.specs.Data.{Data as Value}
use Rattle.luks_area.specs.First.{IsLeast}
use Rattle.luks_slot.specs.declared.allowed.Allowed.{Allowed}
use Rattle.luks_reading.specs.declared.open_fault.OpenFault.{OpenFault}
use Rattle.luks_reading.specs.declared.open_fault.OpenFault.TheVariants.{Head, Meta, NoSuchSlot, SlotFree, Outside, Slot, Device, Memory}
use Rattle.luks_reading.specs.declared.unlocking.Rank.{Rank}
use Rattle.luks_reading.specs.declared.unlocking.Rank.TheVariants.{Preferred, Normal}
use Rattle.luks_reading.specs.Answer.{open_key}
use Rattle.luks_reading.specs.Failures.{is_open_failure}
use Rattle.luks_reading.specs.Luks1Keyslots.{Luks1Opens}
use Rattle.luks_reading.specs.Luks2Keyslots.{Luks2Opens, Luks2TakesMemory}
use Rattle.luks_reading.specs.Unlocking.{is_preferred, is_normal, priority_of, luks1_order, numbers_below, GivesFirst, IsLuks1VolumeRefusal}

-- what trying a keyslot that is refused gives: a fault of its own is passed over
abbrev pub passed_over : OpenFault → Result (Option (List ℕ)) OpenFault
passed_over (Head f) = Ok None
passed_over (Meta f) = Ok None
passed_over NoSuchSlot = Ok None
passed_over SlotFree = Ok None
passed_over Outside = Ok None
passed_over (Slot f) = Ok None
passed_over Device = Err Device
passed_over Memory = Err Memory

-- ---- LUKS1, with `older` ciphers and hashes or without

abbrev pub Luks1DoesNotOpen : Bool → List ℕ → List ℕ → List ℕ → ℕ → Type 0
Luks1DoesNotOpen older h v p n = (k : List ℕ) → Luks1Opens older h v n p (Some k) → ⊥

-- the keyslot has been tried
abbrev pub Luks1Tried : Bool → List ℕ → List ℕ → ℕ → List ℕ → Option (List ℕ) → Type 0
Luks1Tried older h v n p None = Luks1DoesNotOpen older h v p n
Luks1Tried older h v n p (Some k) = Luks1Opens older h v n p (Some k)

-- the keyslots of the header `h` have been tried in their order
abbrev pub Luks1Tries : Bool → List ℕ → List ℕ → List ℕ → Option (ℕ × List ℕ) → Type 0
Luks1Tries older h v p found =
    GivesFirst (Luks1DoesNotOpen older h v p) (λ n k. Luks1Opens older h v n p (Some k)) (luks1_order h) found

-- the header `h` refuses the volume, unless the device failed; no memory is taken
abbrev pub Luks1VolumeRefused : List ℕ → OpenFault → Type 0
Luks1VolumeRefused h f = is_open_failure f ≡ false → IsLeast open_key (IsLuks1VolumeRefusal h) f

-- ---- LUKS2, where so much is allowed

abbrev pub Luks2DoesNotOpen : Allowed → List ℕ → List ℕ → List ℕ → List ℕ → ℕ → Type 0
Luks2DoesNotOpen allowed b json v p n = (k : List ℕ) → Luks2Opens allowed b json v n p (Some k) → ⊥

abbrev pub Luks2Tried : Allowed → List ℕ → List ℕ → List ℕ → ℕ → List ℕ → Option (List ℕ) → Type 0
Luks2Tried allowed b json v n p None = Luks2DoesNotOpen allowed b json v p n
Luks2Tried allowed b json v n p (Some k) = Luks2Opens allowed b json v n p (Some k)

-- the keyslot is tried in this rank
abbrev pub is_of_rank : Rank → Value → ℕ → Bool
is_of_rank Preferred j n = is_preferred (priority_of j n)
is_of_rank Normal j n = is_normal (priority_of j n)

-- the keyslots of a rank, by number
abbrev pub rank_order : Rank → Value → List ℕ
rank_order rank j = filter (λ n. is_of_rank rank j n) (numbers_below 32)

-- the keyslots of the list have been tried in its order
abbrev pub Luks2Tries : Allowed → List ℕ → List ℕ → List ℕ → List ℕ → List ℕ → Option (ℕ × List ℕ) → Type 0
Luks2Tries allowed b json v p order found =
    GivesFirst (Luks2DoesNotOpen allowed b json v p) (λ n k. Luks2Opens allowed b json v n p (Some k)) order found

-- memory was refused to a keyslot of these only
abbrev pub Luks2LacksMemory : Allowed → List ℕ → List ℕ → ℕ → OpenFault → Type 0
Luks2LacksMemory allowed b json total f = f ≡ Memory → (n : ℕ) × Luks2TakesMemory allowed b json total n
