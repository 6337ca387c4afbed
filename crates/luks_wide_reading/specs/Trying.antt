-- What trying the keyslots in their order gives where something is under way in the metadata of the JSON area `json`.
use Rattle.std.specs.Prelude.{◌≡◌, ℕ, List, ◌++◌, filter, ◌&&◌, not, Bool, Option, Some, None, Result, Ok, Err, IfOk, IfErr}
use Rattle.serde_json.specs.Data.{Data}
use Rattle.luks_rules.specs.Reading.{Field}
use Rattle.luks_slot.specs.declared.allowed.Allowed.{Allowed}
use Rattle.luks_reading.specs.declared.open_fault.OpenFault.{OpenFault}
use Rattle.luks_reading.specs.declared.open_fault.OpenFault.TheVariants.{Device, Memory}
use Rattle.luks_reading.specs.Unlocking.{is_normal, is_preferred, numbers_below, priority_of, GivesFirst}
use Rattle.luks_underway.specs.Kinds.{has_reencrypt}
use Rattle.luks_wide_reading.specs.declared.open_fault.WideOpenFault.{WideOpenFault}
use Rattle.luks_wide_reading.specs.declared.open_fault.WideOpenFault.TheVariants.{Open}
use Rattle.luks_wide_reading.specs.declared.trying.Rank.{Rank}
use Rattle.luks_wide_reading.specs.declared.trying.Rank.TheVariants.{Preferred, Normal}
use Rattle.luks_wide_reading.specs.Opening.{UnderwayOpens, UnderwayTakesMemory}

-- ---- one keyslot, where so much is allowed and the volume has the bytes `v`

-- what trying a keyslot that is refused gives: a fault of its own is passed over
abbrev pub passed_over : WideOpenFault → Result (Option (List ℕ)) OpenFault
passed_over (Open Device) = Err Device
passed_over (Open Memory) = Err Memory
passed_over f = Ok None

-- the keyslot `n` doesn't open by the passphrase `p`, refused or not
abbrev pub UnderwayStaysShut : Allowed → List ℕ → List ℕ → List ℕ → ℕ → Type 0
UnderwayStaysShut allowed json v p n = (k : List ℕ) → UnderwayOpens allowed json v n p (Some k) → ⊥

-- it has been tried
abbrev pub UnderwayTried : Allowed → List ℕ → List ℕ → ℕ → List ℕ → Option (List ℕ) → Type 0
UnderwayTried allowed json v n p None = UnderwayStaysShut allowed json v p n
UnderwayTried allowed json v n p (Some k) = UnderwayOpens allowed json v n p (Some k)

-- the result of that, of a device that has the bytes `v` where it `tells` them
pub record IsUnderwayTrial (tells : Type 0) (total : ℕ) (v json : List ℕ) (allowed : Allowed) (n : ℕ) (p : List ℕ) (result : Result (Option (List ℕ)) OpenFault) : Type 0 where
  pub tried : tells → IfOk result (UnderwayTried allowed json v n p)
  pub memory : IfErr result (λ f. f ≡ Memory → UnderwayTakesMemory allowed json total n)

-- ---- the keyslots in their order

-- the keyslots of the list have been tried in its order: the first that opens, with its key, or none
abbrev pub UnderwayTries : Allowed → List ℕ → List ℕ → List ℕ → List ℕ → Option (ℕ × List ℕ) → Type 0
UnderwayTries allowed json v p order found = GivesFirst (UnderwayStaysShut allowed json v p) (λ n k. UnderwayOpens allowed json v n p (Some k)) order found

-- a keyslot of this priority is tried in this rank
abbrev pub is_ranked : Rank → Field → Bool
is_ranked Preferred priority = is_preferred (Some priority)
is_ranked Normal priority = is_normal (Some priority)

-- the keyslot of the value `j` holds a key, and is tried in this rank
abbrev pub is_of_rank : Rank → Data → ℕ → Bool
is_of_rank Preferred j n = not (has_reencrypt j n) && is_preferred (priority_of j n)
is_of_rank Normal j n = not (has_reencrypt j n) && is_normal (priority_of j n)

-- the keyslots of a rank, by number
abbrev pub rank_order : Rank → Data → List ℕ
rank_order rank j = filter (λ n. is_of_rank rank j n) (numbers_below 32)

-- the keyslots that hold a key: those of priority 2 by number, then those of priority 1 or none by number
abbrev pub underway_order : Data → List ℕ
underway_order j = rank_order Preferred j ++ rank_order Normal j

-- the result of trying the keyslots of the list in its order, of a device that has the bytes `v` where it `tells` them: memory is refused to
-- a keyslot that takes it
pub record IsUnderwayUnlocking (tells : Type 0) (total : ℕ) (v json : List ℕ) (allowed : Allowed) (p order : List ℕ) (result : Result (Option (ℕ × List ℕ)) OpenFault) : Type 0 where
  pub tries : tells → IfOk result (UnderwayTries allowed json v p order)
  pub memory : IfErr result (λ f. f ≡ Memory → (n : ℕ) × UnderwayTakesMemory allowed json total n)
