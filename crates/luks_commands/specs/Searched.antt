-- What trying the keyslots one by one gives, of a device of which some calls fail.
use Rattle.std.specs.Prelude.{◌≡◌, ◌⊎◌, ℕ, ◌+◌, List, length, Option, Some, None}
use Rattle.std.specs.List.{Contains}
use Rattle.luks2_header.specs.Selection.{Choice, Chosen}
use Rattle.luks_slot.specs.declared.allowed.Allowed.{Allowed}
use Rattle.luks_reading.specs.Answer.{opens, AnswerWithin, TakesMemory}
use Rattle.luks_reading.specs.Unlocking.{DoesNotOpen, GivesFirst, IsOrderAs}

-- the keyslot `n` of the volume `v` gives the key `k` by the passphrase `p`
abbrev pub OpensTo : Allowed → List ℕ → List ℕ → ℕ → List ℕ → Type 0
OpensTo allowed v p n k = AnswerWithin allowed v n p (opens k)

-- it is passed over, without a failed call: it takes memory, which was refused, or it doesn't open
abbrev pub StaysShut : Allowed → List ℕ → List ℕ → ℕ → Type 0
StaysShut allowed v p n = TakesMemory allowed v n ⊎ DoesNotOpen allowed v p n

-- the same, or it is one of those that are lost
abbrev pub IsPassedOver : Allowed → List ℕ → List ℕ → List ℕ → ℕ → Type 0
IsPassedOver allowed v p lost n = Contains lost n ⊎ StaysShut allowed v p n

-- trying the keyslots of the volume `v` in their order, of which some are lost, gives `found`
pub record UnlocksBeside (allowed : Allowed) (v p lost : List ℕ) (found : Option (ℕ × List ℕ)) : Type 0 where
  pub choice : Choice
  pub chosen : Chosen v choice
  pub order : List ℕ
  pub ordered : IsOrderAs v choice order
  pub gives : GivesFirst (IsPassedOver allowed v p lost) (OpensTo allowed v p) order found

-- the same of a keyslot's number, which has some key
abbrev pub WithKey : (Option (ℕ × List ℕ) → Type 0) → Option ℕ → Type 0
WithKey Gives None = Gives None
WithKey Gives (Some n) = (key : List ℕ) × Gives (Some (n, key))

-- while the device's count of failures went from `before` to `after`: for each keyslot that is lost one call failed
pub record Searches (tells : Type 0) (allowed : Allowed) (v p : List ℕ) (before after : ℕ) (found : Option ℕ) : Type 0 where
  pub lost : List ℕ
  pub count : after ≡ before + length lost
  pub gives : tells → WithKey (UnlocksBeside allowed v p lost) found
