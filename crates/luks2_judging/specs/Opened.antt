-- What opening the keyslot of an edit says of a well formed LUKS2 volume.
use Rattle.std.specs.Prelude.{◌≡◌, ◌≢◌, ℕ, List, length, Option, Result, IfErr, IfOk, IfSome, IsSomeAnd, ⊤}
use Rattle.serde_json.specs.Data.{Data as Value}
use Rattle.luks_area.specs.declared.area.AreaFault.TheVariants as areas
use Rattle.luks_area.specs.declared.area.AreaName.TheVariants as area_name
use Rattle.luks_reading.specs.declared.check_fault.CheckFault.TheVariants as checking
use Rattle.luks_reading.specs.declared.open_fault.OpenFault.{OpenFault}
use Rattle.luks_reading.specs.declared.open_fault.OpenFault.TheVariants as opening
use Rattle.luks_reading.specs.Answer.{IsLuks2RefusalWithin, IsRefusedByWithin, opened_to, TakesMemory}
use Rattle.luks_reading.specs.Header.{IsChosenCopy}
use Rattle.luks_reading.specs.PlanAnswers.{IsPlanAccepted}
use Rattle.luks_reading.specs.Plans.{HasLuks2KeyBytes, HasLuks2Plan}
use Rattle.luks_reading.specs.declared.header.ChosenCopy.{ChosenCopy}
use Rattle.luks_meta.specs.Content.{content}
use Rattle.luks_slot.specs.declared.allowed.Allowed.{Allowed}
use Rattle.luks_slot.specs.declared.plan.SlotPlan.{SlotPlan}
use Rattle.luks_edit.specs.declared.edit.SecretKind.{SecretKind}
use Rattle.luks_edit.specs.declared.edit.Edit.{Edit}
use Rattle.luks_edit.specs.declared.edit_fault.EditFault.{EditFault}
use Rattle.luks_edit.specs.declared.edit_fault.EditFault.TheVariants as fault
use Rattle.luks_edit.specs.Asked.{allowed_by, deed_of, MatchOpener, opener_in}
use Rattle.luks_edit.specs.Secrets.{AnswersTo, own_key}
use Rattle.luks2_edit_laws.specs.declared.like.Like.{Like}
use Rattle.luks2_edit_laws.specs.declared.like.Like.TheVariants.{Keyslot, Digest}
use Rattle.luks2_edit_laws.specs.Edited.{Gives2}
use Rattle.luks2_edit_laws.specs.Refused.{IsUnopened2}

-- what opens gives the key
abbrev pub IsOpenedTo : List ℕ → Edit → List ℕ → Type 0
IsOpenedTo v e key = IfSome (opener_in (deed_of e)) (λ o. Gives2 (allowed_by e) v o key)

-- the edit is past that, if it needs a key
pub record IsUnlocked (v : List ℕ) (e : Edit) : Type 0 where
  pub none : (f : EditFault) → IsUnopened2 v e f → ⊥

-- it gives the key, and none of the faults stands by which it doesn't
pub record Opens (v : List ℕ) (e : Edit) (key : List ℕ) : Type 0 where
  pub gives : IsOpenedTo v e key
  pub past : IsUnlocked v e

-- the keyslot that the edit opens isn't refused, and derives by Argon2, which takes memory
abbrev pub TakesMemoryToOpen : List ℕ → Edit → Type 0
TakesMemoryToOpen v e = IsSomeAnd (opener_in (deed_of e)) (λ o. MatchOpener o (λ slot secret. TakesMemory (allowed_by e) v slot) (λ key. ⊥))

-- why it gives none, unless the device failed
abbrev pub IsUnopened : List ℕ → Edit → EditFault → Type 0
IsUnopened v e fault.Memory = TakesMemoryToOpen v e
IsUnopened v e fault.Device = ⊤
IsUnopened v e f = IsUnopened2 v e f

-- the key of a keyslot that is made like this one has so many bytes
abbrev pub HasKeyBytesLike : Value → Like → ℕ → Type 0
HasKeyBytesLike j (Keyslot n) len = HasLuks2KeyBytes j n len
HasKeyBytesLike j (Digest number key_bytes) len = key_bytes ≡ len

-- the fault of opening the keyslot `n` as that of an edit; of a keyslot of a well formed volume it is
-- that of its plan, or the device's
abbrev pub unopened : ℕ → OpenFault → EditFault
unopened n (opening.Head f) = fault.NotAccepted (checking.Head f)
unopened n (opening.Meta f) = fault.NotAccepted (checking.Meta f)
unopened n opening.NoSuchSlot = fault.NoSuchSlot
unopened n opening.SlotFree = fault.NoSuchSlot
unopened n opening.Outside = fault.NotAccepted (checking.Area (areas.Outside (area_name.Slot n)))
unopened n (opening.Slot f) = fault.Slot f
unopened n opening.Device = fault.Device
unopened n opening.Memory = fault.Memory

-- ---- by a secret: words of private contracts

-- nothing refuses the plan in a volume of `total` bytes, and the key is its own where it is found
pub record PlanKeeps (allowed : Allowed) (plan : SlotPlan) (total : ℕ) (key : List ℕ) (found : Option (List ℕ)) : Type 0 where
  pub accepted : IsPlanAccepted allowed plan total
  pub is : found ≡ own_key plan key

-- nothing refuses the keyslot `n` by the JSON area `json` of the copy with the binary header `b`, and the key is its own
-- where it is found
pub record Luks2Keeps (allowed : Allowed) (b json : List ℕ) (total n : ℕ) (key : List ℕ) (found : Option (List ℕ)) : Type 0 where
  pub plan : SlotPlan
  pub is : HasLuks2Plan json n plan
  pub unrefused : (f : OpenFault) → IsLuks2RefusalWithin allowed b json total n f → ⊥
  pub own : own_key plan key ≡ found

-- what the keyslot `n` answers to a secret, by the copy that counts
pub record IsSecretAnswer (tells : Type 0) (v : List ℕ) (copy : ChosenCopy) (kind : SecretKind) (allowed : Allowed) (n : ℕ) (p : List ℕ) (result : Result (Option (List ℕ)) OpenFault) : Type 0 where
  pub gives : tells → IsChosenCopy v copy → IfOk result (λ found. AnswersTo kind allowed v n p (opened_to found))
  pub refused_by : tells → IsChosenCopy v copy → IfErr result (IsRefusedByWithin allowed v n p)
  pub key_bytes : IfOk result (λ found. IfSome found (λ key. HasLuks2KeyBytes (content copy.meta) n (length key)))
  pub memory : tells → IsChosenCopy v copy → IfErr result (λ f. f ≡ opening.Memory → TakesMemory allowed v n)
  pub no_memory : allowed.memory ≡ 0 → IfErr result (λ f. f ≢ opening.Memory)
