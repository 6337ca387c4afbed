-- What a keyslot gives by a secret: by a passphrase what opening it gives, and by a key that key, where it is the
-- keyslot's own (LUKS1 On-Disk Format 1.2.3, 4.3; LUKS2 On-Disk Format 1.1, 3.4). The keyslot is refused alike.
use Rattle.std.specs.Prelude.{◌≡◌, ℕ, List, length, ◌==◌, ◌&&◌, if◌then◌else◌, Option, Some, None}
use Rattle.luks_area.specs.First.{IsLeast}
use Rattle.luks_area.specs.Ranges.{part}
use Rattle.luks2_header.specs.Selection.{Choice, Chosen}
use Rattle.luks_slot.specs.declared.allowed.Allowed.{Allowed}
use Rattle.luks_slot.specs.declared.plan.SlotPlan.{SlotPlan}
use Rattle.luks_slot.specs.Opening.{meets_digest, slot_key}
use Rattle.luks_reading.specs.declared.open_fault.OpenFault.{OpenFault}
use Rattle.luks_reading.specs.Answer.{HasPlanAs, IsRefusalAsWithin, IsRefusalWithin, no_key, open_key, Opened, opens, refused}
use Rattle.luks_edit.specs.declared.edit.SecretKind.{SecretKind}
use Rattle.luks_edit.specs.declared.edit.SecretKind.TheVariants.{Passphrase, Key}

-- the key, where it is as long as the keyslot's and meets the digest that names the keyslot
abbrev pub own_key : SlotPlan → List ℕ → Option (List ℕ)
own_key plan key = if (length key == plan.key_bytes) && meets_digest plan.digest key then Some key else None

-- what the secret gives by the plan, where its area has these bytes
abbrev pub given_by : SecretKind → SlotPlan → List ℕ → List ℕ → Option (List ℕ)
given_by Passphrase plan area p = slot_key plan area p
given_by Key plan area p = own_key plan p

-- nothing refuses the keyslot `n` of the volume `v`, and its plan gives `found` by the secret `p`
pub record GivesWithin (kind : SecretKind) (allowed : Allowed) (v : List ℕ) (n : ℕ) (p : List ℕ) (found : Option (List ℕ)) : Type 0 where
  pub choice : Choice
  pub chosen : Chosen v choice
  pub plan : SlotPlan
  pub is : HasPlanAs v n choice plan
  pub unrefused : (f : OpenFault) → IsRefusalAsWithin allowed v n choice f → ⊥
  pub key : given_by kind plan (part v plan.area.start plan.area.len) p ≡ found

-- what the keyslot `n` of the volume `v` answers to the secret `p`
abbrev pub AnswersTo : SecretKind → Allowed → List ℕ → ℕ → List ℕ → Opened → Type 0
AnswersTo kind allowed v n p (refused f) = IsLeast open_key (IsRefusalWithin allowed v n) f
AnswersTo kind allowed v n p (opens k) = GivesWithin kind allowed v n p (Some k)
AnswersTo kind allowed v n p no_key = GivesWithin kind allowed v n p None
