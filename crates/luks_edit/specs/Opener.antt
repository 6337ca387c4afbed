-- Why a keyslot that an edit opens gives no key, where so much is allowed as the edit allows.
use Rattle.std.specs.Prelude.{◌≡◌, ℕ, ◌==◌, List, length, None, if◌then◌else◌}
use Rattle.luks_slot.specs.declared.allowed.Allowed.{Allowed}
use Rattle.luks_reading.specs.declared.open_fault.OpenFault.TheVariants as opening
use Rattle.luks_reading.specs.Answer.{AnswerWithin, refused}
use Rattle.luks_edit.specs.declared.edit.Secret.{Secret}
use Rattle.luks_edit.specs.declared.edit.SecretKind.{SecretKind}
use Rattle.luks_edit.specs.declared.edit.SecretKind.TheVariants.{Passphrase, Key}
use Rattle.luks_edit.specs.declared.edit_fault.EditFault.{EditFault}
use Rattle.luks_edit.specs.declared.edit_fault.EditFault.TheVariants as fault
use Rattle.luks_edit.specs.Secrets.{GivesWithin}

-- the fault of a secret that gives no key, where the key has so many bytes: of a passphrase, of a key of another
-- length, or of another key
abbrev pub lock_fault : SecretKind → ℕ → List ℕ → EditFault
lock_fault Passphrase key_bytes p = fault.Locked
lock_fault Key key_bytes p = if length p == key_bytes then fault.WrongKey else fault.KeyLength

-- nothing refuses the keyslot `n` of the volume `v`, but the secret gives none
pub record IsUnmet (allowed : Allowed) (v : List ℕ) (n : ℕ) (secret : Secret) (f : EditFault) : Type 0 where
  pub gives : GivesWithin secret.kind allowed v n secret.bytes.now None
  pub is : f ≡ lock_fault secret.kind gives.plan.key_bytes secret.bytes.now

-- so it is, or what the header or the metadata says of the keyslot is refused
abbrev pub IsUnopenedKeyslot : Allowed → List ℕ → ℕ → Secret → EditFault → Type 0
IsUnopenedKeyslot allowed v n secret (fault.Slot f) = AnswerWithin allowed v n secret.bytes.now (refused (opening.Slot f))
IsUnopenedKeyslot allowed v n secret f = IsUnmet allowed v n secret f
