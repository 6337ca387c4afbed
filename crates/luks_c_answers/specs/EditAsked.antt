-- The edit that a caller asks for by numbers.
use Rattle.std.specs.Prelude.{◌≡◌, ◌≢◌, ◌==◌, ℕ, ◌<◌, List, [], if◌then◌else◌, Option, Some, None, IsUtf8}
use Rattle.std.specs.Borrow.{Bor}
use Rattle.serde_json.specs.declared.value.Value.{Value}
use Rattle.serde_json.specs.Read.{read}
use Rattle.serde_json.specs.View.{view}
use Rattle.luks_making.specs.declared.amended.Change.{Change as TheChange}
use Rattle.luks_making.specs.declared.amended.Change.TheVariants as change
use Rattle.luks_making.specs.declared.amended.Priority.{Priority}
use Rattle.luks_making.specs.declared.amended.Priority.TheVariants as priority
use Rattle.luks_edit.specs.declared.edit.Edit.{Edit}
use Rattle.luks_edit.specs.declared.edit.Edit.TheVariants.{Add, AddByKey, Change, Remove, Erase, Repair, Label, Uuid, Amend}
use Rattle.luks_edit.specs.declared.edit.Secret.{Secret}
use Rattle.luks_edit.specs.declared.edit.SecretKind.{SecretKind}
use Rattle.luks_edit.specs.declared.edit.SecretKind.TheVariants.{Key, Passphrase}
use Rattle.luks_edit.specs.declared.new_uuid.NewUuid.{NewUuid}
use Rattle.luks_edit.specs.declared.new_uuid.NewUuid.TheVariants as uuid
use Rattle.luks_c_answers.specs.Asked.{allowed_of}
use Rattle.luks_c_answers.specs.ChoiceAsked.{IsChoice}
use Rattle.luks_c_answers.specs.declared.asking.Asked.{Asked}
use Rattle.luks_c_answers.specs.declared.asking.Asked.TheVariants as asking
use Rattle.luks_c_answers.specs.declared.asking.LuksEdit.{LuksEdit}

-- the keyslot, or the token, of this number, which a byte holds
abbrev pub IsSlot : ℕ → ℕ → Type 0
IsSlot number n = (n ≡ number) × (n < 256)

-- the same, or none, which 2^32 - 1 says
abbrev pub IsMaybeSlot : ℕ → Option ℕ → Type 0
IsMaybeSlot number None = number ≡ 4294967295
IsMaybeSlot number (Some n) = IsSlot number n

-- what a secret is: a passphrase where the number is 0, else the volume key
abbrev pub kind_asked : ℕ → SecretKind
kind_asked number = if number == 0 then Passphrase else Key

-- the secret is of the kind that the edit's number says, has these bytes, and allows what its numbers say
abbrev pub IsSecret : List ℕ → LuksEdit → Secret → Type 0
IsSecret bytes asked p = (p.kind ≡ kind_asked asked.by_key) × (p.bytes.now ≡ bytes) × (p.allowed ≡ allowed_of asked.memory asked.older)

-- the subsystem is set too, to these bytes; or it stays, which 0 says
abbrev pub IsMaybeSubsystem : ℕ → List ℕ → Option (Bor (List ℕ)) → Type 0
IsMaybeSubsystem number text None = number ≡ 0
IsMaybeSubsystem number text (Some s) = (number ≢ 0) × (s.now ≡ text)

-- the uuid of this text, which is UTF-8, or a new one where the text has no byte
abbrev pub IsUuidAsked : List ℕ → NewUuid → Type 0
IsUuidAsked text (uuid.Text own) = (own.now ≡ text) × (text ≢ []) × IsUtf8 text
IsUuidAsked text uuid.Random = text ≡ []

-- the number that asks for a priority, as the records of keyslots tell it
abbrev pub priority_asked : Priority → ℕ
priority_asked priority.Ignore = 0
priority_asked priority.Normal = 1
priority_asked priority.Prefer = 2

-- a token is to be added, with this number, or with the least that is free
abbrev pub IsTokenAsked : LuksEdit → Option ℕ → Type 0
IsTokenAsked asked to = (asked.kind ≡ 7) × IsMaybeSlot asked.to to

-- the text is that of the value (RFC 8259)
pub record HasToken (text : List ℕ) (token : Value) : Type 0 where
  pub utf8 : IsUtf8 text
  pub reads : read text ≡ Some (view token)

-- it is that of none
abbrev pub HasNoToken : List ℕ → Type 0
HasNoToken text = IsUtf8 text → read text ≡ None

-- an edit that changes no named members is asked for, with these bytes as its secret, and those as the new passphrase, as
-- the label or as the uuid, and as the subsystem
abbrev pub IsOtherAsked : LuksEdit → List ℕ → List ℕ → List ℕ → Edit → Type 0
IsOtherAsked asked words text subsystem (Add by_ old new to iterations derivation) = (asked.kind ≡ 1) × IsSlot asked.by_ by_ × IsSecret words asked old
    × (new.now ≡ text) × IsMaybeSlot asked.to to × (iterations ≡ asked.iterations) × IsChoice asked.derivation derivation
IsOtherAsked asked words text subsystem (AddByKey key new to iterations derivation) = (asked.kind ≡ 1) × (asked.by_ ≡ 4294967295) × (asked.by_key ≢ 0)
    × (key.bytes.now ≡ words) × (key.allowed ≡ allowed_of asked.memory asked.older)
    × (new.now ≡ text) × IsMaybeSlot asked.to to × (iterations ≡ asked.iterations) × IsChoice asked.derivation derivation
IsOtherAsked asked words text subsystem (Change slot old new iterations derivation) = (asked.kind ≡ 2) × IsSlot asked.slot slot × IsSecret words asked old
    × (new.now ≡ text) × (iterations ≡ asked.iterations) × IsChoice asked.derivation derivation
IsOtherAsked asked words text subsystem (Remove slot by_ secret) = (asked.kind ≡ 3) × IsSlot asked.slot slot × IsMaybeSlot asked.by_ by_
    × IsSecret words asked secret
IsOtherAsked asked words text subsystem Erase = asked.kind ≡ 10
IsOtherAsked asked words text subsystem Repair = asked.kind ≡ 4
IsOtherAsked asked words text subsystem (Label label s) = (asked.kind ≡ 5) × (label.now ≡ text) × IsMaybeSubsystem asked.subsystem subsystem s
IsOtherAsked asked words text subsystem (Uuid own) = (asked.kind ≡ 9) × IsUuidAsked text own
IsOtherAsked asked words text subsystem (Amend change) = ⊥

-- a change of named members is: a priority, a token of this text, or the removal of a token
abbrev pub IsChangeAsked : LuksEdit → List ℕ → TheChange → Type 0
IsChangeAsked asked text (change.Priority slot p) = (asked.kind ≡ 6) × IsSlot asked.slot slot × (priority_asked p ≡ asked.to)
IsChangeAsked asked text (change.AddToken to token) = IsTokenAsked asked to × HasToken text token.now
IsChangeAsked asked text (change.RemoveToken number) = (asked.kind ≡ 8) × IsSlot asked.to number

-- the edit is
abbrev pub IsAsked : LuksEdit → List ℕ → List ℕ → List ℕ → Edit → Type 0
IsAsked asked words text subsystem (Amend change) = IsChangeAsked asked text change
IsAsked asked words text subsystem e = IsOtherAsked asked words text subsystem e

-- no edit is, nor to add a token, whatever its text
pub record IsUnasked (asked : LuksEdit) (words text subsystem : List ℕ) : Type 0 where
  pub none : (e : Edit) → IsAsked asked words text subsystem e → ⊥
  pub no_token : (to : Option ℕ) → IsTokenAsked asked to → ⊥

-- this is asked for: an edit, or to add a token, whatever its text
abbrev pub IsAskedAs : LuksEdit → List ℕ → List ℕ → List ℕ → Asked → Type 0
IsAskedAs asked words text subsystem (asking.Edit e) = IsAsked asked words text subsystem e
IsAskedAs asked words text subsystem (asking.Token to) = IsTokenAsked asked to
