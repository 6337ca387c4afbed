-- When an edit of a LUKS2 volume is refused, and how many random bytes it takes. The order of the
-- faults is that of every edit.
use Rattle.std.specs.Prelude.{◌≡◌, ◌≢◌, ℕ, ◌+◌, ◌-◌, ◌*◌, ◌^◌, ◌<◌, ◌≤◌, ◌⊎◌, Bool, List, [], length, true, Option, Some, None, IsSomeAnd, MatchOption}
use Rattle.std.specs.Borrow.{Bor}
use Rattle.base64.specs.GeneralPurpose.{IsBytes}
use Rattle.serde_json.specs.Data.{Data as Value, depth}
use Rattle.serde_json.specs.View.{view}
use Rattle.serde_json.specs.Written.{compact_text}
use Rattle.luks_area.specs.First.{IsLeast}
use Rattle.luks_area.specs.Text.{is_plain}
use Rattle.luks2_header.specs.Header2.{binary_header_size, hdr_size, header_at, seqid}
use Rattle.luks_rules.specs.declared.fault.MetaFault.{MetaFault}
use Rattle.luks_rules.specs.declared.table.Outer.TheVariants as outer
use Rattle.luks_rules.specs.Faults.{type_at}
use Rattle.luks_rules.specs.Valued.{IsValueFault}
use Rattle.luks_making.specs.Amended.{with_token}
use Rattle.luks_making.specs.declared.amended.Change.{Change}
use Rattle.luks_making.specs.Conditions.{IsFree}
use Rattle.luks_making.specs.Naming.{IsDigestOf}
use Rattle.luks_meta.specs.Requirements.{has_requirements}
use Rattle.luks_slot.specs.declared.allowed.Allowed.{Allowed}
use Rattle.luks_reading.specs.declared.report.Data.{Data}
use Rattle.luks_reading.specs.Checked.{IsFault}
use Rattle.luks_edit.specs.declared.deed.Rewritten.{Rewritten}
use Rattle.luks_edit.specs.declared.edit.Edit.{Edit}
use Rattle.luks_edit.specs.declared.edit_fault.EditFault.{EditFault}
use Rattle.luks_edit.specs.declared.edit_fault.EditFault.TheVariants as fault
use Rattle.luks_edit.specs.declared.edit.Opener.{Opener}
use Rattle.luks_edit.specs.declared.edit.Opener.TheVariants as opener
use Rattle.luks_edit.specs.Asked.{allowed_by, AmendsSlot, change_by, deed_of, HasFewIterations, IsBeyondMemory, MatchChange, MatchPlace, NamesItself, opener_at, opener_in, removed_by, rewritten_by, sealed_by, uuid_by, Wants}
use Rattle.luks_edit.specs.EditFaults.{edit_key}
use Rattle.luks_edit.specs.NewUuids.{HasBadUuid, uuid_need}
use Rattle.luks_edit.specs.Opener.{IsUnopenedKeyslot}
use Rattle.luks2_edit_laws.specs.declared.like.Like.{Like}
use Rattle.luks2_edit_laws.specs.Edited.{IsEdited}
use Rattle.luks2_edit_laws.specs.Likes.{ForLike, HasNoDigestFor, HasRefusedLike, HasStripesLike, MayMeetUnknown, MeetsNone}
use Rattle.luks2_edit_laws.specs.Metadata.{HasMetadata, HasToken, IsFreeToken, IsInUse, IsNewToken}
use Rattle.luks2_edit_laws.specs.Places.{HasNoNewArea}

-- ---- the keyslots that the edit wants

-- one of them isn't there, or the one whose priority the edit sets
pub record IsAbsent (j : Value) (e : Edit) : Type 0 where
  pub slot : ℕ
  pub wanted : Wants e slot ⊎ AmendsSlot (change_by e) slot
  pub unused : IsInUse j slot → ⊥

-- ---- the keyslot that the edit makes

-- the number that is asked for is in use
abbrev pub IsNumberTaken : Value → Option ℕ → Type 0
IsNumberTaken j (Some t) = IsInUse j t
IsNumberTaken j None = ⊥

-- there is none of the number that is asked for, or none is free
abbrev pub HasNoNumber : Value → Option ℕ → Type 0
HasNoNumber j (Some t) = 31 < t
HasNoNumber j None = (n : ℕ) → IsFree j n → ⊥

abbrev pub IsTaken : Value → Edit → Type 0
IsTaken j e = IsSomeAnd (sealed_by e) (λ s. MatchPlace s.place (λ o to. IsNumberTaken j to) (λ slot secret. ⊥))

abbrev pub HasNoFree : Value → Edit → Type 0
HasNoFree j e = IsSomeAnd (sealed_by e) (λ s. MatchPlace s.place (λ o to. HasNoNumber j to) (λ slot secret. ⊥))

-- there is no gap for its area
abbrev pub HasNoRoom : ℕ → ℕ → Data → Value → Edit → Type 0
HasNoRoom h total payload j e = IsSomeAnd (sealed_by e) (λ s. ForLike j (opener_at s.place) (HasNoNewArea h total payload j))

-- ---- the rest of the edit

-- the digest that names the keyslot names no other one
pub record IsOnlyOne (j : Value) (slot : ℕ) : Type 0 where
  pub digest : ℕ
  pub names : IsDigestOf j slot digest
  pub only : (n : ℕ) → IsDigestOf j n digest → n ≡ slot

-- no keyslot would be left that gives the key
abbrev pub IsLast : Value → Edit → Type 0
IsLast j e = IsSomeAnd (removed_by e) (λ r. IsOnlyOne j r.slot)

-- the text, where one is given, has more than 47 bytes, or one outside 0x20 to 0x7E
abbrev pub IsBadText : Option (Bor (List ℕ)) → Type 0
IsBadText given = IsSomeAnd given (λ text. (47 < length text.now) ⊎ (is_plain text.now ≡ true → ⊥))

-- the label is such a one, or the subsystem
abbrev pub HasBadText : Rewritten → Type 0
HasBadText r = IsBadText r.label ⊎ IsBadText r.subsystem

abbrev pub IsBadLabel : Edit → Type 0
IsBadLabel e = IsSomeAnd (rewritten_by e) HasBadText

-- ---- the token

-- the token to remove isn't there
abbrev pub LacksToken : Value → Change → Type 0
LacksToken j c = MatchChange c (λ slot priority. ⊥) (λ to token. ⊥) (λ number. HasToken j number → ⊥)

-- the number that is asked for a token is in use
abbrev pub IsTokenAt : Value → Option ℕ → Type 0
IsTokenAt j (Some t) = HasToken j t
IsTokenAt j None = ⊥

-- there is none of the number that is asked for, or none is free
abbrev pub HasNoTokenNumber : Value → Option ℕ → Type 0
HasNoTokenNumber j (Some t) = 31 < t
HasNoTokenNumber j None = (n : ℕ) → IsFreeToken j n → ⊥

abbrev pub IsTokenTaken : Value → Change → Type 0
IsTokenTaken j c = MatchChange c (λ slot priority. ⊥) (λ to token. IsTokenAt j to) (λ number. ⊥)

abbrev pub HasNoFreeToken : Value → Change → Type 0
HasNoFreeToken j c = MatchChange c (λ slot priority. ⊥) (λ to token. HasNoTokenNumber j to) (λ number. ⊥)

-- cryptsetup 2.6.1 doesn't read metadata with the token: its type is the empty text, or arrays and objects
-- nest in it deeper than 29 levels. It stands two levels deep in the metadata, in which a text or a number
-- may lie within 31
abbrev pub IsUnreadable : Value → Type 0
IsUnreadable token = (type_at token outer.Top ≡ Some []) ⊎ (29 < depth token)

abbrev pub IsUnreadableToken : Change → Type 0
IsUnreadableToken c = MatchChange c (λ slot priority. ⊥) (λ to token. IsUnreadable (view token.now)) (λ number. ⊥)

-- the metadata with the token has the fault, in a JSON area of `len` bytes
pub record IsFaultyWith (len : ℕ) (j : Value) (to : Option ℕ) (token : Value) (f : MetaFault) : Type 0 where
  pub number : ℕ
  pub is_new : IsNewToken j to number
  pub fault : IsValueFault len (with_token number token j) f

abbrev pub IsBadToken : ℕ → Value → MetaFault → Change → Type 0
IsBadToken len j f c = MatchChange c (λ slot priority. ⊥) (λ to token. IsFaultyWith len j to (view token.now) f) (λ number. ⊥)

-- ---- the header

-- the new metadata leaves no zero byte in the JSON area; with each salt of 32 bytes its text is as long
pub record IsFull (h total : ℕ) (payload : Data) (j : Value) (e : Edit) : Type 0 where
  pub salt : List ℕ
  pub salt_bytes : IsBytes salt
  pub salt_length : length salt ≡ 32
  pub new : Value
  pub edited : IsEdited h total payload e salt j new
  pub full : h - binary_header_size ≤ length (compact_text new)

-- ---- random bytes

-- beside two salts of the copies a keyslot that is sealed like this one takes its own salt, and
-- its stripes but the last
pub record NeedsLike (j : Value) (k : ℕ) (like : Like) : Type 0 where
  pub key_bytes : ℕ
  pub stripes : ℕ
  pub slot : HasStripesLike j like key_bytes stripes
  pub count : k ≡ 64 + 64 + 32 + (stripes - 1) * key_bytes

-- the edit takes `k` random bytes: where it seals no keyslot, two salts and what its uuid takes
abbrev pub Need2 : Value → Edit → ℕ → Type 0
Need2 j e k = MatchOption (sealed_by e) (k ≡ 64 + 64 + uuid_need (uuid_by e)) (λ s. ForLike j (opener_at s.place) (NeedsLike j k))

-- the random bytes aren't as many as the edit takes
pub record IsMiscounted (j : Value) (e : Edit) (random : List ℕ) : Type 0 where
  pub need : ℕ
  pub is : Need2 j e need
  pub other : length random ≢ need

-- ---- what gives the key

-- why the volume key doesn't give itself
abbrev pub IsUnkeyed2 : Bool → Value → List ℕ → EditFault → Type 0
IsUnkeyed2 older j bytes fault.KeyLength = HasNoDigestFor j (length bytes)
IsUnkeyed2 older j bytes fault.WrongKey = MeetsNone older j bytes
IsUnkeyed2 older j bytes (fault.Slot f) = MayMeetUnknown older j bytes f ⊎ HasRefusedLike older j bytes f
IsUnkeyed2 older j bytes f = ⊥

-- ---- the faults

-- the volume has metadata that counts, of which the fact holds: of the copy's place and the value
pub record HasSaid (v : List ℕ) (says : ℕ → Value → Type 0) : Type 0 where
  pub place : ℕ
  pub value : Value
  pub metadata : HasMetadata v place value
  pub is : says place value

-- why an opener gives no key: of the faults `Locked`, `KeyLength`, `WrongKey` and `Slot` it is one
abbrev pub IsUnopenedBy2 : Allowed → List ℕ → Opener → EditFault → Type 0
IsUnopenedBy2 allowed v (opener.Keyslot slot secret) f = IsUnopenedKeyslot allowed v slot secret f
IsUnopenedBy2 allowed v (opener.Key key) f = HasSaid v (λ o j. IsUnkeyed2 key.allowed.older j key.bytes.now f)

abbrev pub IsUnopened2 : List ℕ → Edit → EditFault → Type 0
IsUnopened2 v e f = IsSomeAnd (opener_in (deed_of e)) (λ o. IsUnopenedBy2 (allowed_by e) v o f)

-- the faults of an edit of the LUKS2 volume `v` with the random bytes
abbrev pub IsEditFault2 : List ℕ → Data → Edit → List ℕ → EditFault → Type 0
IsEditFault2 v payload e random (fault.NotAccepted f) = IsFault v payload f
IsEditFault2 v payload e random fault.Requirements = HasSaid v (λ o j. has_requirements j ≡ true)
IsEditFault2 v payload e random fault.NoSuchSlot = HasSaid v (λ o j. IsAbsent j e)
IsEditFault2 v payload e random fault.SameSlot = NamesItself e
IsEditFault2 v payload e random fault.Locked = IsUnopened2 v e fault.Locked
IsEditFault2 v payload e random fault.KeyLength = IsUnopened2 v e fault.KeyLength
IsEditFault2 v payload e random fault.WrongKey = IsUnopened2 v e fault.WrongKey
IsEditFault2 v payload e random (fault.Slot f) = IsUnopened2 v e (fault.Slot f)
IsEditFault2 v payload e random fault.SlotTaken = HasSaid v (λ o j. IsTaken j e)
IsEditFault2 v payload e random fault.NoFreeSlot = HasSaid v (λ o j. HasNoFree j e)
IsEditFault2 v payload e random fault.NoRoom = HasSaid v (λ o j. HasNoRoom (hdr_size (header_at v o)) (length v) payload j e)
IsEditFault2 v payload e random fault.LastSlot = HasSaid v (λ o j. IsLast j e)
IsEditFault2 v payload e random fault.Iterations = HasFewIterations e
IsEditFault2 v payload e random fault.Argon2 = IsBeyondMemory e
IsEditFault2 v payload e random fault.BadLabel = IsBadLabel e
IsEditFault2 v payload e random fault.NoSuchToken = HasSaid v (λ o j. IsSomeAnd (change_by e) (LacksToken j))
IsEditFault2 v payload e random fault.TokenTaken = HasSaid v (λ o j. IsSomeAnd (change_by e) (IsTokenTaken j))
IsEditFault2 v payload e random fault.NoFreeToken = HasSaid v (λ o j. IsSomeAnd (change_by e) (HasNoFreeToken j))
IsEditFault2 v payload e random fault.UnreadableToken = IsSomeAnd (change_by e) IsUnreadableToken
IsEditFault2 v payload e random fault.BadUuid = HasBadUuid e
IsEditFault2 v payload e random (fault.BadToken f) = HasSaid v (λ o j. IsSomeAnd (change_by e) (IsBadToken (hdr_size (header_at v o) - binary_header_size) j f))
IsEditFault2 v payload e random fault.SeqExhausted = HasSaid v (λ o j. seqid (header_at v o) + 1 ≡ 2 ^ 64)
IsEditFault2 v payload e random fault.MetadataFull = HasSaid v (λ o j. IsFull (hdr_size (header_at v o)) (length v) payload j e)
IsEditFault2 v payload e random fault.RandomLength = HasSaid v (λ o j. IsMiscounted j e random)
IsEditFault2 v payload e random fault.Memory = ⊥
IsEditFault2 v payload e random fault.Device = ⊥

-- the refusal: the first of them
abbrev pub Refusal2 : List ℕ → Data → Edit → List ℕ → EditFault → Type 0
Refusal2 v payload e random f = IsLeast edit_key (IsEditFault2 v payload e random) f

-- nothing refuses the edit
pub record IsUnrefused2 (v : List ℕ) (payload : Data) (e : Edit) (random : List ℕ) : Type 0 where
  pub none : (f : EditFault) → IsEditFault2 v payload e random f → ⊥
