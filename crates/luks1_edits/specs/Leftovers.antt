-- What an edit of a LUKS1 volume may leave that a failing device call ended. A failed write leaves
-- any bytes in its range; the ranges are written in this order: the area of a new keyslot, its
-- entry, then the entry of the keyslot that is removed, its area, or so of all
-- keyslots, one after the other; or the uuid's field alone.
use Rattle.std.specs.Prelude.{◌≡◌, ℕ, ◌<◌, ◌≤◌, ◌⊎◌, List, drop, take, Option, Some, None, IfSome, IsSomeAnd}
use Rattle.luks_area.specs.Ranges.{part, IsAt, SameBut}
use Rattle.luks1_header.specs.Header1.{entry, entry_size}
use Rattle.luks1_header.specs.declared.fault.HeadFault.TheVariants.{Text, Uuid as NoUuid}
use Rattle.luks1_header.specs.declared.fault.TextField.TheVariants.{Uuid}
use Rattle.luks_slot.specs.declared.allowed.Allowed.{Allowed}
use Rattle.luks_reading.specs.declared.report.Data.{Data}
use Rattle.luks_reading.specs.Answer.{AnswerWithin, Opened, opens, refused}
use Rattle.luks_reading.specs.declared.check_fault.CheckFault.{CheckFault}
use Rattle.luks_reading.specs.declared.check_fault.CheckFault.TheVariants.{Head}
use Rattle.luks_reading.specs.declared.open_fault.OpenFault.TheVariants.{Head as HeadRefused}
use Rattle.luks_reading.specs.Checked.{IsFault}
use Rattle.luks_edit.specs.declared.edit.Edit.{Edit}
use Rattle.luks_edit.specs.declared.edit.Opener.{Opener}
use Rattle.luks_edit.specs.declared.edit.Opener.TheVariants.{Keyslot}
use Rattle.luks_edit.specs.declared.edit.Secret.{Secret}
use Rattle.luks_edit.specs.Kept.{IsShut, KeepsSlot}
use Rattle.luks_edit.specs.Asked.{again_by, deed_of, MatchDeed, MatchPlace, opener_at, uuid_by}
use Rattle.luks1_edits.specs.Edited.{Gives1, HoldsKey, IsFreed, IsLeastFree, IsMade, IsNewKeyslot, IsWiped, iterations_of, Opens1}
use Rattle.luks1_edits.specs.Kept.{HasUuid, IsEither, IsFitFor}
use Rattle.luks1_edits.specs.Places.{area_len, area_start, entry_place, IsOfKeyslots, IsOfUuid}
use Rattle.luks1_edits.specs.Refused.{IsUnrefused1}
use Rattle.luks1_edits.specs.Steps.{IsKeyslotMade}

-- the area that the keyslot `n` had keeps its bytes, or its entry was freed before
abbrev pub IsFreedFirst : List ℕ → ℕ → List ℕ → Type 0
IsFreedFirst v n w =
    (part w (area_start v n) (area_len v n) ≡ part v (area_start v n) (area_len v n))
    ⊎ IsFreed (entry v n) (entry w n)

-- in the volume `done` the keyslot `n` was made, and `w` differs from it in the keyslot's entry alone
pub record IsMadeButEntry
    (v : List ℕ) (n iterations : ℕ) (passphrase key random w : List ℕ)
    : Type 0 where
  pub done : List ℕ
  pub made : IsKeyslotMade v n iterations passphrase key random done
  pub rest : SameBut (IsAt (entry_place n) entry_size) done w

-- no byte changed but in the area of the keyslot `n`, or the area holds the key already, and the
-- keyslot's entry has any bytes
abbrev pub IsSealedFirst : List ℕ → ℕ → ℕ → List ℕ → List ℕ → List ℕ → List ℕ → Type 0
IsSealedFirst v n iterations passphrase key random w =
    SameBut (IsAt (area_start v n) (area_len v n)) v w
    ⊎ IsMadeButEntry v n iterations passphrase key random w

-- while a keyslot was made in which `new` opens the key that the opener gave
pub record IsHalfMade
    (o : Opener) (v new : List ℕ) (to : Option ℕ) (iterations : ℕ) (random w : List ℕ)
    : Type 0 where
  pub slot : ℕ
  pub is_new : IsNewKeyslot v to slot
  pub key : List ℕ
  pub opened : Opens1 v o key
  pub order : IsSealedFirst v slot iterations new key random w

-- while a keyslot was removed: its entry has any bytes and its area its own, or the entry is freed
-- and the area has any bytes
pub record IsHalfRemoved (v : List ℕ) (slot : ℕ) (w : List ℕ) : Type 0 where
  pub rest : SameBut (IsOfKeyslots v (IsEither slot slot)) v w
  pub order : IsFreedFirst v slot w

-- while the keyslot was removed in whose place another one was made before
pub record IsHalfChanged
    (v : List ℕ) (slot : ℕ) (secret : Secret) (new : List ℕ) (iterations : ℕ) (random w : List ℕ)
    : Type 0 where
  pub fresh : ℕ
  pub is_free : IsLeastFree v fresh
  pub key : List ℕ
  pub opened : Opens1 v (Keyslot slot secret) key
  pub rest : SameBut (IsOfKeyslots v (IsEither slot fresh)) v w
  pub made : IsMade (entry v fresh) (entry w fresh) iterations (take 32 random)
  pub holds : HoldsKey w fresh new key (drop 32 random)
  pub order : IsFreedFirst v slot w

-- while all keyslots were removed, one after the other: those below `slot` are, that one is half removed, and nothing
-- else changed
pub record IsHalfErased (v w : List ℕ) : Type 0 where
  pub slot : ℕ
  pub numbered : slot < 8
  pub rest : SameBut (IsOfKeyslots v (λ n. n ≤ slot)) v w
  pub freed : (n : ℕ) → n < slot → IsFreed (entry v n) (entry w n)
  pub wiped : (n : ℕ) → n < slot → IsWiped v n w
  pub order : IsFreedFirst v slot w

-- the edit was ended while it wrote
abbrev pub IsTorn1 : List ℕ → Edit → List ℕ → List ℕ → Type 0
IsTorn1 v e random w = MatchDeed (deed_of e)
    (λ s. MatchPlace s.place
    (λ o to. IsHalfMade o v s.passphrase.now to (iterations_of s.derivation) random w)
    (λ slot secret. IsHalfMade (Keyslot slot secret) v s.passphrase.now None (iterations_of s.derivation) random w
    ⊎ IsHalfChanged v slot secret s.passphrase.now (iterations_of s.derivation) random w))
    (λ r. IsHalfRemoved v r.slot w)
    (λ r. IsSomeAnd r.uuid (λ uuid. SameBut IsOfUuid v w))
    (IsHalfErased v w)

-- what a failing device call leaves: the volume as it was, or, where nothing refuses the edit, what
-- was torn while it wrote
abbrev pub Leftover1 : List ℕ → Data → Edit → List ℕ → List ℕ → Type 0
Leftover1 v payload e random w = (w ≡ v) ⊎ (IsUnrefused1 v payload e random × IsTorn1 v e random w)

-- the entry of the keyslot `n` isn't torn: it is as it was, or fit for use in its place
abbrev pub IsUntorn : List ℕ → List ℕ → ℕ → Type 0
IsUntorn v w n = (entry w n ≡ entry v n) ⊎ IsFitFor (entry v n) (entry w n)

-- the uuid that the edit sets, if it sets one, isn't torn: its field holds a uuid, be it the old one or another
abbrev pub IsUuidUntorn : Edit → List ℕ → Type 0
IsUuidUntorn e w = IfSome (uuid_by e) (λ uuid. HasUuid w)

-- the fault is of the uuid's field alone
abbrev pub IsFaultOfUuid : CheckFault → Type 0
IsFaultOfUuid f = (f ≡ Head (Text Uuid)) ⊎ (f ≡ Head NoUuid)

-- the volume has no fault but those of the uuid's field, where the edit sets the uuid
abbrev pub FaultsUuidAlone : Data → Edit → List ℕ → Type 0
FaultsUuidAlone payload e w = IfSome (uuid_by e) (λ uuid. (f : CheckFault) → IsFault w payload f → IsFaultOfUuid f)

-- the refusal is of the uuid's field alone
abbrev pub IsRefusalOfUuid : Opened → Type 0
IsRefusalOfUuid a = (a ≡ refused (HeadRefused (Text Uuid))) ⊎ (a ≡ refused (HeadRefused NoUuid))

-- each keyslot answers as it did, or is refused for the uuid's field, where the edit sets the uuid
abbrev pub AnswersOrUuid : List ℕ → Edit → List ℕ → Type 0
AnswersOrUuid v e w = IfSome (uuid_by e) (λ uuid. (allowed : Allowed) (n : ℕ) (p : List ℕ) (a : Opened)
    → AnswerWithin allowed w n p a → AnswerWithin allowed v n p a ⊎ IsRefusalOfUuid a)

-- the keyslot that was changed gives by the old secret, or the new one opens by the new passphrase to, the
-- key that the old one gave before, whatever is allowed
abbrev pub OpensEither1 : List ℕ → Edit → List ℕ → Type 0
OpensEither1 v e w = IfSome (again_by e) (λ s. (allowed : Allowed) (key : List ℕ)
    → Gives1 allowed v (opener_at s.place) (Some key)
    → Gives1 allowed w (opener_at s.place) (Some key)
    ⊎ ((n : ℕ) × (IsLeastFree v n × AnswerWithin allowed w n s.passphrase.now (opens key))))

-- where all keyslots were to be removed, those below one don't open and have areas of zeros, that one has its area or
-- is disabled, and those above it are as they were
pub record AreErasedInTurn (payload : Data) (v w : List ℕ) : Type 0 where
  pub slot : ℕ
  pub shut : (n : ℕ) → n < slot → IsShut w n
  pub wiped : (n : ℕ) → n < slot → IsWiped v n w
  pub order : IsFreedFirst v slot w
  pub above : (n : ℕ) → slot < n → KeepsSlot payload n v w
