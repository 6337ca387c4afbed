-- What an edit of a LUKS2 volume may leave that a failing device call ended. A failed write leaves any
-- bytes in its range; the ranges are written in this order: a new key area, the copy that doesn't
-- count, the copy that counts, the areas that are lost by the numbers of their keyslots.
use Rattle.std.specs.Prelude.{◌≡◌, ℕ, ◌<◌, ◌≤◌, ◌⊎◌, List, length, IfSome, ⊤}
use Rattle.serde_json.specs.Data.{Data as Value}
use Rattle.luks_area.specs.Ranges.{IsAt, IsOfEither, SameBut}
use Rattle.luks2_header.specs.Header2.{copy_at, hdr_size, header_at, IsSound}
use Rattle.luks2_header.specs.Selection.{luks2, Chosen, IsVersion1}
use Rattle.luks2_header.specs.declared.selection.Copies.{Copies}
use Rattle.luks2_header.specs.Sizes.{IsListed}
use Rattle.luks_reading.specs.declared.report.Data.{Data}
use Rattle.luks_reading.specs.Answer.{opens, AnswerWithin}
use Rattle.luks_edit.specs.declared.edit.Edit.{Edit}
use Rattle.luks_edit.specs.declared.edit.Opener.TheVariants.{Keyslot}
use Rattle.luks_edit.specs.Asked.{again_by, allowed_for, Loses, MatchPlace}
use Rattle.luks_edit.specs.Kept.{IsShut, KeepsAnswers}
use Rattle.luks2_edit_laws.specs.Copies.{other_place, IsRenewed, IsWrittenAnew}
use Rattle.luks2_edit_laws.specs.Edited.{Gives2, keyslot_salt, IsEdited, IsSealedBy, IsWiped}
use Rattle.luks2_edit_laws.specs.Metadata.{HasMetadata}
use Rattle.luks2_edit_laws.specs.Places.{IsOfCopies, IsOfSealed, IsTouchedUpTo}
use Rattle.luks2_edit_laws.specs.Refused.{IsUnrefused2}

-- ---- by the step that failed, of an edit that makes `new` of the metadata `j` at the place `o`

-- while the copy that doesn't count was written
pub record IsTornOther (v : List ℕ) (payload : Data) (e : Edit) (random : List ℕ) (o : ℕ) (j new : Value) (w : List ℕ) : Type 0 where
  pub sealed : IsSealedBy v e random j w new
  pub rest : SameBut (IsOfEither (IsOfSealed (hdr_size (header_at v o)) (length v) payload j e)
      (IsAt (other_place (hdr_size (header_at v o)) o) (hdr_size (header_at v o)))) v w

-- while the copy that counts was written
pub record IsTornChosen (v : List ℕ) (payload : Data) (e : Edit) (random : List ℕ) (o : ℕ) (j new : Value) (w : List ℕ) : Type 0 where
  pub sealed : IsSealedBy v e random j w new
  pub other : IsWrittenAnew v o e random new w (other_place (hdr_size (header_at v o)) o)
  pub rest : SameBut (IsOfEither (IsOfSealed (hdr_size (header_at v o)) (length v) payload j e)
      (IsOfCopies (hdr_size (header_at v o)))) v w

-- while the area that the keyslot `slot` loses was overwritten: those of lower numbers are zeros, those of
-- higher numbers are as they were
pub record IsTornLost (v : List ℕ) (payload : Data) (e : Edit) (random : List ℕ) (o : ℕ) (j new : Value) (w : List ℕ) : Type 0 where
  pub sealed : IsSealedBy v e random j w new
  pub first : IsWrittenAnew v o e random new w 0
  pub second : IsWrittenAnew v o e random new w (hdr_size (header_at v o))
  pub slot : ℕ
  pub loses : Loses e slot
  pub wiped : (n : ℕ) → n < slot → Loses e n → IsWiped j n w
  pub rest : SameBut (IsTouchedUpTo slot (hdr_size (header_at v o)) (length v) payload j e) v w

-- while the new area was sealed, or later
abbrev pub IsTornAt : List ℕ → Data → Edit → List ℕ → ℕ → Value → Value → List ℕ → Type 0
IsTornAt v payload e random o j new w =
    SameBut (IsOfSealed (hdr_size (header_at v o)) (length v) payload j e) v w
    ⊎ IsTornOther v payload e random o j new w
    ⊎ IsTornChosen v payload e random o j new w
    ⊎ IsTornLost v payload e random o j new w

-- the edit was ended while it wrote
pub record IsTorn2 (v : List ℕ) (payload : Data) (e : Edit) (random w : List ℕ) : Type 0 where
  pub place : ℕ
  pub value : Value
  pub metadata : HasMetadata v place value
  pub new : Value
  pub edited : IsEdited (hdr_size (header_at v place)) (length v) payload e (keyslot_salt random) value new
  pub torn : IsTornAt v payload e random place value new w

-- what a failing device call leaves: the volume as it was, or, where nothing refuses the edit, what
-- was torn while it wrote
abbrev pub Leftover2 : List ℕ → Data → Edit → List ℕ → List ℕ → Type 0
Leftover2 v payload e random w = (w ≡ v) ⊎ (IsUnrefused2 v payload e random × IsTorn2 v payload e random w)

-- ---- when bytes of a torn write are taken for a header

-- the copy at the place `q` is one that the edit writes there, the rest of its checksum's field aside
pub record IsAllowed (v : List ℕ) (payload : Data) (e : Edit) (random w : List ℕ) (q : ℕ) : Type 0 where
  pub place : ℕ
  pub value : Value
  pub metadata : HasMetadata v place value
  pub new : Value
  pub edited : IsEdited (hdr_size (header_at v place)) (length v) payload e (keyslot_salt random) value new
  pub renewed : IsRenewed v place e random new w q

-- the volume `w` isn't stray: a sound copy at the place of one of the copies is the one that was there,
-- or one that the edit writes there; where none is sound at 0, none is at a listed place before the
-- second copy; and there is no LUKS1 header
pub record IsNotStray (v : List ℕ) (payload : Data) (e : Edit) (random w : List ℕ) : Type 0 where
  pub place : ℕ
  pub copies : Copies
  pub chosen : Chosen v (luks2 place copies)
  pub known : (q : ℕ) → (q ≡ 0) ⊎ (q ≡ hdr_size (header_at v place)) → IsSound w q
      → (copy_at w q ≡ copy_at v q) ⊎ IsAllowed v payload e random w q
  pub none_before : (IsSound w 0 → ⊥) → (p : ℕ) → IsListed p → IsSound w p → hdr_size (header_at v place) ≤ p
  pub version : IsVersion1 w → ⊥

-- ---- what counts of the volume that was left

-- the copy that counts is the one that counted: its header, and its metadata
pub record CountsAsBefore (v w : List ℕ) : Type 0 where
  pub place : ℕ
  pub old_copies : Copies
  pub old_chosen : Chosen v (luks2 place old_copies)
  pub new_copies : Copies
  pub new_chosen : Chosen w (luks2 place new_copies)
  pub same : copy_at w place ≡ copy_at v place

-- it is one that the edit writes, with its metadata, uuid, label and subsystem
pub record CountsAsAfter (v : List ℕ) (payload : Data) (e : Edit) (random w : List ℕ) : Type 0 where
  pub place : ℕ
  pub copies : Copies
  pub chosen : Chosen w (luks2 place copies)
  pub written : IsAllowed v payload e random w place

-- a keyslot that was to be sealed again gives by the old secret, or opens by the new passphrase to, the same
-- key, where as much is allowed
abbrev pub OpensEither2 : List ℕ → Edit → List ℕ → Type 0
OpensEither2 v e w = IfSome (again_by e) (λ s. MatchPlace s.place (λ o to. ⊤) (λ slot secret. (key : List ℕ)
    → Gives2 (allowed_for (Keyslot slot secret) s.passphrase.now) v (Keyslot slot secret) key
    → Gives2 (allowed_for (Keyslot slot secret) s.passphrase.now) w (Keyslot slot secret) key
    ⊎ AnswerWithin (allowed_for (Keyslot slot secret) s.passphrase.now) w slot s.passphrase.now (opens key)))

-- each keyslot has its area and its answers, or none opens by any passphrase
abbrev pub KeepsAllOrNone : Data → List ℕ → List ℕ → Type 0
KeepsAllOrNone payload v w = ((n : ℕ) → KeepsAnswers payload n v w) ⊎ ((n : ℕ) → IsShut w n)
