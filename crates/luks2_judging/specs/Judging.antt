-- What judging an edit of a LUKS2 volume by the rows up to `BadUuid` gives.
use Rattle.std.specs.Prelude.{◌≡◌, ℕ, List, length, Option, ⊤}
use Rattle.std.specs.Borrow.{Bor}
use Rattle.serde_json.specs.Data.{Data as Value}
use Rattle.luks_area.specs.declared.area.Area.{Area}
use Rattle.luks_area.specs.declared.areas.Entry.{Entry}
use Rattle.luks_area.specs.declared.area.AreaName.{AreaName}
use Rattle.luks_area.specs.Area.{IsInside}
use Rattle.luks_area.specs.Names.{HasArea}
use Rattle.luks2_header.specs.Header2.{hdr_size, header_at}
use Rattle.luks_meta.specs.Content.{area_len, content}
use Rattle.luks_making.specs.declared.derivation.AskedDerivation.{AskedDerivation}
use Rattle.luks_reading.specs.declared.header.ChosenCopy.{ChosenCopy}
use Rattle.luks_reading.specs.declared.report.Data.{Data}
use Rattle.luks_reading.specs.Checked.{AreaOf, WellFormed}
use Rattle.luks_reading.specs.Header.{IsChosenCopy}
use Rattle.luks_reading.specs.Listing.{Lists}
use Rattle.luks_reading.specs.Plans.{HasLuks2KeyBytes}
use Rattle.luks_edit.specs.declared.edit.Edit.{Edit}
use Rattle.luks_edit.specs.declared.deed.Deed.TheVariants as deed
use Rattle.luks_edit.specs.declared.deed.Place.{Place}
use Rattle.luks_edit.specs.declared.deed.Place.TheVariants.{New, Opened}
use Rattle.luks_edit.specs.declared.deed.Removed.{Removed}
use Rattle.luks_edit.specs.declared.deed.Rewritten.{Rewritten}
use Rattle.luks_edit.specs.declared.deed.Sealed.{Sealed}
use Rattle.luks_edit.specs.declared.edit.Opener.{Opener}
use Rattle.luks_edit.specs.declared.edit.Opener.TheVariants as opener
use Rattle.luks_edit.specs.declared.edit.Secret.{Secret}
use Rattle.luks_edit.specs.declared.edit_fault.EditFault.{EditFault}
use Rattle.luks_edit.specs.declared.new_uuid.NewUuid.{NewUuid}
use Rattle.luks_edit.specs.Asked.{deed_of, allowed_for}
use Rattle.luks_edit.specs.Endings.{EndsBy}
use Rattle.luks_edit.specs.NewUuids.{IsBadUuid}
use Rattle.luks2_edit_laws.specs.declared.like.Like.TheVariants.{Keyslot}
use Rattle.luks2_edit_laws.specs.Likes.{IsLike}
use Rattle.luks2_edit_laws.specs.Metadata.{IsInUse, IsKeyArea}
use Rattle.luks2_edit_laws.specs.Places.{IsNewArea}
use Rattle.luks2_edit_laws.specs.Refused.{IsAbsent, Refusal2}
use Rattle.luks2_judging.specs.declared.judged.Addition.{Addition}
use Rattle.luks2_judging.specs.declared.judged.Judged.{Judged}
use Rattle.luks2_judging.specs.declared.judged.JudgedChange.{JudgedChange}
use Rattle.luks2_judging.specs.declared.judged.JudgedEdit.{JudgedEdit}
use Rattle.luks2_judging.specs.declared.judged.JudgedEdit.TheVariants as judged
use Rattle.luks2_judging.specs.declared.judged.JudgedPlace.TheVariants as sealed_in
use Rattle.luks2_judging.specs.declared.judged.Renewal.{Renewal}
use Rattle.luks2_judging.specs.declared.judged.TextFields.{TextFields}
use Rattle.luks2_judging.specs.Changes.{IsTakenChange}
use Rattle.luks2_judging.specs.Judged.{IsNewNumber}
use Rattle.luks2_judging.specs.Opened.{HasKeyBytesLike, IsOpenedTo, TakesMemoryToOpen}
use Rattle.luks2_judging.specs.Room.{IsAllowed, IsPlaced}
use Rattle.luks2_judging.specs.Rows.{HasNoFaultBefore}
use Rattle.luks2_judging.specs.Texts.{texts_after, texts_of}

-- ---- on any device: what the edit `e` takes, by the metadata `j` of a JSON area of `len` bytes in a
-- volume of `total` bytes

-- the keyslot loses this area, which is its own and lies inside
pub record IsLostArea (j : Value) (total n : ℕ) (a : Area) : Type 0 where
  pub is : IsKeyArea j n a
  pub inside : IsInside a total

-- a key is sealed at this place under a new passphrase
abbrev pub sealing : Place → Bor (List ℕ) → AskedDerivation → Sealed
sealing place new asked = record { place = place; passphrase = new; derivation = asked }

-- the keyslot `slot` is removed, by the passphrase of the keyslot `by_` where one is named
abbrev pub removing : ℕ → Option ℕ → Secret → Removed
removing slot by_ secret = record { slot = slot; by_ = by_; secret = secret }

-- it adds this keyslot, for the key under the passphrase
pub record IsAddition
    (len : ℕ) (j : Value) (total : ℕ) (e : Edit) (a : Addition) (key : List ℕ) (passphrase : Bor (List ℕ))
    : Type 0 where
  pub opener : Opener
  pub to : Option ℕ
  pub asked : deed_of e ≡ deed.Seal (sealing (New opener to) passphrase a.derivation)
  pub number : IsNewNumber j to a.made
  pub is_like : IsLike j opener a.like
  pub key_length : HasKeyBytesLike j a.like (length key)
  pub placed : IsPlaced len j total a.like a.area
  pub allowed : IsAllowed (allowed_for opener passphrase.now).memory a.derivation

-- it seals this keyslot again, for the key under the passphrase
pub record IsRenewal
    (len : ℕ) (j : Value) (total : ℕ) (e : Edit) (r : Renewal) (key : List ℕ) (passphrase : Bor (List ℕ))
    : Type 0 where
  pub old : Secret
  pub asked : deed_of e ≡ deed.Seal (sealing (Opened r.slot old) passphrase r.derivation)
  pub there : IsInUse j r.slot
  pub key_length : HasLuks2KeyBytes j r.slot (length key)
  pub placed : IsPlaced len j total (Keyslot r.slot) r.area
  pub lost : IsLostArea j total r.slot r.lost
  pub allowed : IsAllowed (allowed_for (opener.Keyslot r.slot old) passphrase.now).memory r.derivation

-- it removes this keyslot, and its area with it
pub record IsRemoval (j : Value) (total : ℕ) (e : Edit) (slot : ℕ) (area : Area) : Type 0 where
  pub by_ : Option ℕ
  pub passphrase : Secret
  pub asked : deed_of e ≡ deed.Remove (removing slot by_ passphrase)
  pub there : IsInUse j slot
  pub lost : IsLostArea j total slot area

-- it removes every keyslot; their areas lie inside
pub record IsErasure (j : Value) (total : ℕ) (e : Edit) : Type 0 where
  pub asked : deed_of e ≡ deed.Erase
  pub inside : (n : ℕ) (a : Area) → IsKeyArea j n a → IsInside a total

-- it writes the header anew, whose texts have the fields `own`, with this uuid, which isn't bad, with these
-- fields for the texts, and with this change of the metadata `j`
pub record IsRewriting (j : Value) (own : TextFields) (e : Edit) (uuid : Option NewUuid) (fields : TextFields) (change : Option JudgedChange) : Type 0 where
  pub rewritten : Rewritten
  pub asked : deed_of e ≡ deed.Rewrite rewritten
  pub uuid_is : uuid ≡ rewritten.uuid
  pub good : IsBadUuid uuid → ⊥
  pub is : fields ≡ texts_after rewritten own
  pub takes : IsTakenChange j rewritten.change change

-- by the copy of the header
abbrev pub Takes : ChosenCopy → ℕ → Edit → JudgedEdit → Type 0
Takes copy total e (judged.Seal (sealed_in.New a) key passphrase) = IsAddition (area_len copy.meta) (content copy.meta) total e a key passphrase
Takes copy total e (judged.Seal (sealed_in.Opened r) key passphrase) = IsRenewal (area_len copy.meta) (content copy.meta) total e r key passphrase
Takes copy total e (judged.Remove slot area) = IsRemoval (content copy.meta) total e slot area
Takes copy total e judged.Erase = IsErasure (content copy.meta) total e
Takes copy total e (judged.Rewrite uuid fields change) = IsRewriting (content copy.meta) (texts_of copy.header) e uuid fields change

-- by the copy that was read
pub record IsJudged (copy : ChosenCopy) (total : ℕ) (e : Edit) (it : Judged) : Type 0 where
  pub is : it.copy ≡ copy
  pub takes : Takes it.copy total e it.edit

-- the areas and the key areas of the copy lie inside `total` bytes, and it has the keyslots that the edit
-- opens and removes
pub record IsAcceptedFor (copy : ChosenCopy) (areas : List Entry) (total : ℕ) (e : Edit) : Type 0 where
  pub there : IsAbsent (content copy.meta) e → ⊥
  pub inside : (m : AreaName) (a : Area) → HasArea areas m a → IsInside a total
  pub key_areas : (n : ℕ) (a : Area) → IsKeyArea (content copy.meta) n a → IsInside a total

-- ---- of the volume `v`

-- the keyslot that a key is sealed again from opens to it, and a new one's area is the one that the
-- header of `h` bytes leaves for it
abbrev pub Seals : ℕ → List ℕ → Data → Value → Edit → JudgedEdit → Type 0
Seals h v payload j e (judged.Seal (sealed_in.New a) key passphrase) = IsOpenedTo v e key × IsNewArea h (length v) payload j a.like a.area
Seals h v payload j e (judged.Seal (sealed_in.Opened r) key passphrase) = IsOpenedTo v e key × IsNewArea h (length v) payload j (Keyslot r.slot) r.area
Seals h v payload j e it = ⊤

-- none of the rows up to `BadUuid` refuses the edit, and this is what it takes by the copy that counts
pub record IsUnrefusedOf (copy : ChosenCopy) (v : List ℕ) (payload : Data) (e : Edit) (it : JudgedEdit) : Type 0 where
  pub well : WellFormed v payload
  pub seals : Seals (hdr_size (header_at v copy.header.hdr_offset)) v payload (content copy.meta) e it
  pub none : (random : List ℕ) → HasNoFaultBefore 20 v payload e random

abbrev pub IsUnrefusedSoFar : List ℕ → Data → Edit → Judged → Type 0
IsUnrefusedSoFar v payload e it = IsUnrefusedOf it.copy v payload e it.edit

-- one of them does, whatever the random bytes are; or memory was refused that opening its keyslot
-- takes; or the device failed
abbrev pub IsRefusedEarly : List ℕ → Data → Edit → EditFault → Type 0
IsRefusedEarly v payload e = EndsBy (λ f. (random : List ℕ) → Refusal2 v payload e random f) (TakesMemoryToOpen v e) ⊤

-- the copy counts, the volume has these areas, and no fault is in a row before the row `k`
pub record IsJudgedTo
    (k : ℕ) (copy : ChosenCopy) (areas : List Entry) (v : List ℕ) (payload : Data) (e : Edit)
    (random : List ℕ)
    : Type 0 where
  pub chosen : IsChosenCopy v copy
  pub lists : Lists areas (AreaOf v payload)
  pub passed : HasNoFaultBefore k v payload e random
