-- What an edit brings about in a well formed volume of either version, beside what it keeps: the
-- keyslot that it made opens, the area that a keyslot lost is zeros, and one that it only lost opens no
-- more; and what a failing device call spares of it.
use Rattle.std.specs.Prelude.{◌≡◌, ◌⊎◌, ℕ, List, replicate, Some, IfSome, OnOk}
use Rattle.luks_area.specs.declared.area.Area.{Area}
use Rattle.luks_area.specs.declared.area.AreaName.TheVariants.{Slot}
use Rattle.luks_area.specs.Ranges.{part, SameBut}
use Rattle.luks2_header.specs.declared.selection.Copies.{Copies}
use Rattle.luks2_header.specs.Selection.{Choice, luks1, luks2, nothing, Chosen}
use Rattle.luks_slot.specs.declared.allowed.Allowed.{Allowed}
use Rattle.luks_reading.specs.declared.report.Data.{Data}
use Rattle.luks_reading.specs.Answer.{AnswerWithin, opens}
use Rattle.luks_reading.specs.Checked.{AreaOf}
use Rattle.luks_edit.specs.declared.edit.Edit.{Edit}
use Rattle.luks_edit.specs.declared.edit.Edit.TheVariants.{Erase}
use Rattle.luks_edit.specs.declared.edit.Opener.{Opener}
use Rattle.luks_edit.specs.Asked.{allowed_for, Loses, opener_at, sealed_by}
use Rattle.luks_edit.specs.declared.edit_fault.EditFault.{EditFault}
use Rattle.luks_edit.specs.Kept.{IsShut, Keeps}
use Rattle.luks_edit.specs.Ran.{IsCompleted, IsFailure, Reply}
use Rattle.luks_reading.specs.Checked.{WellFormed}
use Rattle.luks1_edits.specs.Edited.{Gives1, IsTouched1, NamedKeyslots1}
use Rattle.luks1_edits.specs.Kept.{KeepsEntries, KeepsOthers}
use Rattle.luks1_edits.specs.Leftovers.{AnswersOrUuid, AreErasedInTurn, FaultsUuidAlone, IsUuidUntorn, OpensEither1}
use Rattle.luks2_edit_laws.specs.Edited.{Gives2, NamedKeyslots2}
use Rattle.luks2_edit_laws.specs.Leftovers.{CountsAsAfter, CountsAsBefore, IsNotStray, KeepsAllOrNone, OpensEither2}
use Rattle.luks2_edit_laws.specs.Places.{IsTouchedIn}
use Rattle.luks_volume.specs.Edits.{IsEditFault, Makes, NamedSlots, Replies}

-- the opener gives the key of the volume, where so much is allowed, by what counts of it
abbrev pub GivesAs : Allowed → List ℕ → Opener → List ℕ → Choice → Type 0
GivesAs allowed v o key luks1 = Gives1 allowed v o (Some key)
GivesAs allowed v o key (luks2 place copies) = Gives2 allowed v o key
GivesAs allowed v o key nothing = ⊥

pub record Gives (allowed : Allowed) (v : List ℕ) (o : Opener) (key : List ℕ) : Type 0 where
  pub choice : Choice
  pub chosen : Chosen v choice
  pub gives : GivesAs allowed v o key choice

-- the keyslot that the edit of `v` made, or sealed again, opens in `w` by the new passphrase to the
-- key that the opener gave, a keyslot by its secret or the volume key itself, where as much is allowed
abbrev pub OpensMade : List ℕ → Edit → List ℕ → Type 0
OpensMade v e w = IfSome (sealed_by e) (λ s. (n : ℕ) (key : List ℕ) → Makes v e n
    → Gives (allowed_for (opener_at s.place) s.passphrase.now) v (opener_at s.place) key
    → AnswerWithin (allowed_for (opener_at s.place) s.passphrase.now) w n s.passphrase.now (opens key))

-- the area that a keyslot of `v` lost by the edit is zeros in `w`
pub record WipesLost (v : List ℕ) (payload : Data) (e : Edit) (w : List ℕ) : Type 0 where
  pub zeros : (n : ℕ) (a : Area) → Loses e n → AreaOf v payload (Slot n) a
      → part w a.start a.len ≡ replicate a.len 0

-- a keyslot that lost its area by the edit of `v`, and that the edit didn't make or seal again, opens in `w` by
-- no passphrase: so one that is removed, and where all are erased each
abbrev pub ShutsLost : List ℕ → Edit → List ℕ → Type 0
ShutsLost v e w = (n : ℕ) → Loses e n → (Makes v e n → ⊥) → IsShut w n

-- ---- a failing device call

-- of a LUKS1 volume: no byte changed outside the entries and the areas of the keyslots that the edit
-- names, and outside the uuid's field where it sets the uuid; the segments and the other keyslots' entries
-- and areas are as they were, and their answers too, unless the uuid is torn: then they, and the volume, are
-- refused for the uuid alone; and a changed keyslot opens by the old passphrase, or the new one by the new
-- passphrase; where all keyslots were to be erased, they were so in turn
pub record Spares1 (v : List ℕ) (payload : Data) (e : Edit) (w : List ℕ) : Type 0 where
  pub rest : SameBut (IsTouched1 v e) v w
  pub entries : KeepsEntries payload (NamedKeyslots1 v e) v w
  pub keeps : IsUuidUntorn e w → KeepsOthers payload (NamedKeyslots1 v e) v w
  pub faults : FaultsUuidAlone payload e w
  pub answers : AnswersOrUuid v e w
  pub opens_either : OpensEither1 v e w
  pub erased : e ≡ Erase → AreErasedInTurn payload v w

-- of a LUKS2 volume of which no bytes of a torn write are taken for a header: it is well formed, the
-- segments and the keyslots that the edit doesn't name are as they were, what counts is the copy that
-- counted or one that the edit writes, and a changed keyslot opens by the old passphrase or by the
-- new one; where all keyslots were to be erased, each has its area and its answers, or none opens
pub record StaysWhole
    (v : List ℕ) (payload : Data) (e : Edit) (random w : List ℕ)
    : Type 0 where
  pub keeps : Keeps payload (NamedKeyslots2 v e) v w
  pub counts : CountsAsBefore v w ⊎ CountsAsAfter v payload e random w
  pub opens_either : OpensEither2 v e w
  pub erased : e ≡ Erase → KeepsAllOrNone payload v w

-- of a LUKS2 volume: no byte changed outside the two copies, the sectors of the keyslot that the edit
-- makes or seals again, and the areas that keyslots lose
pub record Spares2
    (v : List ℕ) (payload : Data) (e : Edit) (random w : List ℕ)
    : Type 0 where
  pub rest : SameBut (IsTouchedIn v payload e) v w
  pub whole : IsNotStray v payload e random w → StaysWhole v payload e random w

-- by what counts of the volume `v`
abbrev pub SparesAs : List ℕ → Data → Edit → List ℕ → Choice → List ℕ → Type 0
SparesAs v payload e random luks1 w = Spares1 v payload e w
SparesAs v payload e random (luks2 o copies) w = Spares2 v payload e random w
SparesAs v payload e random nothing w = ⊥

-- what a failing device call leaves of the well formed volume `v`; where a fault refuses the edit,
-- no byte changed
pub record Spares
    (v : List ℕ) (payload : Data) (e : Edit) (random w : List ℕ)
    : Type 0 where
  pub choice : Choice
  pub chosen : Chosen v choice
  pub refused : (f : EditFault) → IsEditFault v payload e random f → w ≡ v
  pub spared : SparesAs v payload e random choice w

-- where the volume `v` is one of LUKS2, no bytes of a torn write are taken for a header in `w`; where it is
-- one of LUKS1, no uuid is torn
pub record IsUnstray (v : List ℕ) (payload : Data) (e : Edit) (random w : List ℕ) : Type 0 where
  pub header : (o : ℕ) (copies : Copies) → Chosen v (luks2 o copies) → IsNotStray v payload e random w
  pub uuid : Chosen v luks1 → IsUuidUntorn e w

-- ---- an edit as a whole

-- what an edit of the volume `v` by these random bytes leaves where it is replied so: what the reply
-- says, and what follows of it
pub record IsApplied (payload : Data) (v : List ℕ) (e : Edit) (random : List ℕ) (reply : Reply) (w : List ℕ) : Type 0 where
  pub replies : Replies payload v e random reply w
  -- a well formed volume is well formed again, and nothing changed that the edit doesn't name
  pub keeps : WellFormed v payload → (IsFailure reply → ⊥) → Keeps payload (λ n. IsCompleted reply × NamedSlots v e n) v w
  -- the keyslot that was made opens, the area that a keyslot lost is zeros, and where it isn't sealed again the
  -- keyslot opens no more
  pub opens : WellFormed v payload → OnOk reply (OpensMade v e w)
  pub wiped : WellFormed v payload → OnOk reply (WipesLost v payload e w)
  pub shut : WellFormed v payload → OnOk reply (ShutsLost v e w)
  -- an edit that a fault refuses changes no byte, whatever is replied: where the device failed too
  pub refused : (f : EditFault) → IsEditFault v payload e random f → w ≡ v
  -- what is left where the device failed
  pub spared : WellFormed v payload → IsFailure reply → Spares v payload e random w
