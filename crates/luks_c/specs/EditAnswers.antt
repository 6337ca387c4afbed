-- What the calls answer that edit a volume.
use Rattle.std.specs.Prelude.{◌≡◌, ◌≢◌, ◌⊎◌, ℕ, List, Ok, Option}
use Rattle.std.specs.Borrow.{Bor}
use Rattle.serde_json.specs.declared.value.Value.{Value}
use Rattle.luks_area.specs.First.{IsLeast}
use Rattle.luks_making.specs.declared.amended.Change.TheVariants.{AddToken}
use Rattle.luks_edit.specs.declared.edit.Edit.{Edit}
use Rattle.luks_edit.specs.declared.edit.Edit.TheVariants.{Amend, Repair}
use Rattle.luks_edit.specs.declared.edit.Done.{Done}
use Rattle.luks_edit.specs.declared.edit_fault.EditFault.{EditFault}
use Rattle.luks_edit.specs.EditFaults.{edit_key}
use Rattle.luks_reading.specs.declared.report.Data.{Data}
use Rattle.luks_given.specs.declared.parts.Part.{Part}
use Rattle.luks_volume.specs.Edits.{Refusal}
use Rattle.luks_volume.specs.Needed.{IsNeedFault, IsUntold, NeedsRandom}
use Rattle.luks_volume.specs.Outcome.{IsApplied}
use Rattle.luks_c_answers.specs.declared.asking.LuksEdit.{LuksEdit}
use Rattle.luks_c.specs.declared.needing.LuksNeeded.{LuksNeeded}
use Rattle.luks_c_answers.specs.declared.plans.LuksPlan.{LuksPlan}
use Rattle.luks_c_answers.specs.EditAsked.{HasNoToken, HasToken, IsAsked, IsMaybeSlot, IsTokenAsked}
use Rattle.luks_c_answers.specs.Numbers.{edit_number}
use Rattle.luks_c_answers.specs.Plans.{Buffers, IsPlanned}

-- ---- a text that gives no token

-- a token isn't added to the volume `v` since its text is none of a value, by this number: that of the first fault that refuses
-- every edit of it; or 12, BadJson
pub record RefusesEach (v : List ℕ) (payload : Data) (number : ℕ) : Type 0 where
  pub fault : EditFault
  pub first : IsLeast edit_key (IsNeedFault v payload Repair) fault
  pub is : number ≡ edit_number fault

abbrev pub IsUntokened : List ℕ → Data → ℕ → Type 0
IsUntokened v payload number = RefusesEach v payload number
    ⊎ ((number ≡ 12) × ((f : EditFault) → IsNeedFault v payload Repair f → ⊥))

-- the text gives no token, by this number: memory was refused for it; or it is none of a value, and unless another range has to
-- be given or memory was refused, the number says why it isn't added
pub record IsNoText (v : List ℕ) (payload : Data) (text : List ℕ) (number : ℕ) : Type 0 where
  pub none : HasNoToken text
  pub refused : number ≢ 0
  pub room : number ≢ 106
  pub why : number ≢ 102 → number ≢ 103 → IsUntokened v payload number

abbrev pub IsNoToken : List ℕ → Data → List ℕ → ℕ → Type 0
IsNoToken v payload text number = (number ≡ 103) ⊎ IsNoText v payload text number

-- ---- how many random bytes an edit takes

-- it isn't told, by a fault of this number: the first that is seen without opening a keyslot, unless another range has
-- to be given or memory was refused
pub record IsUntoldBy (v : List ℕ) (payload : Data) (e : Edit) (number : ℕ) : Type 0 where
  pub fault : EditFault
  pub untold : IsUntold v payload e fault
  pub is : number ≡ edit_number fault

-- the number 0 says that it is told, any other why not
pub record AnswersNeed (v : List ℕ) (payload : Data) (e : Edit) (told : LuksNeeded) (number : ℕ) : Type 0 where
  pub needs : number ≡ 0 → NeedsRandom v payload e told.random
  pub untold : number ≢ 0 → IsUntoldBy v payload e number

-- of an edit that is asked for
pub record AnswersAsEdit (v : List ℕ) (payload : Data) (asked : LuksEdit) (words text subsystem : List ℕ) (told : LuksNeeded) (number : ℕ) : Type 0 where
  pub edit : Edit
  pub is : IsAsked asked words text subsystem edit
  pub answers : AnswersNeed v payload edit told number

-- of a token that is asked for, whose text gives none: why
pub record AnswersAsNoToken (v : List ℕ) (payload : Data) (asked : LuksEdit) (text : List ℕ) (number : ℕ) : Type 0 where
  pub to : Option ℕ
  pub is : IsTokenAsked asked to
  pub why : IsNoToken v payload text number

-- of either
abbrev pub AnswersNeeded : List ℕ → Data → LuksEdit → List ℕ → List ℕ → List ℕ → LuksNeeded → ℕ → Type 0
AnswersNeeded v payload asked words text subsystem told number =
    AnswersAsEdit v payload asked words text subsystem told number ⊎ AnswersAsNoToken v payload asked text number

-- of the token of this text, the edit that adds it; or why it gives none
pub record AnswersAsToken (v : List ℕ) (payload : Data) (to : Option ℕ) (text : List ℕ) (told : LuksNeeded) (number : ℕ) : Type 0 where
  pub token : Bor Value
  pub has : HasToken text token.now
  pub answers : AnswersNeed v payload (Amend (AddToken to token)) told number

abbrev pub AnswersTokenNeed : List ℕ → Data → Option ℕ → List ℕ → LuksNeeded → ℕ → Type 0
AnswersTokenNeed v payload to text told number = AnswersAsToken v payload to text told number ⊎ IsNoToken v payload text number

-- ---- an edit

-- done, it leaves the volume `w`, and this number tells the keyslot that it made or sealed again
pub record IsEdited (payload : Data) (v : List ℕ) (e : Edit) (random : List ℕ) (number : ℕ) (w : List ℕ) : Type 0 where
  pub done : Done
  pub slot : IsMaybeSlot number done.slot
  pub applied : IsApplied payload v e random (Ok done) w

-- the first of its faults has this number
pub record IsRefusedBy (payload : Data) (v : List ℕ) (e : Edit) (random : List ℕ) (number : ℕ) : Type 0 where
  pub fault : EditFault
  pub refusal : Refusal v payload e random fault
  pub is : number ≡ edit_number fault

-- 0 and 106 say that it is planned, 102 that another range has to be given, 103 that memory was refused, any other number
-- why it is refused; except for 0 the buffers are as they were
pub record AnswersEdit (parts : List Part) (v : List ℕ) (payload : Data) (e : Edit) (random : List ℕ) (old new : Buffers) (told : LuksPlan) (number : ℕ) : Type 0 where
  pub planned : number ≡ 0 → IsPlanned parts v (IsEdited payload v e random told.slot) old new told number
  pub room : number ≡ 106 → IsPlanned parts v (IsEdited payload v e random told.slot) old new told number
  pub refused : number ≢ 0 → number ≢ 106 → number ≢ 102 → number ≢ 103 → IsRefusedBy payload v e random number
  pub kept : number ≢ 0 → new ≡ old

-- of an edit that is asked for, of the volume `v`, of which these ranges are given
pub record AnswersWithEdit (parts : List Part) (v : List ℕ) (payload : Data) (asked : LuksEdit) (words text subsystem random : List ℕ) (old new : Buffers) (told : LuksPlan) (number : ℕ) : Type 0 where
  pub edit : Edit
  pub is : IsAsked asked words text subsystem edit
  pub answers : AnswersEdit parts v payload edit random old new told number

-- of a token that is asked for, whose text gives none: why; the buffers are as they were
pub record AnswersWithNoToken (v : List ℕ) (payload : Data) (asked : LuksEdit) (text : List ℕ) (old new : Buffers) (number : ℕ) : Type 0 where
  pub to : Option ℕ
  pub is : IsTokenAsked asked to
  pub why : IsNoToken v payload text number
  pub kept : new ≡ old

-- of either
abbrev pub AnswersAsked : List Part → List ℕ → Data → LuksEdit → List ℕ → List ℕ → List ℕ → List ℕ → Buffers → Buffers → LuksPlan → ℕ → Type 0
AnswersAsked parts v payload asked words text subsystem random old new told number =
    AnswersWithEdit parts v payload asked words text subsystem random old new told number ⊎ AnswersWithNoToken v payload asked text old new number

-- of the token of this text, the edit that adds it; or why it gives none
pub record AnswersWithToken (parts : List Part) (v : List ℕ) (payload : Data) (to : Option ℕ) (text random : List ℕ) (old new : Buffers) (told : LuksPlan) (number : ℕ) : Type 0 where
  pub token : Bor Value
  pub has : HasToken text token.now
  pub answers : AnswersEdit parts v payload (Amend (AddToken to token)) random old new told number

abbrev pub AnswersToken : List Part → List ℕ → Data → Option ℕ → List ℕ → List ℕ → Buffers → Buffers → LuksPlan → ℕ → Type 0
AnswersToken parts v payload to text random old new told number =
    AnswersWithToken parts v payload to text random old new told number ⊎ (IsNoToken v payload text number × (new ≡ old))
