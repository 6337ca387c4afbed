-- How an edit that writes the header anew is judged, by the metadata `j` and the fields `own` of the texts.
use Rattle.std.specs.Prelude.{◌≡◌, Option, IsSomeAnd}
use Rattle.serde_json.specs.Data.{Data as Value}
use Rattle.luks_edit.specs.declared.deed.Rewritten.{Rewritten}
use Rattle.luks_edit.specs.declared.edit_fault.EditFault.{EditFault}
use Rattle.luks_edit.specs.declared.edit_fault.EditFault.TheVariants as fault
use Rattle.luks_edit.specs.NewUuids.{IsBadUuid}
use Rattle.luks2_edit_laws.specs.Refused.{HasBadText}
use Rattle.luks2_judging.specs.declared.judged.JudgedChange.{JudgedChange}
use Rattle.luks2_judging.specs.declared.judged.JudgedEdit.{JudgedEdit}
use Rattle.luks2_judging.specs.declared.judged.JudgedEdit.TheVariants as judged
use Rattle.luks2_judging.specs.declared.judged.TextFields.{TextFields}
use Rattle.luks2_judging.specs.Changes.{IsChangeFault, IsTakenChange}
use Rattle.luks2_judging.specs.Texts.{texts_after}

-- it takes this uuid, which isn't bad, these fields and this change
abbrev pub IsRewrittenAs : Value → TextFields → Rewritten → JudgedEdit → Type 0
IsRewrittenAs j own r (judged.Rewrite uuid fields change) = (uuid ≡ r.uuid) × (IsBadUuid uuid → ⊥) × (fields ≡ texts_after r own) × IsTakenChange j r.change change
IsRewrittenAs j own r it = ⊥

-- the texts are good, and this is why the change takes nothing
abbrev pub IsUnchanged : Value → Rewritten → EditFault → Type 0
IsUnchanged j r f = (HasBadText r → ⊥) × IsSomeAnd r.change (λ c. IsChangeFault j c f)

-- the texts are good, the change takes this, and the uuid is none
pub record HasBadUuidAlone (j : Value) (r : Rewritten) : Type 0 where
  pub good : HasBadText r → ⊥
  pub change : Option JudgedChange
  pub takes : IsTakenChange j r.change change
  pub bad : IsBadUuid r.uuid

-- why it takes nothing
abbrev pub IsUnrewritten : Value → Rewritten → EditFault → Type 0
IsUnrewritten j r fault.BadLabel = HasBadText r
IsUnrewritten j r fault.BadUuid = HasBadUuidAlone j r
IsUnrewritten j r f = IsUnchanged j r f
