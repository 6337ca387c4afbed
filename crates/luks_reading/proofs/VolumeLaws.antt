-- What holds of each volume: it has one answer, and no fault exactly where it is well formed.
use Rattle.std.proofs.Common.{◌↔◌, ℕ, List}
use Rattle.luks1_header.specs.declared.fault.HeadFault.{HeadFault}
use Rattle.luks1_header.proofs.Luks1FaultFacts.{sound}
use Rattle.luks1_header.proofs.Luks1HeaderFacts.{header_found}
use Rattle.luks2_header.specs.Header2.{IsUuidFault, IsUuidField}
use Rattle.luks2_header.proofs.ChoiceFacts.{choice_exists, choices_agree, uuid_accepted, uuid_sound}
use Rattle.luks_rules.proofs.AreaFaults.{one_value}
use Rattle.luks_rules.proofs.Deciding.{metadata_faultless}
use Rattle.luks_meta.proofs.Namings.{one_digest}
use Rattle.luks_slot.specs.declared.allowed.Allowed.{Allowed}
use Rattle.luks_reading.specs.declared.check_fault.CheckFault.{CheckFault}
use Rattle.luks_reading.specs.declared.report.Data.{Data}
use Rattle.luks_reading.specs.Agreement.{IsSameAnswer}
use Rattle.luks_reading.specs.Answer.{AnswerWithin, Opened}
use Rattle.luks_reading.specs.Checked.{IsFault, WellFormed}
use Rattle.luks_reading.specs.FitsAndResolves.{FitsAndResolves}
use Rattle.luks_reading.proofs.OneAnswer.{one_answer as one_answer_by}
use Rattle.luks_reading.proofs.WellFormedFacts.{fits_and_resolves, formed_sound, formed_without}

-- a keyslot has one answer
pub one_answer : (allowed : Allowed) (v : List ℕ) (n : ℕ) (p : List ℕ) (a b : Opened) → AnswerWithin allowed v n p a → AnswerWithin allowed v n p b → IsSameAnswer a b
one_answer = one_answer_by choices_agree one_value metadata_faultless one_digest

-- a field has no fault exactly where it is that of a uuid
pub uuid_faultless : (field_ : List ℕ) → ((f : HeadFault) → IsUuidFault field_ f → ⊥) ↔ IsUuidField field_
uuid_faultless field_ = (uuid_accepted field_, uuid_sound field_)

pub well_formed_faultless : (v : List ℕ) (payload : Data) → WellFormed v payload → (f : CheckFault) → IsFault v payload f → ⊥
well_formed_faultless = formed_sound (λ h. (header_found h, λ x. sound h x.0 x.1)) uuid_faultless metadata_faultless one_value choices_agree

pub faultless_well_formed : (v : List ℕ) (payload : Data) → ((f : CheckFault) → IsFault v payload f → ⊥) → WellFormed v payload
faultless_well_formed = formed_without (λ h. (header_found h, λ x. sound h x.0 x.1)) uuid_faultless metadata_faultless choice_exists

-- the areas of a well formed volume fit, and its names resolve
pub well_formed_fits : (v : List ℕ) (payload : Data) → WellFormed v payload → FitsAndResolves v payload
well_formed_fits = fits_and_resolves one_value choices_agree
