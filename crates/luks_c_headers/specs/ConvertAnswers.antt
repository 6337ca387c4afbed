-- What `luks_convert_bytes` answers.
use Rattle.std.specs.Prelude.{◌≡◌, ℕ, List, Option, true, false}
use Rattle.luks_area.specs.First.{IsLeast}
use Rattle.luks_area.specs.Ranges.{part}
use Rattle.luks1_header.specs.Header1.{luks1_size}
use Rattle.luks_slot.specs.declared.allowed.Allowed.{Allowed}
use Rattle.luks_reading.specs.Answer.{AnswerWithin, opened_to, refused}
use Rattle.luks_reading.specs.Checked.{WellFormed}
use Rattle.luks_reading.specs.declared.open_fault.OpenFault.TheVariants.{NoSuchSlot}
use Rattle.luks_reading.specs.declared.report.Data.{Data}
use Rattle.luks_reading.specs.declared.report.Data.TheVariants.{Elsewhere}
use Rattle.luks_converting.specs.ConvertFaults.{convert_key}
use Rattle.luks_converting.specs.Converted.{IsConverted}
use Rattle.luks_converting.specs.Outcome.{IsConvertFault, IsConvertible}
use Rattle.luks_converting.specs.Source.{is_enabled}
use Rattle.luks_converting.specs.declared.convert_fault.ConvertFault.{ConvertFault}
use Rattle.luks_given.specs.declared.parts.Part.{Part}
use Rattle.luks_c_answers.specs.declared.plans.LuksPlan.{LuksPlan}
use Rattle.luks_c_answers.specs.Numbers.{convert_number}
use Rattle.luks_c_answers.specs.Plans.{AnswersPlan, Buffers}

-- `w` is the target `old` with the header that is made of the volume `v`: each enabled keyslot opens as it did, and there
-- is no other
pub record IsConvertedTo (v random old w : List ℕ) : Type 0 where
  pub converted : IsConverted v random old w
  pub well_formed : WellFormed w Elsewhere
  pub opens : (allowed : Allowed) (n : ℕ) (p : List ℕ) (found : Option (List ℕ)) → is_enabled (part v 0 luks1_size) n ≡ true
      → AnswerWithin allowed v n p (opened_to found) → AnswerWithin allowed w n p (opened_to found)
  pub absent : (allowed : Allowed) (n : ℕ) (p : List ℕ) → is_enabled (part v 0 luks1_size) n ≡ false → AnswerWithin allowed w n p (refused NoSuchSlot)

-- the first of the faults has this number
pub record IsUnconvertedBy (v : List ℕ) (payload : Data) (total : ℕ) (random : List ℕ) (number : ℕ) : Type 0 where
  pub fault : ConvertFault
  pub least : IsLeast convert_key (IsConvertFault v payload total random) fault
  pub is : number ≡ convert_number fault

-- of the source `v`, and the target `t` of `total` bytes, of which these ranges are given
abbrev pub AnswersConvert : List ℕ → Data → List Part → List ℕ → ℕ → List ℕ → Buffers → Buffers → LuksPlan → ℕ → Type 0
AnswersConvert v payload parts t total random = AnswersPlan parts t (IsConvertible v payload total random) (IsUnconvertedBy v payload total random)
    (IsConvertedTo v random t)
