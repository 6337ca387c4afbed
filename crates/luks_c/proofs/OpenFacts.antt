-- What is answered of a passphrase, and of a header that isn't read.
use Rattle.std.proofs.Common.{◌≡◌, ◌≢◌, ℕ, List, false, refl, arith}
use Rattle.std.proofs.lemmas.Bool.{true≢false}
use Rattle.luks_reading.specs.Failures.{is_read_failure}
use Rattle.luks_reading.specs.declared.read_fault.ReadFault.{ReadFault}
use Rattle.luks_reading.specs.declared.read_fault.ReadFault.TheVariants as reading
use Rattle.luks_reading.specs.declared.open_fault.OpenFault.{OpenFault}
use Rattle.luks1_header.specs.FaultTexts.{fault_text as head_fault_text}
use Rattle.luks_rules.specs.MetaFault.{fault_text as meta_fault_text}
use Rattle.luks_c.specs.declared.opening.LuksOpened.{LuksOpened}
use Rattle.luks_c_answers.specs.Numbers.{open_number, read_number}
use Rattle.luks_c.specs.OpenAnswers.{Answers}
use Rattle.luks_c_answers.proofs.NumberFacts.{number_printed_range, open_number_range}

-- one that isn't tried, with its fault
pub refused_by : (opens_by : ℕ → List ℕ → Type 0) (shut : Type 0) (refusal : OpenFault → Type 0) (old : List ℕ) (opened : LuksOpened) (f : OpenFault) (number : ℕ)
    → refusal f → number ≡ open_number f → Answers opens_by shut refusal old old opened number
refused_by opens_by shut refusal old opened f number so is =
    let r = open_number_range f in
    let low = r.0 in
    let high = r.1 in
    record {
      opened_ = λ zero. absurd (omega (arith, zero, is, low));
      room = λ six. absurd (omega (arith, six, is, high));
      none = λ five. absurd (omega (arith, five, is, high));
      refused = λ zero five six. record { fault = f; is = so; number_is = is };
      kept = λ other. refl;
    }

-- a header that isn't read asks for no range, unless its device failed
pub read_number_other : (f : ReadFault) → is_read_failure f ≡ false → read_number f ≢ 102
read_number_other (reading.Head f) own = λ e. let high = (number_printed_range (head_fault_text f)).1 in absurd (omega (arith, high, e))
read_number_other (reading.Meta f) own = λ e. let high = (number_printed_range (meta_fault_text f)).1 in absurd (omega (arith, high, e))
read_number_other reading.Device own = absurd (true≢false own)
read_number_other reading.Memory own = λ e. absurd (omega (arith, e))
