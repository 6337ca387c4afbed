-- What is answered of a key that isn't judged.
use Rattle.std.proofs.Common.{◌≡◌, ℕ, List, Bool, Option, Err, arith}
use Rattle.luks_reading.specs.KeyAnswers.{IsKeyAnswered}
use Rattle.luks_reading.specs.declared.key_fault.KeyFault.{KeyFault}
use Rattle.luks_c_answers.specs.Numbers.{key_number}
use Rattle.luks_c_answers.proofs.NumberFacts.{key_number_range}
use Rattle.luks_c.specs.MatchAnswers.{AnswersMeets}

-- its fault
pub unjudged : (v : List ℕ) (asked : Option ℕ) (older : Bool) (key : List ℕ) (digest : ℕ) (f : KeyFault) (number : ℕ)
    → IsKeyAnswered v asked older key (Err f) → number ≡ key_number f → AnswersMeets v asked older key digest number
unjudged v asked older key digest f number so is =
    let r = key_number_range f in
    let low = r.0 in
    let high = r.1 in
    record {
      meets = λ zero. absurd (omega (arith, zero, is, low));
      fails = λ five. absurd (omega (arith, five, is, high));
      refused = λ zero five. record { fault = f; answered = so; is = is };
    }
