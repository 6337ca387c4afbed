-- What `convert` answers, by what it met.
use Rattle.std.proofs.Common.{◌≡◌, List, ℕ, false, refl}
use Rattle.luks_reading.specs.declared.report.Data.{Data}
use Rattle.luks_converting.specs.ConvertFaults.{is_convert_failure}
use Rattle.luks_converting.specs.Outcome.{IsAnsweredFault, IsConvertible}
use Rattle.luks_writing.specs.TwoDevices.{CountsAfter}
use Rattle.luks_converting.specs.declared.convert_fault.ConvertFault.{ConvertFault}
use Rattle.luks_converting.specs.declared.convert_fault.ConvertFault.TheVariants.{Memory, Device}
use Rattle.luks_commands.specs.declared.answers.Answer.{Answer}
use Rattle.luks_commands.specs.declared.answers.Answer.TheVariants as answer
use Rattle.luks_commands.specs.declared.answers.Refusal.TheVariants.{Convert}
use Rattle.luks_commands.specs.Answer.{convert_fault_answer}
use Rattle.luks_header_commands.specs.Converting.{IsConvertAnswer, IsNewHeader}
use Rattle.luks_header_commands.specs.Target.{IsLater, Pair}
use Rattle.luks_header_commands.proofs.TargetFacts.{bytes_later, none_later, one_later, said_later, same_later}

-- a fault that isn't a device's left the target as it was
pub answers_fault : (tells : Type 0) (payload : Data) (random : List ℕ) (d : Pair) (f : ConvertFault)
    → CountsAfter (is_convert_failure f) d.volume_before d.volume_after d.before d.after
    → (is_convert_failure f ≡ false → tells → d.new ≡ d.old) → (tells → IsAnsweredFault d.volume payload d.total random f)
    → IsConvertAnswer tells payload random d (convert_fault_answer f)
answers_fault tells payload random d Device count same is = count
answers_fault tells payload random d Memory count same is = (count, same refl, is)
answers_fault tells payload random d f count same is = (count, same refl, is)

-- it is so of what has begun later
pub convert_later : (tells : Type 0) (payload : Data) (random : List ℕ) (d e : Pair) (a : Answer) → IsLater tells d e → IsConvertAnswer tells payload random d a
    → IsConvertAnswer tells payload random e a
convert_later tells payload random d e (answer.Done slot) later said = (
  none_later tells d e later said.0,
  said.1,
  said_later tells d e (λ v n. IsConvertible v payload n random) later said.2,
  bytes_later tells d e (λ v old new. IsNewHeader v random old new) later said.3,
)
convert_later tells payload random d e (answer.Refused (Convert Device)) later said = said
convert_later tells payload random d e (answer.Refused (Convert Memory)) later said = said
convert_later tells payload random d e (answer.Refused (Convert f)) later said = (
  none_later tells d e later said.0,
  same_later tells d e later said.1,
  said_later tells d e (λ v n. IsAnsweredFault v payload n random f) later said.2,
)
convert_later tells payload random d e answer.DeviceFault later said = one_later tells d e later said
convert_later tells payload random d e answer.NoMemory later said = (
  none_later tells d e later said.0,
  same_later tells d e later said.1,
  said_later tells d e (λ v n. IsAnsweredFault v payload n random Memory) later said.2,
)
convert_later tells payload random d e a later said = absurd said
