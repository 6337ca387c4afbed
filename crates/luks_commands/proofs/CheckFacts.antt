-- What `check` answers where the volume isn't accepted.
use Rattle.std.proofs.Common.{◌≡◌, ◌≢◌, ℕ, List, refl}
use Rattle.luks_area.specs.Device.{count_after}
use Rattle.luks_reading.specs.declared.report.Data.{Data}
use Rattle.luks_reading.specs.declared.check_fault.CheckFault.{CheckFault}
use Rattle.luks_reading.specs.declared.check_fault.CheckFault.TheVariants.{Head, Meta, Area, Device, Memory}
use Rattle.luks_reading.specs.declared.read_fault.ReadFault.{ReadFault}
use Rattle.luks_reading.specs.declared.read_fault.ReadFault.TheVariants as reading
use Rattle.luks_reading.specs.Checked.{First, IsCheckRefusal, WellFormed}
use Rattle.luks_reading.specs.Conversions.{unread_checked}
use Rattle.luks_reading.specs.Failures.{is_read_failure}
use Rattle.luks_reading.specs.Reported.{IsFromOutside}
use Rattle.luks_commands.specs.declared.answers.Status.TheVariants.{NotInStep}
use Rattle.luks_commands.specs.Answer.{answer_status, check_fault_answer}
use Rattle.luks_commands.specs.CheckAnswers.{IsCheckAnswer}
use Rattle.luks_commands.specs.Checked.{EndsCheck}

-- a header that isn't read is answered as its fault
pub answers_unread : (tells : Type 0) (v : List ℕ) (payload : Data) (before after : ℕ) (f : ReadFault) → after ≡ count_after (is_read_failure f) before
    → (tells → IsCheckRefusal v payload (unread_checked f)) → IsCheckAnswer tells v payload before after (check_fault_answer (unread_checked f))
answers_unread tells v payload before after (reading.Head f) count is = (count, is)
answers_unread tells v payload before after (reading.Meta f) count is = (count, is)
answers_unread tells v payload before after reading.Device count is = count
answers_unread tells v payload before after reading.Memory count is = (count, is)

-- what a header is refused for that was read is answered as it is
pub answers_judged : (tells : Type 0) (v : List ℕ) (payload : Data) (before after : ℕ) (f : CheckFault) → after ≡ before → f ≢ Device → f ≢ Memory
    → (tells → First v payload f) → IsCheckAnswer tells v payload before after (check_fault_answer f)
answers_judged tells v payload before after (Head f) count device memory is = (count, is)
answers_judged tells v payload before after (Meta f) count device memory is = (count, is)
answers_judged tells v payload before after (Area f) count device memory is = (count, is)
answers_judged tells v payload before after Device count device memory is = absurd (device refl)
answers_judged tells v payload before after Memory count device memory is = absurd (memory refl)

-- a fault ends the command
pub ends_fault : (v : List ℕ) (payload : Data) (f : CheckFault) → (WellFormed v payload → IsFromOutside f) → EndsCheck v payload (answer_status (check_fault_answer f))
ends_fault v payload (Head f) only = only
ends_fault v payload (Meta f) only = only
ends_fault v payload (Area f) only = only
ends_fault v payload Device only = tt
ends_fault v payload Memory only = tt

-- no fault says how the copies of a header stand
pub check_kinds : (f : CheckFault) → answer_status (check_fault_answer f) ≢ NotInStep
check_kinds (Head f) = λ e. cc
check_kinds (Meta f) = λ e. cc
check_kinds (Area f) = λ e. cc
check_kinds Device = λ e. cc
check_kinds Memory = λ e. cc
