-- How commands end.
use Rattle.std.proofs.Common.{◌≡◌, refl, inl, inr}
use Rattle.luks_commands.specs.declared.answers.Status.{Status}
use Rattle.luks_commands.specs.declared.answers.Status.TheVariants.{Done, Refused, NotInStep, Fault}
use Rattle.luks_commands.specs.declared.inputs.InputFault.{InputFault}
use Rattle.luks_commands.specs.declared.inputs.InputFault.TheVariants.{Absent, Unreadable, NoMemory}
use Rattle.luks_commands.specs.Answer.{answer_status, unread_answer}
use Rattle.luks_commands.specs.Exit.{exit_status, IsExitStatus}

-- each way in which a command ends has one of the exit statuses
pub is_exit_status : (s : Status) → IsExitStatus (exit_status s)
is_exit_status Done = inl refl
is_exit_status Refused = inr (inl refl)
is_exit_status NotInStep = inr (inr (inl refl))
is_exit_status Fault = inr (inr (inr refl))

-- a file that can't be read is a fault
pub unread_is_fault : (f : InputFault) → answer_status (unread_answer f) ≡ Fault
unread_is_fault Absent = refl
unread_is_fault (Unreadable reason) = refl
unread_is_fault NoMemory = refl
