-- What is in the file that a key or a token is kept in, and what is answered of it.
use Rattle.std.specs.Prelude.{◌≡◌, ◌≢◌, ◌⊎◌, ℕ, List, length, None, Result, Ok, Err}
use Rattle.luks_area.specs.Device.{IsSettled}
use Rattle.luks_area.specs.declared.device.Device.{Ghosts as Device}
use Rattle.luks_commands.specs.declared.answers.Answer.{Answer}
use Rattle.luks_commands.specs.declared.answers.Answer.TheVariants.{Done, Refused, DeviceFault}
use Rattle.luks_commands.specs.declared.answers.Refusal.TheVariants.{Exists, SameFile}
use Rattle.luks_commands.specs.declared.inputs.InputFault.{InputFault}
use Rattle.luks_commands.specs.declared.inputs.InputFault.TheVariants.{Unreadable}
use Rattle.luks_commands.specs.declared.inputs.Reason.TheVariants as reason
use Rattle.luks_commands.specs.Answer.{unread_answer}

-- it was found to be there, and not empty
abbrev pub IsExisting : {D : Type 0} → Result D InputFault → Type 0
IsExisting {D} target = target ≡ Err (Unreadable reason.Exists)

-- where it isn't made by this fault
abbrev pub unmade_answer : InputFault → Answer
unmade_answer (Unreadable reason.Exists) = Refused Exists
unmade_answer (Unreadable reason.SameFile) = Refused SameFile
unmade_answer fault = unread_answer fault

-- the file has exactly these bytes, and they stay
pub record Holds {D : Type 0} (device : Device D) (bytes : List ℕ) (file : D) : Type 0 where
  pub size : device.size file ≡ length bytes
  pub unfailed : device.failed file ≡ 0
  pub kept : device.tells → device.bytes file ≡ bytes
  pub settled : device.tells → IsSettled device.unsettled file

-- the file as it was made, and what is answered: a call of it failed, or it can't have as many bytes as these and no others
abbrev pub IsKept : {D : Type 0} → Device D → List ℕ → Result D InputFault → Answer → Type 0
IsKept device bytes (Ok file) (Done None) = Holds device bytes file
IsKept device bytes (Ok file) DeviceFault = (device.failed file ≡ 1) ⊎ (device.size file ≢ length bytes)
IsKept device bytes (Ok file) a = ⊥
IsKept device bytes (Err missed) a = a ≡ unmade_answer missed
