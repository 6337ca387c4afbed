-- When an answer says nothing of the volume: what was read of it got lost.
use Rattle.std.specs.Prelude.{⊤}
use Rattle.luks_commands.specs.declared.answers.Answer.{Answer}
use Rattle.luks_commands.specs.declared.answers.Answer.TheVariants.{DeviceFault, NoMemory}

-- a device call failed, or memory was refused
abbrev pub IsLost : Answer → Type 0
IsLost DeviceFault = ⊤
IsLost NoMemory = ⊤
IsLost a = ⊥
