-- What was read of a passphrase's file, before the volume is opened.
use Rattle.std.specs.Prelude.{◌<◌, ℕ, List, length, Result, Ok, Err, ⊤}
use Rattle.luks_commands.specs.declared.inputs.InputFault.{InputFault}
use Rattle.luks_commands.specs.declared.inputs.InputFault.TheVariants.{Absent, Unreadable, NoMemory}

-- The command ends by it, and no volume is opened: the file has more bytes than a passphrase may have, or
-- doesn't give them. A passphrase that the command line doesn't name ends nothing.
abbrev pub EndsCommand : Result (List ℕ) InputFault → Type 0
EndsCommand (Ok bytes) = 65536 < length bytes
EndsCommand (Err Absent) = ⊥
EndsCommand (Err (Unreadable reason)) = ⊤
EndsCommand (Err NoMemory) = ⊤
