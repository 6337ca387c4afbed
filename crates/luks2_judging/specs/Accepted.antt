-- Why an edit finds a LUKS2 volume not accepted.
use Rattle.std.specs.Prelude.{List, ℕ}
use Rattle.luks_reading.specs.declared.report.Data.{Data}
use Rattle.luks_reading.specs.Checked.{First}
use Rattle.luks_edit.specs.declared.edit_fault.EditFault.{EditFault}
use Rattle.luks_edit.specs.declared.edit_fault.EditFault.TheVariants as fault

-- the volume isn't accepted, by its first fault
abbrev pub IsUnaccepted : List ℕ → Data → EditFault → Type 0
IsUnaccepted v payload (fault.NotAccepted f) = First v payload f
IsUnaccepted v payload f = ⊥
