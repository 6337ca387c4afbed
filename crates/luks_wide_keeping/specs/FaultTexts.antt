-- How a fault is written.
use Rattle.std.specs.Prelude.{ℕ, List, codes}
use Rattle.luks_keeping.specs.FaultTexts.{restore_fault_text}
use Rattle.luks_wide_keeping.specs.declared.restore_fault.UnderwayRestoreFault.{UnderwayRestoreFault}
use Rattle.luks_wide_keeping.specs.declared.restore_fault.UnderwayRestoreFault.TheVariants.{Restore, Progressed}

abbrev pub underway_restore_text : UnderwayRestoreFault → List ℕ
underway_restore_text (Restore f) = restore_fault_text f
underway_restore_text Progressed = codes "Progressed"
