-- Why the header of a volume that is to be edited isn't read.
use Rattle.std.proofs.Common.{List, ℕ}
use Rattle.luks_reading.specs.declared.read_fault.ReadFault.{ReadFault}
use Rattle.luks_reading.specs.declared.read_fault.ReadFault.TheVariants as reading
use Rattle.luks_reading.specs.declared.report.Data.{Data}
use Rattle.luks_reading.specs.Checked.{IsCheckRefusal}
use Rattle.luks_reading.specs.Conversions.{unread_checked}
use Rattle.luks_volume.specs.Unread.{IsHeaderRefused, unread_edit}

-- the refusal of a check is that of an edit
pub refused_as_edit : (v : List ℕ) (payload : Data) (f : ReadFault) → IsCheckRefusal v payload (unread_checked f) → IsHeaderRefused v payload (unread_edit f)
refused_as_edit v payload (reading.Head f) x = x
refused_as_edit v payload (reading.Meta f) x = x
refused_as_edit v payload reading.Device x = tt
refused_as_edit v payload reading.Memory x = x
