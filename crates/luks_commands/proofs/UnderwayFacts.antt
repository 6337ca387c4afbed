-- Which answers of the wider reading are those of the narrow one.
use Rattle.std.specs.Prelude.{ℕ, List}
use Rattle.luks_reading.specs.declared.read_fault.ReadFault.{ReadFault}
use Rattle.luks_reading.specs.declared.read_fault.ReadFault.TheVariants as reading
use Rattle.luks_reading.specs.Conversions.{unread_checked}
use Rattle.luks_reading.specs.Header.{IsUnread}
use Rattle.luks_wide_reading.specs.declared.read_fault.WideReadFault.TheVariants.{Read}
use Rattle.luks_wide_reading.specs.Headers.{IsFromOutside, IsWideUnread}
use Rattle.luks_commands.specs.Answer.{check_fault_answer}
use Rattle.luks_commands.specs.Lost.{IsLost}

-- what isn't read for something else than what is under way isn't read by the narrow reading
pub narrow_unread : (v : List ℕ) (f : ReadFault) → IsWideUnread v (Read f) → IsUnread v f
narrow_unread v (reading.Head f) is = is
narrow_unread v (reading.Meta f) is = is.1
narrow_unread v reading.Device is = is
narrow_unread v reading.Memory is = is

-- what is from outside is answered as what was lost
pub check_lost : (f : ReadFault) → IsFromOutside (Read f) → IsLost (check_fault_answer (unread_checked f))
check_lost reading.Device is = tt
check_lost reading.Memory is = tt
check_lost other is = absurd is
