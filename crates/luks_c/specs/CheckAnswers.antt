-- What `luks_check_bytes` answers.
use Rattle.std.specs.Prelude.{◌≡◌, ◌≢◌, ℕ, List, length}
use Rattle.luks2_header.specs.declared.selection.Copies.{Copies}
use Rattle.luks2_header.specs.declared.selection.Copies.TheVariants.{InStep, FirstNewer, SecondNewer, FirstOnly, SecondOnly}
use Rattle.luks_area.specs.declared.areas.Entry.{Entry}
use Rattle.luks_reading.specs.declared.check_fault.CheckFault.{CheckFault}
use Rattle.luks_reading.specs.declared.report.Data.{Data}
use Rattle.luks_reading.specs.declared.report.Version.{Version}
use Rattle.luks_reading.specs.declared.report.Version.TheVariants.{Luks1, Luks2}
use Rattle.luks_reading.specs.Checked.{AreaOf, IsCheckRefusal, WellFormed}
use Rattle.luks_reading.specs.Listing.{Lists}
use Rattle.luks_reading.specs.Reported.{IsVersion}
use Rattle.luks_c.specs.declared.checking.LuksReport.{LuksReport}
use Rattle.luks_c_answers.specs.Numbers.{check_number}

-- a version by its number
abbrev pub version_number : Version → ℕ
version_number Luks1 = 1
version_number (Luks2 copies seqid) = 2

-- how the copies stand, by its number
abbrev pub number_of_copies : Copies → ℕ
number_of_copies InStep = 1
number_of_copies FirstNewer = 2
number_of_copies SecondNewer = 3
number_of_copies FirstOnly = 4
number_of_copies SecondOnly = 5

-- the same of a version; LUKS1 has no copies
abbrev pub copies_number : Version → ℕ
copies_number Luks1 = 0
copies_number (Luks2 copies seqid) = number_of_copies copies

-- the sequence number of the copy that counts; LUKS1 has none
abbrev pub seqid_of : Version → ℕ
seqid_of Luks1 = 0
seqid_of (Luks2 copies seqid) = seqid

-- the volume `v` is well formed, and these are its version and how many areas it has
pub record IsTold (v : List ℕ) (payload : Data) (report : LuksReport) : Type 0 where
  pub formed : WellFormed v payload
  pub kind : Version
  pub is : IsVersion v kind
  pub version : report.version ≡ version_number kind
  pub copies : report.copies ≡ copies_number kind
  pub seqid : report.seqid ≡ seqid_of kind
  pub list : List Entry
  pub listed : Lists list (AreaOf v payload)
  pub areas : report.areas ≡ length list

-- the volume `v` is refused, by a fault of this number; it is the first, unless another range has to be given or
-- memory was refused
pub record IsRefused (v : List ℕ) (payload : Data) (number : ℕ) : Type 0 where
  pub fault : CheckFault
  pub refusal : IsCheckRefusal v payload fault
  pub is : number ≡ check_number fault

-- the number 0 says that the volume is accepted and told, any other that it isn't
pub record AnswersCheck (v : List ℕ) (payload : Data) (number : ℕ) (report : LuksReport) : Type 0 where
  pub told : number ≡ 0 → IsTold v payload report
  pub refused : number ≢ 0 → IsRefused v payload number
