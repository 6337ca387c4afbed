-- What the exit status of `check` says.
use Rattle.std.specs.Prelude.{◌≡◌, ◌≢◌, ℕ, List, ◌⊎◌}
use Rattle.luks2_header.specs.Selection.{luks1, luks2, Chosen}
use Rattle.luks2_header.specs.declared.selection.Copies.{Copies}
use Rattle.luks2_header.specs.declared.selection.Copies.TheVariants.{InStep, FirstNewer, SecondNewer, FirstOnly, SecondOnly}
use Rattle.luks_reading.specs.declared.report.Data.{Data}
use Rattle.luks_reading.specs.declared.report.Version.{Version}
use Rattle.luks_reading.specs.declared.report.Version.TheVariants.{Luks1, Luks2}
use Rattle.luks_reading.specs.Checked.{WellFormed}
use Rattle.luks_commands.specs.declared.answers.Status.{Status}
use Rattle.luks_commands.specs.declared.answers.Status.TheVariants.{Done, Refused, NotInStep, Fault}

-- a LUKS1 header counts, or a copy of a LUKS2 header that the other copy is in step with
abbrev pub IsInStep : List ℕ → Type 0
IsInStep v = Chosen v luks1 ⊎ ((o : ℕ) × Chosen v (luks2 o InStep))

-- a copy of a LUKS2 header counts, and the other is older, newer or not sound
pub record IsOutOfStep (v : List ℕ) : Type 0 where
  pub place : ℕ
  pub copies : Copies
  pub chosen : Chosen v (luks2 place copies)
  pub apart : copies ≢ InStep

-- how the command ends tells of the volume `v` with its payload at `payload`
abbrev pub EndsCheck : List ℕ → Data → Status → Type 0
EndsCheck v payload Done = WellFormed v payload × IsInStep v
EndsCheck v payload NotInStep = WellFormed v payload × IsOutOfStep v
EndsCheck v payload Refused = WellFormed v payload → ⊥
EndsCheck v payload Fault = Unit {0}

-- how the command ends at a volume of this version that is accepted
abbrev pub status_of : Version → Status
status_of Luks1 = Done
status_of (Luks2 InStep seqid) = Done
status_of (Luks2 FirstNewer seqid) = NotInStep
status_of (Luks2 SecondNewer seqid) = NotInStep
status_of (Luks2 FirstOnly seqid) = NotInStep
status_of (Luks2 SecondOnly seqid) = NotInStep
