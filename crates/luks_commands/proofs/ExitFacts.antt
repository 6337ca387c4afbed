-- What the exit status of `check` says.
use Rattle.std.proofs.Common.{◌≢◌, ℕ, List, inl, inr}
use Rattle.luks_reading.specs.declared.report.Data.{Data}
use Rattle.luks_reading.specs.declared.report.Version.{Version}
use Rattle.luks_reading.specs.declared.report.Version.TheVariants.{Luks1, Luks2}
use Rattle.luks_reading.specs.Checked.{WellFormed}
use Rattle.luks_reading.specs.Reported.{IsVersion}
use Rattle.luks2_header.specs.Selection.{luks2, Chosen}
use Rattle.luks2_header.specs.declared.selection.Copies.{Copies}
use Rattle.luks2_header.specs.declared.selection.Copies.TheVariants.{InStep, FirstNewer, SecondNewer, FirstOnly, SecondOnly}
use Rattle.luks_commands.specs.Checked.{EndsCheck, IsOutOfStep, status_of}

-- copies that aren't in step
out_of_step : (v : List ℕ) (o : ℕ) (copies : Copies) → Chosen v (luks2 o copies) → copies ≢ InStep → IsOutOfStep v
out_of_step v o copies held apart = record { place = o; copies = copies; chosen = held; apart = apart }

-- an accepted volume ends the command by how its copies stand
pub ends_accepted : (v : List ℕ) (payload : Data) (version : Version) → WellFormed v payload → IsVersion v version
    → EndsCheck v payload (status_of version)
ends_accepted v payload Luks1 formed held = (formed, inl held)
ends_accepted v payload (Luks2 InStep seqid) formed held = (formed, inr (held.0, held.1.0))
ends_accepted v payload (Luks2 FirstNewer seqid) formed held = (formed, out_of_step v held.0 FirstNewer held.1.0 (λ e. cc))
ends_accepted v payload (Luks2 SecondNewer seqid) formed held = (formed, out_of_step v held.0 SecondNewer held.1.0 (λ e. cc))
ends_accepted v payload (Luks2 FirstOnly seqid) formed held = (formed, out_of_step v held.0 FirstOnly held.1.0 (λ e. cc))
ends_accepted v payload (Luks2 SecondOnly seqid) formed held = (formed, out_of_step v held.0 SecondOnly held.1.0 (λ e. cc))
