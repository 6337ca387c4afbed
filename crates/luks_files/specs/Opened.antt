-- Which file is opened beside the volume of a command line.
use Rattle.std.specs.Prelude.{Option, None, Some}
use Rattle.luks_files.specs.declared.openings.Opening.{Opening}
use Rattle.luks_files.specs.declared.openings.Openings.{Openings}

abbrev pub first_of : Option Opening → Option Opening → Option Opening
first_of None other = other
first_of (Some opening) other = Some opening

-- what is written, or else the backup that is read
abbrev pub beside_of : Openings → Option Opening
beside_of openings = first_of openings.target openings.backup
