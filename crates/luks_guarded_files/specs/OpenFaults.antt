-- Why a volume isn't opened.
use Rattle.std.specs.Prelude.{◌≡◌, ◌≢◌, ◌⊎◌}
use Rattle.std.specs.IoError.{error_kind}
use Rattle.std.specs.declared.io.Error.{Error}
use Rattle.std.specs.declared.io.ErrorKind.TheVariants.{ReadOnlyFilesystem}
use Rattle.luks_guarded_files.specs.declared.opening.OpenFault.{OpenFault}
use Rattle.luks_guarded_files.specs.declared.opening.OpenFault.TheVariants.{ReadOnly, File}

-- the fault of a call of the system that failed by this error
abbrev pub IsOfError : Error → OpenFault → Type 0
IsOfError error fault = ((error_kind error ≡ ReadOnlyFilesystem) × (fault ≡ ReadOnly)) ⊎ ((error_kind error ≢ ReadOnlyFilesystem) × (fault ≡ File error))
