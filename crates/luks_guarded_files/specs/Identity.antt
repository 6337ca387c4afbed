-- When two names are of one file.
use Rattle.std.specs.Prelude.{◌≡◌, ◌≢◌, ◌⊎◌}
use Rattle.luks_guarded_files.specs.declared.system.Found.{Found}
use Rattle.luks_guarded_files.specs.declared.system.Kind.TheVariants.{Block}

-- What the system tells of both is told of one file: of one block device by nodes of the same number, in whichever folders
-- these stand, or of a file of another kind by the same number in the same file system.
abbrev pub AreOfOneFile : Found → Found → Type 0
AreOfOneFile one other = ((one.kind ≡ Block) × (other.kind ≡ Block) × (one.device ≡ other.device))
    ⊎ ((one.kind ≢ Block) × (other.kind ≢ Block) × (one.system ≡ other.system) × (one.inode ≡ other.inode))
