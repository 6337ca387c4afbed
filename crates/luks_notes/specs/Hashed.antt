-- How much a command hashes at most to find what checksums vouch for.
use Rattle.std.specs.Prelude.{◌≡◌, ℕ, ◌+◌}
use Rattle.luks_rebuilding.specs.Shares.{whole}
use Rattle.luks_rebuilding.specs.declared.place.Effort.{Effort}
use Rattle.luks_rebuilding.specs.declared.place.Effort.TheVariants.{Brief, Usual, Thorough}
use Rattle.luks_notes.specs.declared.hashing.Hashing.{Hashing}

-- all searches of a command together hash at most 64 MiB of JSON areas
abbrev pub of_command : ℕ
of_command = 67108864

-- so many bytes are left of it, and all others may have been hashed
abbrev pub IsOfCommand : Hashing → Type 0
IsOfCommand hashing = hashing.hashed + hashing.left ≡ of_command

-- one search with this effort was counted
pub record CountsSearch (effort : Effort) (old new : Hashing) : Type 0 where
  pub hashed : new.hashed ≡ old.hashed + whole effort
  pub left : new.left + whole effort ≡ old.left

-- what is counted of a command's own search: what `--thorough` asks for beyond a usual one isn't
abbrev pub own : Effort → ℕ
own Brief = whole Brief
own Usual = whole Usual
own Thorough = whole Usual
