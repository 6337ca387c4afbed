-- The version of the header that a command line asks to rebuild.
use Rattle.std.specs.Prelude.{Bool, ◌||◌, ◌&&◌, not, is_some, if◌then◌else◌}
use Rattle.luks_request.specs.declared.rebuilding.Luks1Fields.{Luks1Fields}
use Rattle.luks_request.specs.declared.rebuilding.Meant.{Meant}
use Rattle.luks_request.specs.declared.rebuilding.Meant.TheVariants.{Luks1, Luks2, Either}
use Rattle.luks_request.specs.declared.rebuilding.Rebuilding.{Rebuilding}

-- a field is given that a LUKS1 header alone has
abbrev pub names_field : Luks1Fields → Bool
names_field given =
    is_some given.cipher_name || is_some given.cipher_mode || is_some given.hash || is_some given.key_bytes || is_some given.payload

-- a copy of a LUKS2 header is named, by its place or by its size
abbrev pub names_place : Rebuilding → Bool
names_place rebuilding = rebuilding.second || is_some rebuilding.size

-- what is damaged of a header is sought by a passphrase
abbrev pub searches : Rebuilding → Bool
searches rebuilding = is_some rebuilding.passphrase && rebuilding.thorough

-- The size of a data sector means LUKS2. Without it such a field means LUKS1, and so does a passphrase by which nothing is sought;
-- else such a place LUKS2; else it may be either.
abbrev pub meant_by : Rebuilding → Meant
meant_by rebuilding =
    if is_some rebuilding.sector_size then Luks2
    else if names_field rebuilding.luks1 || (is_some rebuilding.passphrase && not rebuilding.thorough) then Luks1
    else if names_place rebuilding then Luks2 else Either
