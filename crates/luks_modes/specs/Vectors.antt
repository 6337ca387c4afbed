-- What a key of CBC makes its IVs with.
use Rattle.std.specs.Prelude.{◌≡◌, ⊤, List, ℕ}
use Rattle.sha2.specs.Sha256.{sha256}
use Rattle.luks_modes.specs.declared.vectors.IvKind.{IvKind}
use Rattle.luks_modes.specs.declared.vectors.IvKind.TheVariants.{Plain, Plain64, Essiv}
use Rattle.luks_modes.specs.declared.vectors.Ivs.{Ivs}
use Rattle.luks_modes.specs.declared.vectors.Ivs.TheVariants as made

-- the kind of these
abbrev pub kind_of : Ivs → IvKind
kind_of made.Plain = Plain
kind_of made.Plain64 = Plain64
kind_of (made.Essiv _) = Essiv

-- these are of this key
abbrev pub are_of : Ivs → List ℕ → Type 0
are_of made.Plain key = ⊤
are_of made.Plain64 key = ⊤
are_of (made.Essiv hashed) key = hashed ≡ sha256 key
