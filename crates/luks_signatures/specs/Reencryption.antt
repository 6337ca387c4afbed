-- A LUKS1 header while cryptsetup reencrypts its volume.
use Rattle.std.specs.Prelude.{ℕ, List, [], ◌∷◌}
use Rattle.luks_signatures.specs.Signatures.{Stands}

-- What cryptsetup writes in the place of the magic before it reencrypts a volume of LUKS1, so that nothing takes the
-- header for one until it is done (cryptsetup's `reencrypt`, and its cryptsetup-reencrypt): LUKS, and the bytes DE AD. All
-- other bytes of the header stay as they are.
abbrev pub reencrypting_magic : List ℕ
reencrypting_magic = 0x4C ∷ 0x55 ∷ 0x4B ∷ 0x53 ∷ 0xDE ∷ 0xAD ∷ []

-- the volume begins so
abbrev pub IsReencrypting : List ℕ → Type 0
IsReencrypting v = Stands v 0 reencrypting_magic
