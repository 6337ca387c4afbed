-- The ciphers of key areas, and what they make of a sector.
use Rattle.std.specs.Prelude.{ℕ, ◌==◌, ◌||◌, List, ◌++◌, Bool, Option, Some, None, codes, if◌then◌else◌}
use Rattle.std.specs.Str.{bytes_eq}
use Rattle.luks_modes.specs.declared.vectors.IvKind.{IvKind}
use Rattle.luks_modes.specs.declared.vectors.IvKind.TheVariants.{Plain, Plain64, Essiv}
use Rattle.luks_modes.specs.Cbc.{CbcOpen, CbcSeal}
use Rattle.luks_modes.specs.Xts.{XtsOpen, XtsSeal}
use Rattle.luks_slot.specs.declared.plan.AreaCipher.{AreaCipher}
use Rattle.luks_slot.specs.declared.plan.AreaCipher.TheVariants.{Apart, Whole}
use Rattle.luks_slot.specs.declared.cipher.AreaKey.{AreaKey}
use Rattle.luks_slot.specs.declared.cipher.AreaKey.TheVariants as key
use Rattle.luks_slot.specs.declared.cipher.SectorCipher.{SectorCipher}
use Rattle.luks_slot.specs.declared.cipher.SectorCipher.TheVariants.{Xts, Cbc}

-- the kind of the IVs of a mode of older disks
abbrev pub ivs_of_mode : List ℕ → Option IvKind
ivs_of_mode mode =
    if bytes_eq mode (codes "cbc-essiv:sha256") then Some Essiv
    else if bytes_eq mode (codes "cbc-plain") then Some Plain
    else if bytes_eq mode (codes "cbc-plain64") then Some Plain64
    else None

-- the same of a whole text
abbrev pub ivs_of_text : List ℕ → Option IvKind
ivs_of_text text =
    if bytes_eq text (codes "aes-cbc-essiv:sha256") then Some Essiv
    else if bytes_eq text (codes "aes-cbc-plain") then Some Plain
    else if bytes_eq text (codes "aes-cbc-plain64") then Some Plain64
    else None

-- the same of a cipher of older disks: aes in cbc mode
abbrev pub older_ivs : AreaCipher → Option IvKind
older_ivs (Apart name mode) = if bytes_eq name.now (codes "aes") then ivs_of_mode mode.now else None
older_ivs (Whole text) = ivs_of_text text.now

-- what decrypts the sectors of an area, by the text that names the cipher; a name and a mode are one
-- text with a hyphen between them (an area with another cipher is refused)
abbrev pub cipher_by : Option IvKind → SectorCipher
cipher_by None = Xts
cipher_by (Some ivs) = Cbc ivs

abbrev pub cipher_named : List ℕ → SectorCipher
cipher_named text = cipher_by (ivs_of_text text)

abbrev pub cipher_of : AreaCipher → SectorCipher
cipher_of (Apart name mode) = cipher_named (name.now ++ codes "-" ++ mode.now)
cipher_of (Whole text) = cipher_named text.now

-- the lengths in bytes of its keys: two keys of AES-128 or AES-256 (IEEE 1619, 5.1), or one of AES-128,
-- AES-192 or AES-256
abbrev pub is_size_of : SectorCipher → ℕ → Bool
is_size_of Xts n = n == 32 || n == 64
is_size_of (Cbc ivs) n = n == 16 || n == 24 || n == 32

-- the key of these bytes
abbrev pub keyed : SectorCipher → List ℕ → AreaKey
keyed Xts bytes = key.Xts bytes
keyed (Cbc ivs) bytes = key.Cbc (record { bytes = bytes; ivs = ivs })

-- the sector of a number, decrypted and encrypted
abbrev pub sector_opened : AreaKey → ℕ → List ℕ → List ℕ
sector_opened (key.Xts bytes) = XtsOpen bytes
sector_opened (key.Cbc cbc) = CbcOpen cbc

abbrev pub sector_sealed : AreaKey → ℕ → List ℕ → List ℕ
sector_sealed (key.Xts bytes) = XtsSeal bytes
sector_sealed (key.Cbc cbc) = CbcSeal cbc
