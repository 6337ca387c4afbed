-- Signs of a LUKS1 header in 592 bytes (LUKS1 On-Disk Format 1.2.3, "The partition header" and its tables of
-- ciphers and hashes).
use Rattle.std.specs.Prelude.{◌≡◌, ◌⊎◌, ℕ, ◌*◌, ◌^◌, ◌<◌, ◌≤◌, List, codes}
use Rattle.luks1_header.specs.Faults.{HasUnknownState}
use Rattle.luks1_header.specs.Header1.{entry, entry_key_material_offset, entry_stripes, header_text, luks1_size, mk_digest_iterations_of, HasMagic}
use Rattle.luks1_header.specs.declared.fault.TextField.TheVariants.{CipherName, HashSpec}

-- a cipher of the standard
abbrev pub IsKnownCipher : List ℕ → Type 0
IsKnownCipher text =
    (text ≡ codes "aes") ⊎ (text ≡ codes "twofish") ⊎ (text ≡ codes "serpent")
    ⊎ (text ≡ codes "cast5") ⊎ (text ≡ codes "cast6")

-- a hash of the standard
abbrev pub IsKnownHash : List ℕ → Type 0
IsKnownHash text =
    (text ≡ codes "sha1") ⊎ (text ≡ codes "sha256") ⊎ (text ≡ codes "sha512") ⊎ (text ≡ codes "ripemd160")

-- the digest has iterations as a formatted volume has
abbrev pub HasUsualIterations : List ℕ → Type 0
HasUsualIterations h = (1000 ≤ mk_digest_iterations_of h) × (mk_digest_iterations_of h ≤ 2 ^ 31)

-- the keyslot `n` has one of the two words, and stripes that begin behind the header and inside a volume of
-- `total` bytes
pub record IsPlausible (h : List ℕ) (total n : ℕ) : Type 0 where
  pub numbered : n < 8
  pub stated : HasUnknownState (entry h n) → ⊥
  pub striped : 1 ≤ entry_stripes (entry h n)
  pub behind : luks1_size ≤ entry_key_material_offset (entry h n) * 512
  pub inside : entry_key_material_offset (entry h n) * 512 < total

abbrev pub HasPlausibleEntry : List ℕ → ℕ → Type 0
HasPlausibleEntry h total = (n : ℕ) × IsPlausible h total n

-- of four statements two hold
abbrev pub AreTwo : Type 0 → Type 0 → Type 0 → Type 0 → Type 0
AreTwo A B C D = (A × B) ⊎ (A × C) ⊎ (A × D) ⊎ (B × C) ⊎ (B × D) ⊎ (C × D)

-- the magic is there, or any two of the other signs
abbrev pub HasSigns : List ℕ → ℕ → Type 0
HasSigns h total =
    HasMagic h
    ⊎ AreTwo (IsKnownCipher (header_text h CipherName)) (IsKnownHash (header_text h HashSpec))
    (HasUsualIterations h) (HasPlausibleEntry h total)
