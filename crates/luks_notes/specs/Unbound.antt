-- A keyslot whose key is of no segment (LUKS2 On-Disk Format 1.1, 3.5).
use Rattle.std.specs.Prelude.{◌≡◌, ℕ, List, [], ◌∷◌, ◌++◌, codes}
use Rattle.std.specs.Fmt.{decimal}
use Rattle.serde_json.specs.Data.{Data}
use Rattle.luks_rules.specs.declared.table.Section.TheVariants.{Digests}
use Rattle.luks_meta.specs.declared.digests.Digest.{Digest}
use Rattle.luks_meta.specs.Content.{content}
use Rattle.luks_meta.specs.Naming.{IsDigestOf}
use Rattle.luks_meta.specs.Objects.{IsObject}
use Rattle.luks_meta.specs.Says.{TellsDigest}
use Rattle.luks_reading.specs.declared.header.Header.{Header}
use Rattle.luks_reading.specs.declared.header.Header.TheVariants.{Luks1, Luks2}

-- the digest of the metadata `j` that names the keyslot `n` names no segment
pub record IsUnboundIn (j : Data) (n : ℕ) : Type 0 where
  pub number : ℕ
  pub names : IsDigestOf j n number
  pub digest : Digest
  pub told : IsObject TellsDigest j Digests number digest
  pub none : digest.segments.items ≡ []

-- LUKS1 has no such keyslot
abbrev pub IsUnbound : Header → ℕ → Type 0
IsUnbound (Luks1 bytes) n = ⊥
IsUnbound (Luks2 copy) n = IsUnboundIn (content copy.meta) n

-- what is said of one
abbrev pub unbound_line : ℕ → List ℕ
unbound_line n = codes "luks: keyslot " ++ decimal n ++ codes ": its key is of no segment, so that it opens no data" ++ 10 ∷ []
