-- How far the header goes that counts of a volume (LUKS1 1.2.3, "The partition header"; LUKS2 On-Disk Format 1.1, 2.1).
use Rattle.std.specs.Prelude.{◌≡◌, ℕ, ◌+◌, List, Option, None, Some}
use Rattle.luks1_header.specs.Header1.{luks1_size}
use Rattle.luks2_header.specs.Header2.{header_at, hdr_size}
use Rattle.luks2_header.specs.Selection.{Chosen, luks1, luks2, nothing}
use Rattle.luks2_header.specs.declared.selection.Copies.{Copies}

-- the header that counts of the volume v is in its first n bytes: that of LUKS1 alone, of LUKS2 both copies, each of the
-- size that the one that counts names
pub data EndsHeader (v : List ℕ) (n : ℕ) : Type 0 where
  of_luks1 : Chosen v luks1 → n ≡ luks1_size → EndsHeader v n
  of_luks2 : (o : ℕ) (copies : Copies) → Chosen v (luks2 o copies)
      → n ≡ hdr_size (header_at v o) + hdr_size (header_at v o) → EndsHeader v n

-- what was found of where it ends: nothing just where no header counts
abbrev pub EndsAt : List ℕ → Option ℕ → Type 0
EndsAt v None = Chosen v nothing
EndsAt v (Some n) = EndsHeader v n
