-- What the steps of a selection answer: words of private contracts.
use Rattle.std.specs.Prelude.{◌≡◌, ◌≢◌, ℕ, ◌<◌, List, Option, None, Some}
use Rattle.luks1_header.specs.Header1.{HasMagic, version_of}
use Rattle.luks1_header.specs.declared.fault.HeadFault.{HeadFault}
use Rattle.luks1_header.specs.declared.fault.HeadFault.TheVariants as fault
use Rattle.luks2_header.specs.Header2.{header_at, HoldsBin2, IsSound}
use Rattle.luks2_header.specs.Selection.{IsChosenCopy, HasNoSoundCopy}
use Rattle.luks2_header.specs.declared.bin2.Bin2.{Bin2}
use Rattle.luks2_header.specs.declared.selection.Copies.{Copies}
use Rattle.luks2_header.specs.declared.selection.Copies.TheVariants.{InStep, FirstNewer, SecondNewer, FirstOnly, SecondOnly}

-- of two sound copies, `h` is the chosen one
abbrev pub IsNewer : Bin2 → Bin2 → Bin2 → Copies → Type 0
IsNewer first second h InStep = (first.seqid ≡ second.seqid) × (h ≡ first)
IsNewer first second h FirstNewer = (second.seqid < first.seqid) × (h ≡ first)
IsNewer first second h SecondNewer = (first.seqid < second.seqid) × (h ≡ second)
IsNewer first second h FirstOnly = ⊥
IsNewer first second h SecondOnly = ⊥

-- `h` is the binary header of the chosen copy
pub record HoldsChosenCopy (v : List ℕ) (h : Bin2) (copies : Copies) : Type 0 where
  pub chosen : IsChosenCopy v h.hdr_offset copies
  pub fields : HoldsBin2 (header_at v h.hdr_offset) h

-- the chosen copy, where there is one
abbrev pub FindsChosenCopy : List ℕ → Option (Bin2 × Copies) → Type 0
FindsChosenCopy v None = HasNoSoundCopy v
FindsChosenCopy v (Some p) = HoldsChosenCopy v p.0 p.1

-- a first copy that is there is of the size o
abbrev pub IsSizeOfFirst : Option Bin2 → ℕ → Type 0
IsSizeOfFirst None o = Unit {0}
IsSizeOfFirst (Some first) o = first.hdr_size ≡ o

-- the chosen copy, where the first one is sound
abbrev pub FindsChosenByFirst : List ℕ → Option (Bin2 × Copies) → Type 0
FindsChosenByFirst v None = IsSound v 0 → ⊥
FindsChosenByFirst v (Some p) = HoldsChosenCopy v p.0 p.1

-- why nothing is chosen, by the volume's first bytes
abbrev pub IsNoHeaderFault : List ℕ → HeadFault → Type 0
IsNoHeaderFault h fault.NotLuks = HasMagic h → ⊥
IsNoHeaderFault h fault.Version = HasMagic h × (version_of h ≢ 2)
IsNoHeaderFault h fault.NoSoundCopy = HasMagic h × (version_of h ≡ 2)
IsNoHeaderFault h f = ⊥
