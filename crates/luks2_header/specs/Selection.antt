-- Which header of a volume is chosen (LUKS2 On-Disk Format 1.1, 2.1 and 4.5; the rule for a tie is the project's own).
use Rattle.std.specs.Prelude.{◌≡◌, ◌≢◌, ℕ, ◌≤◌, ◌<◌, List, length}
use Rattle.luks_area.specs.First.{IsLeast}
use Rattle.luks_area.specs.Ranges.{part}
use Rattle.luks1_header.specs.Faults.{head_key}
use Rattle.luks1_header.specs.Header1.{luks1_size, HasMagic, version_of}
use Rattle.luks1_header.specs.declared.fault.HeadFault.{HeadFault}
use Rattle.luks1_header.specs.declared.fault.HeadFault.TheVariants as fault
use Rattle.luks2_header.specs.Header2.{header_at, hdr_size, seqid, HoldsBin2, IsCopyWithin, IsSound}
use Rattle.luks2_header.specs.Sizes.{IsListed}
use Rattle.luks2_header.specs.SoundCopies.{KeepsJson}
use Rattle.luks2_header.specs.declared.selection.Copies.{Copies}
use Rattle.luks2_header.specs.declared.selection.Copies.TheVariants.{InStep, FirstNewer, SecondNewer, FirstOnly, SecondOnly}
use Rattle.luks2_header.specs.declared.selection.Selected.{Selected}
use Rattle.luks2_header.specs.declared.selection.Selected.TheVariants.{V1, V2}

-- where the second copy stands that belongs to the first
abbrev pub second_place : List ℕ → ℕ
second_place v = hdr_size (header_at v 0)

-- the sequence numbers of the two
abbrev pub first_seqid : List ℕ → ℕ
first_seqid v = seqid (header_at v 0)

abbrev pub second_seqid : List ℕ → ℕ
second_seqid v = seqid (header_at v (second_place v))

-- both copies are sound, the second at the first's hdr_size
pub record AreBothSound (v : List ℕ) : Type 0 where
  pub first : IsSound v 0
  pub second : IsSound v (second_place v)

-- the first copy is sound, and none at its hdr_size
pub record IsFirstAlone (v : List ℕ) : Type 0 where
  pub first : IsSound v 0
  pub no_second : IsSound v (second_place v) → ⊥

-- the first copy isn't sound, and o is the least listed place of a sound one
pub record IsSecondAlone (v : List ℕ) (o : ℕ) : Type 0 where
  pub no_first : IsSound v 0 → ⊥
  pub listed : IsListed o
  pub sound : IsSound v o
  pub least : (p : ℕ) → IsListed p → IsSound v p → o ≤ p

-- the chosen copy is the one at the place o, and the copies stand to each other so
abbrev pub IsChosenCopy : List ℕ → ℕ → Copies → Type 0
IsChosenCopy v o InStep = AreBothSound v × (first_seqid v ≡ second_seqid v) × (o ≡ 0)
IsChosenCopy v o FirstNewer = AreBothSound v × (second_seqid v < first_seqid v) × (o ≡ 0)
IsChosenCopy v o SecondNewer = AreBothSound v × (first_seqid v < second_seqid v) × (o ≡ second_place v)
IsChosenCopy v o FirstOnly = IsFirstAlone v × (o ≡ 0)
IsChosenCopy v o SecondOnly = IsSecondAlone v o

-- no copy is sound
pub record HasNoSoundCopy (v : List ℕ) : Type 0 where
  pub no_first : IsSound v 0 → ⊥
  pub no_second : (p : ℕ) → IsListed p → IsSound v p → ⊥

-- the volume has a LUKS1 header, by its magic and version
pub record IsVersion1 (v : List ℕ) : Type 0 where
  pub long : luks1_size ≤ length v
  pub magic : HasMagic v
  pub version : version_of v ≡ 1

-- the volume has no LUKS1 header, but room for one
pub record IsNotVersion1 (v : List ℕ) : Type 0 where
  pub long : luks1_size ≤ length v
  pub other : HasMagic v → version_of v ≢ 1

-- what is chosen: the LUKS1 header, the copy at a place, or nothing
pub data Choice : Type 0 where
  luks1 : Choice
  luks2 : ℕ → Copies → Choice
  nothing : Choice

-- what is chosen of the volume v
abbrev pub Chosen : List ℕ → Choice → Type 0
Chosen v luks1 = IsVersion1 v
Chosen v (luks2 o copies) = IsNotVersion1 v × IsChosenCopy v o copies
Chosen v nothing = (IsVersion1 v → ⊥) × (luks1_size ≤ length v → HasNoSoundCopy v)

-- the faults of a volume of which nothing is chosen
abbrev pub IsSelectFault : List ℕ → HeadFault → Type 0
IsSelectFault v fault.TooShort = length v < luks1_size
IsSelectFault v fault.NotLuks = Chosen v nothing × (HasMagic v → ⊥)
IsSelectFault v fault.Version = Chosen v nothing × (version_of v ≢ 2)
IsSelectFault v fault.NoSoundCopy = Chosen v nothing
IsSelectFault v _ = ⊥

-- what was selected is what is chosen of the volume v
abbrev pub IsSelected : List ℕ → Selected → Type 0
IsSelected v (V1 bytes) = Chosen v luks1 × (bytes ≡ part v 0 luks1_size)
IsSelected v (V2 header copies) =
    Chosen v (luks2 header.hdr_offset copies) × HoldsBin2 (header_at v header.hdr_offset) header

-- a LUKS2 copy that was selected lies inside a device of `total` bytes
abbrev pub IsSelectedWithin : ℕ → Selected → Type 0
IsSelectedWithin total (V1 bytes) = Unit {0}
IsSelectedWithin total (V2 header copies) = IsCopyWithin total header

-- `json` is the first 12288 bytes of the JSON area of the LUKS2 copy that was selected; in a header
-- of the least size, of 16384 bytes, they are all of it
abbrev pub KeepsSelectedJson : List ℕ → List ℕ → Selected → Type 0
KeepsSelectedJson v json (V1 bytes) = Unit {0}
KeepsSelectedJson v json (V2 header copies) = KeepsJson v json header

-- the selection is refused by the fault f, which is the volume's own unless a device call failed
abbrev pub IsRefused : List ℕ → HeadFault → Type 0
IsRefused v fault.Device = Unit {0}
IsRefused v f = IsLeast head_key (IsSelectFault v) f

-- the faults that a selection answers on any device
abbrev pub IsOfSelection : HeadFault → Type 0
IsOfSelection fault.TooShort = Unit {0}
IsOfSelection fault.NotLuks = Unit {0}
IsOfSelection fault.Version = Unit {0}
IsOfSelection fault.NoSoundCopy = Unit {0}
IsOfSelection fault.Device = Unit {0}
IsOfSelection f = ⊥
