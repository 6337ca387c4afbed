-- Metadata that the checksum of a binary header vouches for (LUKS2 On-Disk Format 1.1, 2.1 and 3).
use Rattle.std.specs.Prelude.{◌≡◌, ◌⊎◌, ℕ, ◌+◌, ◌-◌, ◌*◌, ◌≤◌, List, ◌++◌, length, drop, Option, Some, None}
use Rattle.sha2.specs.Sha256.{sha256}
use Rattle.luks_area.specs.Ranges.{part}
use Rattle.luks2_header.specs.Header2.{csum_at, hdr_size, header_at, magic_of, sha256_size, with_zero_checksum, HoldsBin2, IsFormed}
use Rattle.luks2_header.specs.Sizes.{IsListed}
use Rattle.luks2_header.specs.declared.bin2.Bin2.{Bin2}
use Rattle.luks_meta.specs.Accepted.{IsMeta}
use Rattle.luks_meta.specs.Content.{content}
use Rattle.luks_meta.specs.MetaFault.{IsMetaFault}
use Rattle.luks_rules.specs.declared.fault.MetaFault.{MetaFault}
use Rattle.luks_vouching.specs.Tried.{IsCutShort, IsFirstTried, IsNoneTried}
use Rattle.luks_vouching.specs.declared.vouched.Vouched.{Vouched}

-- the JSON area of the copy at `o` of a header of `size` bytes: what follows its binary header
abbrev pub area_at : List ℕ → ℕ → ℕ → List ℕ
area_at v o size = part v (o + 4096) (size - 4096)

-- the binary header at `o` with the magic of its place, whatever is in place of the magic
abbrev pub mended_header : List ℕ → ℕ → List ℕ
mended_header v o = magic_of o ++ drop 6 (header_at v o)

-- except for its magic the binary header of the copy at `o` of a header of `size` bytes is of the right
-- form, and both copies lie inside the volume
pub record Stands (v : List ℕ) (size o : ℕ) : Type 0 where
  pub listed : IsListed size
  pub first_or_second : (o ≡ 0) ⊎ (o ≡ size)
  pub both_inside : 2 * size ≤ length v
  pub form : IsFormed (mended_header v o) o (length v)
  pub own_size : hdr_size (mended_header v o) ≡ size

-- the checksum of the binary header `head` is the SHA-256 of that header, the bytes of the checksum
-- taken as zeros, and of the JSON area `j` behind it
abbrev pub MeetsSum : List ℕ → List ℕ → Type 0
MeetsSum head j = part head csum_at sha256_size ≡ sha256 (with_zero_checksum head ++ j)

-- `j` meets the checksum of the copy at `o`, taken with the magic of its place
abbrev pub Meets : List ℕ → ℕ → List ℕ → Type 0
Meets v o = MeetsSum (mended_header v o)

-- the binary header of the copy at `o` stands, and its checksum is met by this JSON area
abbrev pub IsMetAt : List ℕ → ℕ → ℕ → List ℕ → Type 0
IsMetAt v size o j = Stands v size o × Meets v o j

-- `j` is the first composition of both copies' JSON areas that meets the checksum of the copy at `o`, of those for
-- which at most so many bytes are hashed
abbrev pub IsMeeting : ℕ → List ℕ → ℕ → ℕ → List ℕ → Type 0
IsMeeting most v size o j = IsFirstTried most (area_at v 0 size) (area_at v size size) (Meets v o) j

-- the binary header of the copy at `o` vouches for the metadata `j`: it stands, and `j` is the first
-- composition that meets its checksum, and has none of the faults of metadata
pub record IsVouched (most : ℕ) (v : List ℕ) (size o : ℕ) (j : List ℕ) : Type 0 where
  pub stands : Stands v size o
  pub meeting : IsMeeting most v size o j
  pub faultless : (f : MetaFault) → IsMetaFault j f → ⊥

-- the first composition of the two areas that meets the checksum of the binary header `head` is no
-- metadata
pub record HasFault (most : ℕ) (head first second : List ℕ) : Type 0 where
  pub area : List ℕ
  pub meeting : IsFirstTried most first second (MeetsSum head) area
  pub fault : MetaFault
  pub is : IsMetaFault area fault

-- no composition that is tried meets the checksum, or the first that does is no metadata
abbrev pub ComposesNone : ℕ → List ℕ → List ℕ → List ℕ → Type 0
ComposesNone most head first second = IsNoneTried most first second (MeetsSum head) ⊎ HasFault most head first second

-- the copy's binary header vouches for none: it doesn't stand, or else by the reasons above
abbrev pub VouchesForNone : ℕ → List ℕ → ℕ → ℕ → Type 0
VouchesForNone most v size o = (Stands v size o → ⊥) ⊎ ComposesNone most (mended_header v o) (area_at v 0 size) (area_at v size size)

-- what is composed of two areas by the checksum of a binary header
abbrev pub FindsComposed : ℕ → List ℕ → List ℕ → List ℕ → Option Vouched → Type 0
FindsComposed most head first second None = ComposesNone most head first second
FindsComposed most head first second (Some w) =
    IsFirstTried most first second (MeetsSum head) w.json.items
    × ((f : MetaFault) → IsMetaFault w.json.items f → ⊥)
    × HoldsBin2 head w.header

-- what is judged of one JSON area
abbrev pub JudgesArea : List ℕ → List ℕ → Option Vouched → Type 0
JudgesArea head j None = (f : MetaFault) × IsMetaFault j f
JudgesArea head j (Some w) = ((f : MetaFault) → IsMetaFault j f → ⊥) × HoldsBin2 head w.header

-- the binary header of the copy, with the magic of its place, if it stands
abbrev pub FindsStanding : List ℕ → ℕ → ℕ → Option Bin2 → Type 0
FindsStanding v size o None = Stands v size o → ⊥
FindsStanding v size o (Some h) = Stands v size o × HoldsBin2 (mended_header v o) h

-- what is found for the copy
abbrev pub FindsVouched : ℕ → List ℕ → ℕ → ℕ → Option Vouched → Type 0
FindsVouched most v size o None = VouchesForNone most v size o
FindsVouched most v size o (Some w) = IsVouched most v size o w.json.items × HoldsBin2 (mended_header v o) w.header

-- on any device of `total` bytes: a header of a listed size, and metadata that was accepted
pub record IsVouchedWithin (size total : ℕ) (w : Vouched) : Type 0 where
  pub both_inside : 2 * size ≤ total
  pub long : length w.json.items ≡ size - 4096
  pub meta : IsMeta w.json.items (content w.meta)

-- the binary header of the copy at `o` stands, and not all compositions are tried by its checksum
abbrev pub IsCutShortAt : ℕ → List ℕ → ℕ → ℕ → Type 0
IsCutShortAt most v size o = Stands v size o × IsCutShort most (area_at v 0 size) (area_at v size size)
