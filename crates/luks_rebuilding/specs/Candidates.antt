-- The places where metadata of a LUKS2 header is still whole in a volume, whatever comes before it (LUKS2
-- On-Disk Format 1.1, 2.1 and 3).
use Rattle.std.specs.Prelude.{◌≡◌, ◌≢◌, ◌⊎◌, ℕ, ◌+◌, ◌-◌, ◌≤◌, ◌==◌, List, [], ◌∷◌, Bool, codes, length, min, replicate, if◌then◌else◌, true, false, ⊤}
use Rattle.luks_area.specs.First.{IsLeast, NotAfter}
use Rattle.luks_area.specs.Ranges.{part}
use Rattle.luks2_header.specs.Header2.{header_at, seqid}
use Rattle.luks2_header.specs.Sizes.{IsListed}
use Rattle.luks_meta.specs.MetaFault.{IsMetaFault}
use Rattle.luks_rules.specs.declared.fault.MetaFault.{MetaFault}
use Rattle.luks_vouching.specs.Vouched.{IsVouched, Stands}
use Rattle.luks_rebuilding.specs.Shares.{IsShare}
use Rattle.luks_rebuilding.specs.declared.place.Copies.{Copies}
use Rattle.luks_rebuilding.specs.declared.place.Copies.TheVariants.{Any, Second, OfSize, SecondOfSize}
use Rattle.luks_rebuilding.specs.declared.place.Place.{Place}
use Rattle.luks_rebuilding.specs.declared.place.Which.{Which}

-- a copy of a listed size at the start of a volume of `total` bytes, or a second one behind it
pub record IsPlace (total : ℕ) (place : Place) : Type 0 where
  pub listed : IsListed place.size
  pub first_or_second : (place.at ≡ 0) ⊎ (place.at ≡ place.size)
  pub inside : place.at + place.size ≤ total

-- the JSON area of the copy: what follows the 4096 bytes of its binary header
abbrev pub json_of : List ℕ → Place → List ℕ
json_of v place = part v (place.at + 4096) (place.size - 4096)

-- the copy is one that is asked for
abbrev pub IsAsked : Copies → Place → Type 0
IsAsked Any place = ⊤
IsAsked Second place = place.at ≢ 0
IsAsked (OfSize size) place = place.size ≡ size
IsAsked (SecondOfSize size) place = (place.size ≡ size) × (place.at ≢ 0)

-- the JSON area of the copy has none of the faults of metadata
pub record IsCandidate (v : List ℕ) (copies : Copies) (place : Place) : Type 0 where
  pub is_place : IsPlace (length v) place
  pub asked : IsAsked copies place
  pub faultless : (f : MetaFault) → IsMetaFault (json_of v place) f → ⊥

-- the order of the candidates: first copies by size, then second copies by size
abbrev pub place_key : Place → List ℕ
place_key place = (if place.at == 0 then 1 else 2) ∷ place.size ∷ []

-- ---- what a header is made of

-- metadata, the copy that it belongs to, the sequence number of that copy's binary header where it vouches,
-- and what the new header keeps of it
pub record Source : Type 0 where
  pub size : ℕ
  pub at : ℕ
  pub json : List ℕ
  pub vouched : Bool
  pub number : ℕ
  pub seqid : ℕ
  pub label : List ℕ
  pub subsystem : List ℕ

abbrev pub place_of_source : Source → Place
place_of_source s = record { size = s.size; at = s.at }

-- the sequence number that follows this one; the greatest stays
abbrev pub next_seqid : ℕ → ℕ
next_seqid n = min (n + 1) 0xFFFF_FFFF_FFFF_FFFF

-- the checksum of the copy's binary header vouches for the metadata, by what may be hashed for it: sequence
-- number, label and subsystem are that header's
pub record IsVouchedSource (v : List ℕ) (which : Which) (s : Source) : Type 0 where
  pub asked : IsAsked which.copies (place_of_source s)
  pub most : ℕ
  pub share : IsShare v which.effort most
  pub vouched : IsVouched most v s.size s.at s.json
  pub number : s.number ≡ seqid (header_at v s.at)
  pub seqid : s.seqid ≡ next_seqid (seqid (header_at v s.at))
  pub label : s.label ≡ part (header_at v s.at) 24 48
  pub subsystem : s.subsystem ≡ part (header_at v s.at) 208 48

-- no checksum does: it is the copy's own JSON area; label and subsystem are empty
pub record IsPlainSource (v : List ℕ) (copies : Copies) (s : Source) : Type 0 where
  pub candidate : IsCandidate v copies (place_of_source s)
  pub json : s.json ≡ json_of v (place_of_source s)
  pub number : s.number ≡ 0
  pub seqid : s.seqid ≡ 1
  pub label : s.label ≡ replicate 48 0
  pub subsystem : s.subsystem ≡ replicate 48 0

-- a source that a checksum vouches for, and a plain one
abbrev pub IsVouchedOf : List ℕ → Which → Source → Type 0
IsVouchedOf v which s = (s.vouched ≡ true) × IsVouchedSource v which s

abbrev pub IsPlainOf : List ℕ → Which → Source → Type 0
IsPlainOf v which s = (s.vouched ≡ false) × IsPlainSource v which.copies s

-- what a header may be made of
abbrev pub IsSource : List ℕ → Which → Source → Type 0
IsSource v which s = IsVouchedOf v which s ⊎ IsPlainOf v which s

-- their order: those that a checksum vouches for, the newest first, then the others
abbrev pub source_key : Source → List ℕ
source_key s = if s.vouched
    then (1 ∷ (0xFFFF_FFFF_FFFF_FFFF - s.number) ∷ place_key (place_of_source s))
    else (2 ∷ place_key (place_of_source s))

-- the first of them
abbrev pub Taken : List ℕ → Which → Source → Type 0
Taken v which s = IsLeast source_key (IsSource v which) s

-- a copy whose JSON area begins as an object does (section 3.1), so that only its whole text tells
-- whether it has a fault
pub record IsBegun (v : List ℕ) (place : Place) : Type 0 where
  pub is_place : IsPlace (length v) place
  pub brace : part v (place.at + 4096) 1 ≡ codes "{"

-- such a copy is asked for, and no candidate comes before it: its text has to be read, in memory
pub record HasToBeRead (v : List ℕ) (copies : Copies) (place : Place) : Type 0 where
  pub begun : IsBegun v place
  pub asked : IsAsked copies place
  pub none_before : (other : Place) → IsCandidate v copies other → NotAfter (place_key place) (place_key other)

-- the binary header of a copy that is asked for stands: what it vouches for is sought, in memory
pub record HasToBeTried (v : List ℕ) (which : Which) (place : Place) : Type 0 where
  pub asked : IsAsked which.copies place
  pub stands : Stands v place.size place.at

-- there is a first one, and of it the statement holds
pub record OfTaken (v : List ℕ) (which : Which) (says : Source → Type 0) : Type 0 where
  pub source : Source
  pub taken : Taken v which source
  pub holds : says source
