-- The places where LUKS volumes begin on a disk, by what is left of them.
use Rattle.std.specs.Prelude.{◌≡◌, ◌≢◌, ℕ, ◌+◌, ◌*◌, ◌<◌, ◌≤◌, ◌⊎◌, ◌==◌, List, codes, drop, length, slice_index, if◌then◌else◌}
use Rattle.luks_area.specs.Ranges.{part}
use Rattle.luks1_header.specs.Header1.{header_text, key_bytes_of, luks_magic, luks1_size, mk_digest_iterations_of, version_of, HasMagic}
use Rattle.luks1_header.specs.declared.fault.TextField.{TextField}
use Rattle.luks1_mending.specs.Signs.{HasSigns}
use Rattle.luks1_mending.specs.Taken.{IsUsable}
use Rattle.luks_signatures.specs.Reencryption.{reencrypting_magic}
use Rattle.luks2_header.specs.Header2.{binary_header_size, hdr_size, header_at, second_magic, IsSound}
use Rattle.luks2_header.specs.Sizes.{IsListed}
use Rattle.luks_wider.specs.Wide.{IsWiderFault}
use Rattle.luks_wider.specs.declared.fault.WideFault.{WideFault}
use Rattle.luks_rebuilding.specs.Candidates.{json_of, IsPlace}
use Rattle.luks_rebuilding.specs.declared.place.Place.{Place}

-- the bytes of a sector
abbrev pub sector_size : ℕ
sector_size = 512

-- the first 8 bytes of a volume are the magic and version 1 or 2 (LUKS1 On-Disk Format 1.2.3, "The partition header";
-- LUKS2 On-Disk Format 1.1, 2.1)
pub record BeginsLuks (b : List ℕ) : Type 0 where
  pub long : length b ≡ 8
  pub magic : HasMagic b
  pub version : (version_of b ≡ 1) ⊎ (version_of b ≡ 2)

-- they are those of a LUKS1 volume that cryptsetup is in the midst of reencrypting
pub record BeginsReencrypting (b : List ℕ) : Type 0 where
  pub long : length b ≡ 8
  pub magic : part b 0 6 ≡ reencrypting_magic
  pub version : version_of b ≡ 1

abbrev pub BeginsHeader : List ℕ → Type 0
BeginsHeader b = BeginsLuks b ⊎ BeginsReencrypting b

-- each field before the keyslots of these 592 bytes is usable as it stands
pub record IsUsableHead (h : List ℕ) : Type 0 where
  pub texts : (t : TextField) → IsUsable t (header_text h t)
  pub key_at_least : 1 ≤ key_bytes_of h
  pub key_at_most : key_bytes_of h ≤ 128
  pub iterated : mk_digest_iterations_of h ≡ 0 → ⊥

-- They are a LUKS1 header in a volume of `total` bytes of which `rebuild` makes one, with nothing given: they have signs of one,
-- and their fields are usable. Neither the magic of a second copy nor that of a reencryption stands first, nor the brace of a
-- JSON area.
pub record IsLuks1Header (h : List ℕ) (total : ℕ) : Type 0 where
  pub no_copy : part h 0 6 ≡ second_magic → ⊥
  pub settled : part h 0 6 ≡ reencrypting_magic → ⊥
  pub no_text : part h 0 1 ≡ codes "{" → ⊥
  pub signs : HasSigns h total
  pub usable : IsUsableHead h

-- the volume that begins at the place `s` of the disk `v`: what follows, to the disk's end
abbrev pub volume_at : List ℕ → ℕ → List ℕ
volume_at v s = drop s v

-- one begins at the place `s` of the disk, whatever is in the place of its magic and its version
pub record BeginsLuks1 (v : List ℕ) (s : ℕ) : Type 0 where
  pub whole : s + luks1_size ≤ length v
  pub header : IsLuks1Header (part v s luks1_size) (length (volume_at v s))

-- a header begins there, with its magic or without it
abbrev pub BeginsVolume : List ℕ → ℕ → Type 0
BeginsVolume v s = BeginsHeader (part v s 8) ⊎ BeginsLuks1 v s

-- the sign at the place `p` of a volume that begins at `s`: its header, of LUKS1 also without its magic
pub record IsHeaderSign (v : List ℕ) (s p : ℕ) : Type 0 where
  pub here : p ≡ s
  pub begins : BeginsVolume v s

-- the sign at the place `p` of a volume that begins at `s`: its second copy, which is sound, and so names its distance
-- from the start as its size and as its place (LUKS2 On-Disk Format 1.1, 2.1)
pub record IsCopySign (v : List ℕ) (s p : ℕ) : Type 0 where
  pub size : ℕ
  pub listed : IsListed size
  pub there : p ≡ s + size
  pub sound : IsSound (volume_at v s) size

-- the magic of the other copy than the one at the place `o` of a volume
abbrev pub other_magic : ℕ → List ℕ
other_magic o = if o == 0 then second_magic else luks_magic

-- the copy of the volume `w` at the place `at` is sound, and has this size
pub record IsSoundOf (w : List ℕ) (size at : ℕ) : Type 0 where
  pub sound : IsSound w at
  pub sized : hdr_size (header_at w at) ≡ size

-- Another volume has a copy of the same size in the place of this one of the volume that begins at `s`, and its other copy,
-- which stands `at` bytes behind its start, is sound: so what stands here is explained by that volume.
pub record IsExplained (v : List ℕ) (s : ℕ) (copy : Place) : Type 0 where
  pub start : ℕ
  pub another : start ≢ s
  pub at : ℕ
  pub half : (at ≡ 0) ⊎ (at ≡ copy.size)
  pub sound : IsSoundOf (volume_at v start) copy.size at
  pub there : start + copy.size ≡ s + copy.at + at

-- the JSON area of the copy of the volume `w` has none of the faults of metadata: by the rules of what is under way, where
-- something is
pub record IsWholeCopy (w : List ℕ) (copy : Place) : Type 0 where
  pub is_place : IsPlace (length w) copy
  pub faultless : (f : WideFault) → IsWiderFault (json_of w copy) f → ⊥

-- the copy of the volume that begins at `s` has metadata that is whole. A JSON area doesn't say of which copy it is: it
-- counts for none of one where the magic of the other comes before it, or where a sound copy says that it is the other
-- copy of another volume.
pub record HasMetadata (v : List ℕ) (s : ℕ) (copy : Place) : Type 0 where
  pub whole : IsWholeCopy (volume_at v s) copy
  pub own : part v (s + copy.at) 6 ≡ other_magic copy.at → ⊥
  pub unexplained : IsExplained v s copy → ⊥

-- the sign at the place `p` of a volume that begins at `s`: the JSON area of its first or of its second copy
pub record IsMetadataSign (v : List ℕ) (s p : ℕ) : Type 0 where
  pub copy : Place
  pub there : p ≡ s + copy.at + binary_header_size
  pub has : HasMetadata v s copy

-- a sign of a volume that begins at `s`, which is a sector's place, is at the place `p` of the disk `v`
pub record IsSign (v : List ℕ) (s p : ℕ) : Type 0 where
  pub sector : ℕ
  pub there : s ≡ sector_size * sector
  pub is : IsHeaderSign v s p ⊎ IsCopySign v s p ⊎ IsMetadataSign v s p

-- a volume begins at the place `s` of the disk `v`, as one of its signs tells
pub record IsStart (v : List ℕ) (s : ℕ) : Type 0 where
  pub place : ℕ
  pub sign : IsSign v s place

-- a sign of the volume comes before the place `p`
pub record HasSignBefore (v : List ℕ) (s p : ℕ) : Type 0 where
  pub place : ℕ
  pub before : place < p
  pub sign : IsSign v s place

-- the volume's first sign is at the place `p`
pub record IsFirstSign (v : List ℕ) (s p : ℕ) : Type 0 where
  pub sign : IsSign v s p
  pub first : HasSignBefore v s p → ⊥

-- the number is one of the list
pub record IsAmong (list : List ℕ) (n : ℕ) : Type 0 where
  pub index : ℕ
  pub within : index < length list
  pub is : slice_index list index ≡ n

-- a first sign at the place `p`, of the volume at `s`, comes before one at `q`, of the volume at `t`: it comes before it, or
-- at the same place and its volume begins first
abbrev pub ComesBefore : ℕ → ℕ → ℕ → ℕ → Type 0
ComesBefore p s q t = (p < q) ⊎ ((p ≡ q) × (s < t))

-- the volumes are in the list in the order of their first signs
abbrev pub AreInOrder : List ℕ → List ℕ → Type 0
AreInOrder v list = (i j p q : ℕ) → i < j → j < length list → IsFirstSign v (slice_index list i) p → IsFirstSign v (slice_index list j) q
    → ComesBefore p (slice_index list i) q (slice_index list j)

-- the list has each start of the disk, and no other place, each once and in the order of the first signs
pub record AreStarts (v list : List ℕ) : Type 0 where
  pub sound : (i : ℕ) → i < length list → IsStart v (slice_index list i)
  pub complete : (s : ℕ) → IsStart v s → IsAmong list s
  pub once : (i j : ℕ) → i < j → j < length list → slice_index list i ≡ slice_index list j → ⊥
  pub in_order : AreInOrder v list
